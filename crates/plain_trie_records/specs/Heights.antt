-- What one call does to the nodes and their stored heights.
use Rattle.std.specs.Prelude.{◌≡◌, ◌⊎◌, ℕ, ◌+◌, ◌≤◌, List, length, slice_get, slice_set, Some}
use Rattle.compound_node.specs.Nodes.{NodeView, greatest_height}
use Rattle.compound_node.specs.declared.entries.Entry.{Entry}
use Rattle.compound_node.specs.declared.halves.Half.{Half}
use Rattle.compound_node.specs.declared.halves.Half.TheVariants.{One, Many, Same}
use Rattle.insert_cases.specs.declared.growth.Grown.{Grown}
use Rattle.insert_cases.specs.declared.growth.Grown.TheVariants.{One as Whole, Two}

-- The node is as it was, or has another entry in one slot. Its stored height stays the same.
abbrev pub Remains : (old new : NodeView) → Type 0
Remains old new = (new ≡ old) ⊎ ((place : ℕ) × (entry : Entry) × (new ≡ record old { entries = slice_set old.entries place entry }))

-- the node has the stored height that it got when it was built: one above the greatest of its entries, where a leaf counts 0
abbrev pub HasHeightAnew : NodeView → Type 0
HasHeightAnew node = node.height ≡ 1 + greatest_height node.entries

-- if the node has the columns and rows that it had before, it has the stored height that it had
abbrev pub KeepsHeight : (old new : NodeView) → Type 0
KeepsHeight old new = new.columns ≡ old.columns → new.rows ≡ old.rows → new.height ≡ old.height

-- No node record goes away. Each record has a node that remains, or one whose height is one above the greatest of its entries'. Where a
-- node's columns and rows are as before, so is its stored height.
pub record KeepsHeights (old new : List NodeView) : Type 0 where
  pub longer : length old ≤ length new
  pub each : (number : ℕ) (node : NodeView) → slice_get new number ≡ Some node →
      ((was : NodeView) × (slice_get old number ≡ Some was) × Remains was node) ⊎ HasHeightAnew node
  pub steady : (number : ℕ) (was node : NodeView) → slice_get old number ≡ Some was → slice_get new number ≡ Some node → KeepsHeight was node

-- If the half of a cut node is a new node with the old node's columns and rows, it has the old node's height. Any other half is steady.
abbrev pub IsHalfSteady : NodeView → Half → Type 0
IsHalfSteady old (One entry) = Unit {0}
IsHalfSteady old (Many node) = KeepsHeight old node
IsHalfSteady old Same = Unit {0}

-- each new node that a node has grown to keeps its height, if it has the old node's columns and rows
abbrev pub IsGrownSteady : NodeView → Grown → Type 0
IsGrownSteady old (Whole node) = KeepsHeight old node
IsGrownSteady old (Two cut) = IsHalfSteady old cut.zero × IsHalfSteady old cut.one
