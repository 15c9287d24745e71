-- Which node of a path gets a new leaf, and how far up the change goes.
use Rattle.std.specs.Prelude.{◌≡◌, ℕ, ◌+◌, ◌-◌, ◌<◌, ◌≤◌, List, length, slice_get, Some, false, true}
use Rattle.insert_cases.specs.declared.choice.Choice.{Choice}
use Rattle.insert_cases.specs.declared.choice.PathNode.{PathNode}
use Rattle.insert_cases.specs.Ways.{case_of}

-- the level on the path of the last node whose first position is before this one, or of the first node if there is none
pub record IsLevel (way : List PathNode) (position level : ℕ) : Type 0 where
  pub within : level < length way
  pub low : 0 < level → (node : PathNode) → slice_get way level ≡ Some node → node.first_position < position
  pub rest : (lower : ℕ) (node : PathNode) → level < lower → slice_get way lower ≡ Some node → position ≤ node.first_position

-- The choice of the node that gets the new leaf, where the entries `first` to `last` are affected in the node at `level`. If they are
-- several, it is that node. If one is affected, and the path goes on to a further node, it is the further node, with all of its entries. If
-- the path ends, the one entry is a leaf, and it is the node at `level`. The case follows from the chosen node.
pub record IsChosen (way : List PathNode) (level first last : ℕ) (choice : Choice) : Type 0 where
  pub several : first < last → (node : PathNode) → slice_get way level ≡ Some node →
      choice ≡ record { level = level; first = first; last = last; case = case_of node.height node.count false }
  pub next : last ≤ first → (node : PathNode) → slice_get way (level + 1) ≡ Some node →
      choice ≡ record { level = level + 1; first = 0; last = node.count - 1; case = case_of node.height node.count false }
  pub leaf : last ≤ first → length way ≤ level + 1 → (node : PathNode) → slice_get way level ≡ Some node →
      choice ≡ record { level = level; first = first; last = last; case = case_of node.height node.count true }

-- What rises from a node of height `child` goes into its parent of height `parent`, since the parent is just one higher. Else a new node
-- would fit between the two.
abbrev pub IsPullUp : (child parent : ℕ) → Type 0
IsPullUp child parent = parent ≡ child + 1

-- The chain of pull ups from the node at index `level` of the path ends at index `end`, where index 0 is the topmost node. Each node of the
-- chain below the end is full, and its parent is one higher. The node at the end is topmost, or has room, or its parent is higher still.
pub record IsChainEnd (way : List PathNode) (level end : ℕ) : Type 0 where
  pub upto : end ≤ level
  pub pulls : (index : ℕ) (lower upper : PathNode) → end ≤ index → index < level → slice_get way (index + 1) ≡ Some lower → slice_get way index ≡ Some upper →
      (lower.count ≡ 32) × IsPullUp lower.height upper.height
  pub stops : (index : ℕ) (lower upper : PathNode) → index + 1 ≡ end → slice_get way end ≡ Some lower → slice_get way index ≡ Some upper →
      lower.count ≡ 32 → IsPullUp lower.height upper.height → ⊥
