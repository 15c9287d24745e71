-- What a node becomes, before it has records.
use Rattle.std.specs.Prelude.{◌≡◌, ℕ, ◌≤◌, List}
use Rattle.compound_node.specs.Nodes.{NodeView, height_of, piece}
use Rattle.compound_node.specs.declared.halves.Cut.{Cut}
use Rattle.compound_node.specs.declared.halves.Half.{Half}
use Rattle.compound_node.specs.declared.halves.Half.TheVariants.{One, Many, Same}
use Rattle.insert_cases.specs.declared.growth.Grown.{Grown}
use Rattle.insert_cases.specs.declared.growth.Grown.TheVariants.{One as Whole, Two}
use Rattle.compound_node.specs.declared.entries.Entry.TheVariants.{Leaf}
use Rattle.rowex_writing.specs.locks.Going.{IsNodeOf}
use Rattle.rowex_writing.specs.declared.build.remaking.Fork.{Fork}
use Rattle.rowex_writing.specs.declared.build.remaking.NewLeaf.{NewLeaf}
use Rattle.node_tries.specs.Piece.{Place, Fork as Branch}
use Rattle.tries.specs.Affected.{subtrie_grown}
use Rattle.tries.specs.Place.{spot, with_subtrie}
use Rattle.tries.specs.Tree.{Subtrie, Tree, subtrie, IsTrie, IsBuilt}

-- the subtrie is that at the top of some tree, which is a bit trie of lawful nodes
abbrev pub IsSubtrieOfTree : Subtrie → Type 0
IsSubtrieOfTree shown = (tree : Tree) × (subtrie tree ≡ shown) × IsTrie tree × IsBuilt tree

-- the subtrie with the new leaf in it, where its key first differs at the leaf's position
abbrev pub subtrie_with_leaf : NewLeaf → Subtrie → Subtrie
subtrie_with_leaf new shown = subtrie_grown new.position new.key.now (Leaf new.number) shown

-- The words are those of this node, and the search for the new leaf's key takes slot `new.slot` in it. With the leaf in it, the node's
-- subtrie is that at the top of some lawful tree.
pub record AwaitsLeaf (words : List ℕ) (node : NodeView) (new : NewLeaf) : Type 0 where
  pub is : IsNodeOf words node
  pub leads : spot new.key.now (piece node) ≡ new.slot
  pub tree : IsSubtrieOfTree (subtrie_with_leaf new (piece node))

-- the subtrie with the fork in place of one entry: the one on the path of the fork's key
abbrev pub subtrie_with_fork : Fork → Subtrie → Subtrie
subtrie_with_fork fork shown = with_subtrie fork.key.now (Branch fork.position (Place fork.zero) (Place fork.one)) shown

-- the half's entry has at most this height; of a half that is the old node nothing is said
abbrev pub IsLowHalf : (height : ℕ) → (half : Half) → Type 0
IsLowHalf height (One entry) = height_of entry ≤ height
IsLowHalf height (Many node) = node.height ≤ height
IsLowHalf height Same = Unit {0}

-- each half of the cut is at most this high; of a half that is the old node nothing is said
abbrev pub AreNoHigher : (height : ℕ) → (cut : Cut) → Type 0
AreNoHigher height cut = IsLowHalf height cut.zero × IsLowHalf height cut.one

-- what a node has grown to has at most this height: the one node, or each half of the cut that is not the old node
abbrev pub IsNoHigher : (height : ℕ) → (grown : Grown) → Type 0
IsNoHigher height (Whole node) = node.height ≤ height
IsNoHigher height (Two cut) = AreNoHigher height cut
