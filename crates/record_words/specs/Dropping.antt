-- A head that loses a row.
use Rattle.std.specs.List.{All}
use Rattle.std.specs.Prelude.{ℕ, ◌≡◌, ◌+◌, ◌<◌, List, length, remove, take}
use Rattle.compound_node.specs.Nodes.{HeadView, IsBuiltFrom, IsLawfulNode, NodeView, greatest_height, head_of, node_of, piece}
use Rattle.partial_keys.specs.Columns.{IsColumns}
use Rattle.partial_keys.specs.Squeezed.{IsRowOver, used_bits}
use Rattle.node_tries.specs.Changes.{without}
use Rattle.node_tries.specs.Kept.{kept}
use Rattle.record_words.specs.Node.{HasHead, head_words}
use Rattle.record_words.specs.declared.TheConstants.{HEAD_WORDS}

-- The words begin with the head of this lawful node, which is to lose the row of slot `at`. The node has an entry there, and two others at
-- least.
pub record CanDropAt (words : List ℕ) (node : NodeView) (at : ℕ) : Type 0 where
  pub lawful : IsLawfulNode node
  pub begins : head_words (head_of node) ≡ take HEAD_WORDS words
  pub in_range : at < length node.entries
  pub several : 2 < length node.entries

-- The words begin with the head of this lawful node, which is to keep only those columns that have a bit in `used`. The columns kept are
-- lawful (`IsColumns`). The rows, and `used`, have no bits beyond the node's columns.
pub record CanDropColumns (words : List ℕ) (node : NodeView) (rows : List ℕ) (used : ℕ) : Type 0 where
  pub lawful : IsLawfulNode node
  pub begins : head_words (head_of node) ≡ take HEAD_WORDS words
  pub over : All (IsRowOver (length node.columns)) rows
  pub used_over : IsRowOver (length node.columns) used
  pub left : IsColumns (kept (used_bits used) node.columns)

-- The new words begin with a head, and behind it are the old ones. If `height` is one above the greatest height of the entries left, the
-- head is that of a node built anew without slot `at`.
pub record HasHeadWithout (old new : List ℕ) (at height : ℕ) (node : NodeView) : Type 0 where
  pub head : HeadView
  pub has : HasHead old new head
  pub built : height ≡ 1 + greatest_height (remove node.entries at) → IsBuiltFrom (node_of head (remove node.entries at)) (without at (piece node))
