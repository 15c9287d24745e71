-- The tree that records in lists show.
use Rattle.std.specs.Prelude.{◌≡◌, ℕ, zero, suc, List, slice_get, Option, Some, None, option_map, if◌then◌else◌, nat_eq}
use Rattle.compound_node.specs.Nodes.{NodeView, piece, head_of}
use Rattle.compound_node.specs.declared.entries.Entry.{Entry}
use Rattle.compound_node.specs.declared.entries.Entry.TheVariants.{Leaf, Node}
use Rattle.tries.specs.Content.{Item}
use Rattle.tries.specs.Read.{join_node, read_subtrie}
use Rattle.tries.specs.Tree.{Subtrie, Fixed, Tree, leaf, node, fork, subtrie, IsTrie, IsBuilt}
use Rattle.plain_trie_records.specs.declared.leaf.LeafRecord.{LeafRecord}

-- The node record of this number has a node with this head, which shows this subtrie.
pub record IsNodeStored (nodes : List NodeView) (number : ℕ) (head : Fixed) (trie : Subtrie) : Type 0 where
  pub view : NodeView
  pub at : slice_get nodes number ≡ Some view
  pub fixed : head_of view ≡ head
  pub shows : piece view ≡ trie

-- the records show the tree: each of its nodes and leaves stands in the record of its number
abbrev pub ShowsTree : (nodes : List NodeView) → (leaves : List LeafRecord) → (tree : Tree) → Type 0
ShowsTree nodes leaves (leaf number key value) = slice_get leaves number ≡ Some (record { key = key; value = value })
ShowsTree nodes leaves (node number fixed body) = IsNodeStored nodes number fixed (subtrie body) × ShowsTree nodes leaves body
ShowsTree nodes leaves (fork position left right) = ShowsTree nodes leaves left × ShowsTree nodes leaves right

-- The tree of the node of this number, where `entry_shows` gives the tree of each of its entries. There is none if the node is missing or
-- has another height.
abbrev pub read_node : (entry_shows : Entry → Option Tree) → (number height : ℕ) → (view : Option NodeView) → Option Tree
read_node entry_shows number height (Some view) =
    if nat_eq view.height height then join_node number (head_of view) (read_subtrie entry_shows (piece view)) else None
read_node entry_shows number height None = None

-- The tree that an entry shows in these records. There is none if a record is missing, a node's height is not that of its entry, or a path
-- has more than `depth` nodes.
abbrev pub entry_tree : (nodes : List NodeView) → (leaves : List LeafRecord) → (depth : ℕ) → (entry : Entry) → Option Tree
entry_tree nodes leaves depth (Leaf number) = option_map (λ (stored : LeafRecord). leaf number stored.key stored.value) (slice_get leaves number)
entry_tree nodes leaves zero (Node number height) = None
entry_tree nodes leaves (suc depth) (Node number height) = read_node (entry_tree nodes leaves depth) number height (slice_get nodes number)

-- The tree is a bit trie, and each of its nodes is lawful: it has two entries or more, and a height above theirs.
pub record IsSound (tree : Tree) : Type 0 where
  pub trie : IsTrie tree
  pub built : IsBuilt tree

-- the records show the tree, which is sound
pub record ShowsSound (nodes : List NodeView) (leaves : List LeafRecord) (tree : Tree) : Type 0 where
  pub shown : ShowsTree nodes leaves tree
  pub sound : IsSound tree

-- the record of a leaf with this key and value
abbrev pub item_record : Item → LeafRecord
item_record item = record { key = item.key; value = item.value }
