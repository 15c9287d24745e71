-- What contracts see of a sequential trie, the tree that it shows, and the map that it is.
use Rattle.std.specs.Prelude.{◌≡◌, ℕ, List, [], slice_get, Option, Some, None, option_and_then, MatchOption, IsSomeAnd}
use Rattle.node_tries.specs.Piece.{Place}
use Rattle.compound_node.specs.Nodes.{NodeView, height_of}
use Rattle.compound_node.specs.declared.entries.Entry.{Entry}
use Rattle.finite_map.specs.Maps.{Map}
use Rattle.tries.specs.Content.{items, pairs}
use Rattle.tries.specs.Keys.{Key}
use Rattle.tries.specs.Search.{found}
use Rattle.tries.specs.Tree.{Tree, subtrie}
use Rattle.plain_trie_records.specs.declared.leaf.LeafRecord.{LeafRecord}
use Rattle.plain_trie_records.specs.Store.{ShowsTree, IsSound, entry_tree, item_record}

-- What contracts see of a trie: its records, the root's entry, and for how many records its two vectors have memory.
pub record PlainView : Type 0 where
  pub nodes : List NodeView
  pub leaves : List LeafRecord
  pub top : Option Entry
  pub node_capacity : ℕ
  pub leaf_capacity : ℕ

-- the tree that the records of the trie show from the root's entry on; none if it is empty
abbrev pub shown_tree : PlainView → Option Tree
shown_tree plain = option_and_then (λ entry. entry_tree plain.nodes plain.leaves (height_of entry) entry) plain.top

-- the map of a tree that was read; empty if there is no tree
abbrev pub map_read : Option Tree → Map
map_read None = []
map_read (Some tree) = pairs (items tree)

-- the map that the trie stands for
abbrev pub trie_map : PlainView → Map
trie_map plain = map_read (shown_tree plain)

-- the records of the trie show a sound tree from the root's entry on, if it has one
abbrev pub ShowsSoundTree : PlainView → Type 0
ShowsSoundTree plain = MatchOption plain.top (Unit {0}) (λ entry. IsSomeAnd (shown_tree plain) IsSound)

-- If the trie has a root's entry, its records show a sound bit trie from there on, whose leaves are the trie's map. Else the map is empty.
abbrev pub ShowsTrie : PlainView → Type 0
ShowsTrie plain = MatchOption plain.top (trie_map plain ≡ []) (λ entry.
    (tree : Tree) × (subtrie tree ≡ Place entry) × IsSound tree × ShowsTree plain.nodes plain.leaves tree × (trie_map plain ≡ pairs (items tree)))

-- The trie's records show this sound tree from its root's entry on, and the tree begins at the entry `entry`.
pub record IsTree (plain : PlainView) (entry : Entry) (tree : Tree) : Type 0 where
  pub is : shown_tree plain ≡ Some tree
  pub head : subtrie tree ≡ Place entry
  pub sound : IsSound tree
  pub shown : ShowsTree plain.nodes plain.leaves tree

-- The search for the key, from the root's entry on, ends at the leaf in the record of this number.
pub record EndsAt (plain : PlainView) (entry : Entry) (key : Key) (leaf_number : ℕ) : Type 0 where
  pub top : plain.top ≡ Some entry
  pub tree : Tree
  pub stands : IsTree plain entry tree
  pub number : (found key tree).number ≡ leaf_number
  pub at : slice_get plain.leaves leaf_number ≡ Some (item_record (found key tree))

-- The search for the key ends at the leaf in the record of this number, and this leaf has the key.
abbrev pub IsHeldInLeaf : (plain : PlainView) → (key : Key) → (number : ℕ) → Type 0
IsHeldInLeaf plain key number = (entry : Entry) × (end : EndsAt plain entry key number) × ((found key end.tree).key ≡ key)
