-- One leaf more: where it belongs, and what the records show after it rose.
use Rattle.std.specs.Prelude.{◌≡◌, ◌≢◌, ℕ, suc, ◌<◌, List, ◌∷◌, [], ◌++◌, length, slice_get, Some}
use Rattle.key_bits.specs.Key.{IsKey}
use Rattle.key_bits.specs.Bits.{IsFirstDifference}
use Rattle.node_tries.specs.Piece.{Place}
use Rattle.compound_node.specs.Nodes.{NodeView, IsBuiltFrom}
use Rattle.compound_node.specs.declared.entries.Entry.{Entry}
use Rattle.compound_node.specs.declared.entries.Entry.TheVariants.{Node}
use Rattle.tries.specs.Changes.{IsAdded}
use Rattle.tries.specs.Content.{Item}
use Rattle.tries.specs.Place.{spot}
use Rattle.tries.specs.Search.{child, found}
use Rattle.tries.specs.Tree.{Subtrie, Fixed, Tree, leaf, node, fork, subtrie, IsTrie, IsBuilt, IsLower}
use Rattle.plain_trie_records.specs.declared.leaf.LeafRecord.{LeafRecord}
use Rattle.plain_trie_records.specs.Store.{ShowsTree, item_record}
use Rattle.insert_cases.specs.Ways.{WayBelow}

-- no node of the tree has this number
abbrev pub LacksNode : (number : ℕ) → (tree : Tree) → Type 0
LacksNode sought (leaf number key value) = Unit {0}
LacksNode sought (node number fixed body) = (sought ≢ number) × LacksNode sought body
LacksNode sought (fork position left right) = LacksNode sought left × LacksNode sought right

-- each node record that the tree doesn't have stays as it was
abbrev pub StaysStored : (old new : List NodeView) → (tree : Tree) → Type 0
StaysStored old new tree = (number : ℕ) (view : NodeView) → LacksNode number tree → slice_get old number ≡ Some view → slice_get new number ≡ Some view

-- In place of the tree `below` the new records show a bit trie of lawful nodes with one leaf more, as `IsAdded` says. That tree begins with
-- the subtrie `head`, and its entries are lower than `bound`. All node records but those of `below` are as they were.
pub record IsRaised (old new : List NodeView) (leaves : List LeafRecord) (item : Item) (position : ℕ) (below : Tree) (bound : ℕ) (head : Subtrie) : Type 0 where
  pub tree : Tree
  pub begins : subtrie tree ≡ head
  pub adds : IsAdded item position below tree
  pub built : IsBuilt tree
  pub lower : IsLower bound tree
  pub shown : ShowsTree new leaves tree
  pub kept : StaysStored old new below

-- The records show a tree at an entry, a bit trie of lawful nodes, and beside it the new leaf's record. The new key is lawful. It first
-- differs, at this position, from the key of the leaf where its search ends.
pub record IsAddable (nodes : List NodeView) (leaves : List LeafRecord) (item : Item) (position : ℕ) (entry : Entry) (tree : Tree) : Type 0 where
  pub head : subtrie tree ≡ Place entry
  pub trie : IsTrie tree
  pub built : IsBuilt tree
  pub shown : ShowsTree nodes leaves tree
  pub key : IsKey item.key
  pub differ : IsFirstDifference item.key (found item.key tree).key position
  pub new : slice_get leaves item.number ≡ Some (item_record item)

-- the records of a trie: its nodes and its leaves
pub record Records : Type 0 where
  pub nodes : List NodeView
  pub leaves : List LeafRecord

-- these nodes and these leaves as the records of a trie
abbrev pub records : List NodeView → List LeafRecord → Records
records nodes leaves = record { nodes = nodes; leaves = leaves }

-- One node of a path: its number and height, the slot that the search takes (`at`), and the height of the child there (`low`).
pub record Level : Type 0 where
  pub number : ℕ
  pub height : ℕ
  pub at : ℕ
  pub low : ℕ

-- a node of a path with this number, this height, this slot and this height of the child
abbrev pub level : (number height at low : ℕ) → Level
level number height at low = record { number = number; height = height; at = at; low = low }

-- A new leaf was added below a node of the old records. What became of the child on the key's path begins with the subtrie `head`. The old
-- records show the node with the body `tree`, a bit trie of lawful nodes. Each fork on the key's path through the body is before this
-- position. `here` is the node's level on the path, and the child is lower than the node.
pub record IsLifting (old : Records) (new : List NodeView) (item : Item) (position : ℕ) (here : Level)
    (fixed : Fixed) (tree : Tree) (head : Subtrie) : Type 0 where
  pub trie : IsTrie tree
  pub built : IsBuilt (node here.number fixed tree)
  pub shown : ShowsTree old.nodes old.leaves (node here.number fixed tree)
  pub below : WayBelow position item.key tree
  pub high_is : fixed.height ≡ here.height
  pub at_is : here.at ≡ spot item.key (subtrie tree)
  pub lower : here.low < here.height
  pub up : IsRaised old.nodes new old.leaves item position (child item.key tree) (suc here.low) head

-- One node record more stands behind the others. It has a node that was built to show this subtrie, and the entry names it.
pub record IsNew (old new : List NodeView) (entry : Entry) (shown : Subtrie) : Type 0 where
  pub view : NodeView
  pub added : new ≡ old ++ view ∷ []
  pub built : IsBuiltFrom view shown
  pub is : entry ≡ Node (length old) view.height
