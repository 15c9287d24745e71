-- The parts of a lawful tree, and what reading one leaves.
use Rattle.std.specs.Prelude.{◌≡◌, ◌⊎◌, ◌↔◌, ℕ, ◌<◌, ◌≤◌, List, [], ◌∷◌, ◌++◌, length, map, slice_index_or, slice_set, Option, Some, None, Bool, true, false}
use Rattle.compound_node.specs.Nodes.{NodeView}
use Rattle.record_words.specs.Node.{HasNodeWords, node_words}
use Rattle.record_words.specs.Leaf.{HasLeafWords, leaf_words, up_to_key}
use Rattle.tries.specs.Tree.{Subtrie, Tree, leaf, node, fork, subtrie, IsBuilt}
use Rattle.tries.specs.Content.{items, IsLocal}
use Rattle.record_words.specs.declared.records.Rec.{Rec}
use Rattle.record_words.specs.declared.records.Rec.TheVariants.{Node as a_node, Leaf as a_leaf}
use Rattle.versions.specs.Heap.{IsShown}
use Rattle.versions.specs.State.{Links}
use Rattle.rowex_core.specs.Cores.{heap_of}
use Rattle.rowex_replay_state.specs.declared.linked.Linked.{Linked}
use Rattle.rowex_replay_state.specs.declared.parts.RecordedWords.{RecordedWords}
use Rattle.rowex_replay_state.specs.Versions.{AreWordsOf, IsEncoded, Table, read_item}

-- the table that has these words
abbrev pub table_of : RecordedWords → Table
table_of records = record { nodes = records.nodes.now; leaves = records.leaves.now }

-- The position of the tree's first fork is at least `least`. A leaf has no fork.
abbrev pub IsForkedFrom : (least : ℕ) → (tree : Tree) → Type 0
IsForkedFrom least (leaf number key value) = Unit {0}
IsForkedFrom least (node number fixed body) = IsForkedFrom least body
IsForkedFrom least (fork position left right) = least ≤ position

-- The words show the tree, whose subtrie is `trie`. The tree is lawful: its forks rise and part its keys (`local`), and its nodes are built
-- as they must be (`built`). The position of its first fork, if any, is at least `least`. The table has its records, whose words encode
-- nodes and leaves (`spelled`).
pub record ShowsPart (table : Table) (words : Rec → List ℕ) (least : ℕ) (trie : Subtrie) (tree : Tree) : Type 0 where
  pub subtrie_is : subtrie tree ≡ trie
  pub shown : IsShown (heap_of words) tree
  pub local : IsLocal tree
  pub built : IsBuilt tree
  pub from : IsForkedFrom least tree
  pub spelled : (rec : Rec) → Links tree rec → IsEncoded table words rec

-- there is a mark, linked or not, for each record of the table
pub record HasMarks (table : Table) (linked : Linked) : Type 0 where
  pub all_nodes : length linked.nodes.items ≡ length table.nodes
  pub all_leaves : length linked.leaves.items ≡ length table.leaves

-- What was read has grown by the tree. Its leaves are appended, and the records that it links are marked besides those marked before.
pub record GrowsBy (tree : Tree) (old new : Linked) : Type 0 where
  pub items_are : map read_item new.items.items ≡ map read_item old.items.items ++ items tree
  pub nodes_are : (number : ℕ) → (slice_index_or new.nodes.items number false ≡ true) ↔ ((slice_index_or old.nodes.items number false ≡ true) ⊎
      Links tree (a_node number))
  pub leaves_are : (number : ℕ) →
      (slice_index_or new.leaves.items number false ≡ true) ↔ ((slice_index_or old.leaves.items number false ≡ true) ⊎ Links tree (a_leaf number))

-- If `good` is true, a tree of which `shows` holds was read, and what was read has grown by that tree. Else `shows` holds of no tree.
abbrev pub IsTreeRead : (shows : Tree → Type 0) → (good : Bool) → (old new : Linked) → Type 0
IsTreeRead shows true old new = (tree : Tree) × shows tree × GrowsBy tree old new
IsTreeRead shows false old new = (tree : Tree) → ¬ (shows tree)

-- A part of a tree was read exactly if the words show a lawful one (`ShowsPart`), whose subtrie has the property `fits`. That holds
-- whatever words are given to records that the table hasn't: a lawful part links none of them.
abbrev pub IsPartRead : (table : Table) → (least : ℕ) → (fits : Subtrie → Type 0) → (good : Bool) → (old new : Linked) → Type 0
IsPartRead table least fits good old new =
    (words : Rec → List ℕ) → AreWordsOf table words → (trie : Subtrie) → fits trie → IsTreeRead (ShowsPart table words least trie) good old new

-- There is still a mark for each record of the table. If a part was read, there is at least one leaf more, so each part has a first leaf.
pub record HasGrown (table : Table) (good : Bool) (old new : Linked) : Type 0 where
  pub room : HasMarks table new
  pub longer : good ≡ true → length old.items.items < length new.items.items

-- The table has the leaf record of this number, and its words encode this key with this value, up to the end of the key.
pub record IsLeafAt (leaves : List (List ℕ)) (number : ℕ) (pair : List ℕ × ℕ) : Type 0 where
  pub in_table : number < length leaves
  pub has : HasLeafWords pair
  pub spelling : leaf_words pair ≡ up_to_key (slice_index_or leaves number [])

-- `added` is true exactly if the table has the leaf record, and its words encode a leaf. That leaf is then the last of those read, and its
-- record is marked as linked. Else nothing has changed.
abbrev pub AddsLeaf : (leaves : List (List ℕ)) → (number : ℕ) → (added : Bool) → (old new : Linked) → Type 0
AddsLeaf leaves number true old new =
    (pair : List ℕ × ℕ) × IsLeafAt leaves number pair ×
    (new.items.items ≡ old.items.items ++ record { number = number; key = pair.0; value = pair.1 } ∷ []) ×
    (new.nodes ≡ old.nodes) × (new.leaves.items ≡ slice_set old.leaves.items number true)
AddsLeaf leaves number false old new = ((pair : List ℕ × ℕ) → ¬ (IsLeafAt leaves number pair)) × (new ≡ old)

-- The table has the node record of this number, and its words encode this node, which has this height.
pub record EncodesNode (nodes : List (List ℕ)) (number height : ℕ) (view : NodeView) : Type 0 where
  pub in_table : number < length nodes
  pub has : HasNodeWords view
  pub spelling : node_words view ≡ slice_index_or nodes number []
  pub height_is : view.height ≡ height

-- a node was found exactly if the table has the node record, and its words encode one of this height; the found one is that
abbrev pub IsNodeAt : (nodes : List (List ℕ)) → (number height : ℕ) → (found : Option NodeView) → Type 0
IsNodeAt nodes number height None = (view : NodeView) → ¬ (EncodesNode nodes number height view)
IsNodeAt nodes number height (Some view) = EncodesNode nodes number height view
