-- Which trees of a table's words are lawful versions, and what is told of one.
use Rattle.std.specs.Prelude.{◌≡◌, ◌↔◌, ℕ, ◌<◌, List, [], length, map, slice_index_or, Option, Some, None, true, false}
use Rattle.compound_node.specs.declared.entries.Entry.{Entry}
use Rattle.tries.specs.Tree.{Tree, IsTrie, IsBuilt}
use Rattle.tries.specs.Content.{Item}
use Rattle.record_words.specs.declared.records.Rec.{Rec}
use Rattle.record_words.specs.declared.records.Rec.TheVariants.{Node as a_node, Leaf as a_leaf}
use Rattle.versions.specs.State.{IsTop, IsLinked}
use Rattle.versions.specs.Told.{items_of}
use Rattle.rowex_core.specs.Reading.{IsPacked}
use Rattle.rowex_core.specs.Cores.{heap_of}
use Rattle.rowex_core.specs.Events.{tree_of}
use Rattle.rowex_replay_state.specs.declared.linked.Item.{Item as ReadItem}
use Rattle.rowex_replay_state.specs.declared.linked.Linked.{Linked}

-- The words of each node record and of each leaf record of a table, without the state.
pub record Table : Type 0 where
  pub nodes : List (List ℕ)
  pub leaves : List (List ℕ)

-- `words` gives the words of each record that the table has. Of other records it may give any.
pub record AreWordsOf (table : Table) (words : Rec → List ℕ) : Type 0 where
  pub nodes_are : (number : ℕ) → number < length table.nodes → words (a_node number) ≡ slice_index_or table.nodes number []
  pub leaves_are : (number : ℕ) → number < length table.leaves → words (a_leaf number) ≡ slice_index_or table.leaves number []

-- the table has this record
abbrev pub HasRecordIn : (table : Table) → (rec : Rec) → Type 0
HasRecordIn table (a_node number) = number < length table.nodes
HasRecordIn table (a_leaf number) = number < length table.leaves

-- the table has the record, and its words encode a node or a leaf
abbrev pub IsEncoded : (table : Table) → (words : Rec → List ℕ) → (rec : Rec) → Type 0
IsEncoded table words rec = HasRecordIn table rec × IsPacked rec (words rec)

-- The words show a lawful tree from this root's entry, or the root has none. The table has each record that the tree links, and its words
-- encode a node or a leaf.
pub record IsVersion (table : Table) (words : Rec → List ℕ) (root : Option Entry) : Type 0 where
  pub top : IsTop (heap_of words) root (tree_of (heap_of words) root)
  pub tree : (shown : Tree) → tree_of (heap_of words) root ≡ Some shown → IsTrie shown × IsBuilt shown
  pub spelled : (rec : Rec) → IsLinked (tree_of (heap_of words) root) rec → IsEncoded table words rec

-- the leaf of a tree that was read
abbrev pub read_item : ReadItem → Item
read_item read = record { number = read.number; key = read.key; value = read.value }

-- What was read of a tree, `linked`, is right: its leaves in key order, and for each record of the table whether the tree links the record.
-- There is one mark for each record.
pub record Tells (table : Table) (tree : Option Tree) (linked : Linked) : Type 0 where
  pub items_are : map read_item linked.items.items ≡ items_of tree
  pub all_nodes : length linked.nodes.items ≡ length table.nodes
  pub all_leaves : length linked.leaves.items ≡ length table.leaves
  pub nodes_are : (number : ℕ) → (slice_index_or linked.nodes.items number false ≡ true) ↔ IsLinked tree (a_node number)
  pub leaves_are : (number : ℕ) → (slice_index_or linked.leaves.items number false ≡ true) ↔ IsLinked tree (a_leaf number)

-- A version was read exactly if the words show a lawful one from this root. What was read then tells its leaves and what it links.
abbrev pub IsReadVersion : (table : Table) → (words : Rec → List ℕ) → (root : Option Entry) → (told : Option Linked) → Type 0
IsReadVersion table words root None = ¬ (IsVersion table words root)
IsReadVersion table words root (Some linked) = IsVersion table words root × Tells table (tree_of (heap_of words) root) linked

-- A version was read exactly if there is a lawful one from this root (`IsReadVersion`). That holds whatever words are given to records that
-- the table hasn't: a lawful version links none of them.
abbrev pub IsToldVersion : (table : Table) → (root : Option Entry) → (linked : Option Linked) → Type 0
IsToldVersion table root linked = (words : Rec → List ℕ) → AreWordsOf table words → IsReadVersion table words root linked
