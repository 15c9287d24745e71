-- The records of a table as data, and the functions that they stand for.
use Rattle.std.specs.Prelude.{◌≡◌, ℕ, ◌+◌, ◌<◌, List, length, set, slice_get, Bool, Option, Some, None, option_and_then, option_map}
use Rattle.partial_keys.specs.declared.TheConstants.{MAX_ENTRIES}
use Rattle.record_words.specs.declared.TheConstants.{HEAD_WORDS}
use Rattle.record_words.specs.declared.layout.Layout.{Layout}
use Rattle.record_words.specs.declared.state.Tag.{Tag}
use Rattle.record_words.specs.State.{HasStateWord, state_word}
use Rattle.record_words.specs.declared.records.Rec.{Rec}
use Rattle.record_words.specs.declared.records.Rec.TheVariants.{Node as a_node, Leaf as a_leaf}
use Rattle.versions.specs.Core.{Fate}
use Rattle.rowex_core.specs.Cores.{FitsIn}
use Rattle.rowex_core.specs.Reading.{IsPacked, leaf_of}
use Rattle.rowex_core.specs.Words.{tag_of}
use Rattle.rowex_replay_state.specs.declared.fate.Fate.{Fate as Stored}
use Rattle.rowex_replay_state.specs.declared.fate.Fate.TheVariants.{InTree}
use Rattle.rowex_replay_state.specs.Fates.{stored_fate}
use Rattle.rowex_replay_state.specs.Links.{AllMayBeLinked, AllMayBeUnlinked, AreNextFates}

-- What contracts see of the records of a replay: the layout, and of each node and leaf record its words without the state, and its fate. Of
-- each node it is the pass that has the lock, too.
pub record RecordsView : Type 0 where
  pub layout : Layout
  pub nodes : List (List ℕ)
  pub leaves : List (List ℕ)
  pub node_fates : List Stored
  pub leaf_fates : List Stored
  pub locks : List (Option ℕ)

-- ---- what is stored of a record, where the table has it

-- the words of a record; none if the table hasn't the record
abbrev pub words_in : (records : RecordsView) → (rec : Rec) → Option (List ℕ)
words_in records (a_node number) = slice_get records.nodes number
words_in records (a_leaf number) = slice_get records.leaves number

-- the fate of a record; none if the table hasn't the record
abbrev pub fate_in : (records : RecordsView) → (rec : Rec) → Option Stored
fate_in records (a_node number) = slice_get records.node_fates number
fate_in records (a_leaf number) = slice_get records.leaf_fates number

-- The lock of a record: the pass that has it, or none. There is none at all for a node that the table hasn't. A leaf is never locked.
abbrev pub lock_in : (records : RecordsView) → (rec : Rec) → Option (Option ℕ)
lock_in records (a_node number) = slice_get records.locks number
lock_in records (a_leaf number) = Some None

-- what the state word of a record says; none if the table hasn't the record
abbrev pub tag_in : (records : RecordsView) → (rec : Rec) → Option Tag
tag_in records rec = option_and_then (λ stored. option_map (λ lock. tag_of lock (stored_fate stored)) (lock_in records rec)) (fate_in records rec)

-- the table has the record, and this is its state word
abbrev pub HasState : (records : RecordsView) → (rec : Rec) → (word : ℕ) → Type 0
HasState records rec word = (tag : Tag) × (tag_in records rec ≡ Some tag) × HasStateWord tag × (state_word tag ≡ word)

-- the table has the record, and this word has this index among its words behind the state
abbrev pub HasWordStored : (records : RecordsView) → (rec : Rec) → (index word : ℕ) → Type 0
HasWordStored records rec index word = (words : List ℕ) × (words_in records rec ≡ Some words) × (slice_get words index ≡ Some word)

-- the node's record has this word in one of its slots
abbrev pub HasEntryStored : (records : RecordsView) → (node word : ℕ) → Type 0
HasEntryStored records node word = (slot : ℕ) × (slot < MAX_ENTRIES) × HasWordStored records (a_node node) (HEAD_WORDS + slot) word

-- the pass has locked the node, which is in the tree and has this word in one of its slots
abbrev pub IsEntryLocked : (records : RecordsView) → (pass word node : ℕ) → Type 0
IsEntryLocked records pass word node =
    (lock_in records (a_node node) ≡ Some (Some pass)) × ((since : ℕ) × (fate_in records (a_node node) ≡ Some (InTree since))) ×
    HasEntryStored records node word

-- the pass has locked a node of the tree that has this word in one of its slots
abbrev pub HasLockedEntry : (records : RecordsView) → (pass word : ℕ) → Type 0
HasLockedEntry records pass word = (node : ℕ) × (node < records.layout.nodes) × IsEntryLocked records pass word node

-- the table has the record, and its words encode a node or a leaf
abbrev pub IsEncodedIn : (records : RecordsView) → (rec : Rec) → Type 0
IsEncodedIn records rec = (words : List ℕ) × (words_in records rec ≡ Some words) × IsPacked rec words

-- the table has the leaf record, whose words say this key
abbrev pub HasKeyIn : (records : RecordsView) → (leaf : ℕ) → (key : List ℕ) → Type 0
HasKeyIn records leaf key = (words : List ℕ) × (words_in records (a_leaf leaf) ≡ Some words) × ((leaf_of words).key ≡ key)

-- the table has the record, and its words encode a node, or a leaf for which the record has room
abbrev pub IsPackedIn : (records : RecordsView) → (rec : Rec) → Type 0
IsPackedIn records rec = (words : List ℕ) × (words_in records rec ≡ Some words) × IsPacked rec words × FitsIn records.layout rec words

-- the records with one fate, one lock or the words of one record changed

-- the records, where the record `rec` has this fate now; as before if the table hasn't the record
abbrev pub with_fate_in : (records : RecordsView) → (rec : Rec) → (stored : Stored) → RecordsView
with_fate_in records (a_node number) stored = record records { node_fates = set records.node_fates number stored }
with_fate_in records (a_leaf number) stored = record records { leaf_fates = set records.leaf_fates number stored }

-- the records, where this pass has the node's lock now, or none has it; as before if the table hasn't the node
abbrev pub with_lock_in : (records : RecordsView) → (node : ℕ) → (owner : Option ℕ) → RecordsView
with_lock_in records node owner = record records { locks = set records.locks node owner }

-- the records, where the record `rec` has this fate now, and a node is locked by no pass; as before if the table hasn't the record
abbrev pub with_fate_unlocked_in : (records : RecordsView) → (rec : Rec) → (stored : Stored) → RecordsView
with_fate_unlocked_in records (a_node number) stored = with_fate_in (with_lock_in records number None) (a_node number) stored
with_fate_unlocked_in records (a_leaf number) stored = with_fate_in records (a_leaf number) stored

-- the records, where the record `rec` has these words now; as before if the table hasn't the record
abbrev pub with_words_in : (records : RecordsView) → (rec : Rec) → (words : List ℕ) → RecordsView
with_words_in records (a_node number) words = record records { nodes = set records.nodes number words }
with_words_in records (a_leaf number) words = record records { leaves = set records.leaves number words }

-- By fates and locks, the pass may publish a tree that links these nodes and leaves, and no others. Of the nodes that it unlinks it needs
-- the locks. A leaf stands under the lock of what names it, so it needs none.
pub record MayPublishTree (records : RecordsView) (pass : ℕ) (nodes leaves : List Bool) : Type 0 where
  pub nodes_come : AllMayBeLinked pass nodes records.node_fates
  pub leaves_come : AllMayBeLinked pass leaves records.leaf_fates
  pub nodes_go : AllMayBeUnlinked pass nodes records.locks records.node_fates

-- From `old` to `new` only fates have changed. They are those after a publish by the pass, which makes version `now` + 1 and links these
-- nodes and leaves.
pub record AreNextRecords (now pass : ℕ) (nodes leaves : List Bool) (old new : RecordsView) : Type 0 where
  pub layout : new.layout ≡ old.layout
  pub words : (new.nodes ≡ old.nodes) × (new.leaves ≡ old.leaves)
  pub locks : new.locks ≡ old.locks
  pub node_count : length new.node_fates ≡ length old.node_fates
  pub leaf_count : length new.leaf_fates ≡ length old.leaf_fates
  pub node_fates : AreNextFates now pass nodes old.node_fates new.node_fates
  pub leaf_fates : AreNextFates now pass leaves old.leaf_fates new.leaf_fates

-- The records are those of a table of this layout: there are as many as it has, with a fate each, and a lock for each node. `words`, `fate`
-- and `lock` give the words, the fate and the lock of each. Of records that the table hasn't they may give any.
pub record AreRecordsOf (records : RecordsView) (layout : Layout) (words : Rec → List ℕ) (fate : Rec → Fate) (lock : ℕ → Option ℕ) : Type 0 where
  pub layout_is : records.layout ≡ layout
  pub node_count : (length records.nodes ≡ layout.nodes) × (length records.node_fates ≡ layout.nodes) × (length records.locks ≡ layout.nodes)
  pub leaf_count : (length records.leaves ≡ layout.leaves) × (length records.leaf_fates ≡ layout.leaves)
  pub words_are : (rec : Rec) (stored_words : List ℕ) → words_in records rec ≡ Some stored_words → words rec ≡ stored_words
  pub fates_are : (rec : Rec) (stored : Stored) → fate_in records rec ≡ Some stored → fate rec ≡ stored_fate stored
  pub locks_are : (number : ℕ) (owner : Option ℕ) → slice_get records.locks number ≡ Some owner → lock number ≡ owner
