-- The state of the shared words and of all versions so far.
use Rattle.std.specs.Prelude.{◌≡◌, ◌⊎◌, ℕ, ◌+◌, ◌<◌, ◌≤◌, ◌^◌, List, length, get_or, map, All, if◌then◌else◌, nat_lt, Option, Some, None}
use Rattle.std.specs.List.{range_with_len}
use Rattle.record_words.specs.declared.TheConstants.{EPOCHS, FIELDS_OFFSET, NODE_WORDS, NODE_FIELDS, LEAF_FIELDS}
use Rattle.record_words.specs.declared.layout.Layout.{Layout}
use Rattle.record_words.specs.declared.records.Rec.{Rec}
use Rattle.record_words.specs.declared.records.Rec.TheVariants.{Node as a_node, Leaf as a_leaf}
use Rattle.versions.specs.declared.Pin.{Pin}
use Rattle.versions.specs.declared.Round.{Round}
use Rattle.versions.specs.Heap.{Heap}
use Rattle.versions.specs.Steps.{IsLawfulCore}
use Rattle.record_words.specs.Decoding.{key_length_in}
use Rattle.record_words.specs.Entry.{HasEntryWord}
use Rattle.record_words.specs.Layout.{node_start, leaf_start, leaf_size}
use Rattle.record_words.specs.Leaf.{words_for}
use Rattle.versions.specs.Core.{BareCore as Versions, Shared, Fate, Free, Held, Ready, InTree, Unlinked, Marked}
use Rattle.rowex_core.specs.Reading.{node_words_of, leaf_of, IsPacked}

-- The state between two steps: the layout, the words of each record behind its state, and the rest. The rest (`Shared`) is the root,
-- versions, changes, fates, locks, the epoch, pins and rounds.
pub record Core : Type 0 where
  pub layout : Layout
  pub words : Rec → List ℕ
  pub shared : Shared
  pub open shared use *

-- what the words of all node and leaf records say; the words leave out the states
abbrev pub heap_of : (Rec → List ℕ) → Heap
heap_of words = record { nodes = λ number. node_words_of (words (a_node number)); leaves = λ number. leaf_of (words (a_leaf number)) }

-- The core as laws of versions see it. The layout is left out, and what the words of records say stands in place of the words.
abbrev pub bare : Core → Versions
bare core = record { heap = heap_of core.words; shared = core.shared }

-- a table with this layout has the record
abbrev pub HasRecord : Layout → Rec → Type 0
HasRecord layout (a_node number) = number < layout.nodes
HasRecord layout (a_leaf number) = number < layout.leaves

-- how many words a table with this layout has for the record, its state among them
abbrev pub size_of : Layout → Rec → ℕ
size_of layout (a_node number) = NODE_WORDS
size_of layout (a_leaf number) = leaf_size layout number

-- a table with this layout has a word of the record at this offset
abbrev pub HasWord : (layout : Layout) → (rec : Rec) → (offset : ℕ) → Type 0
HasWord layout rec offset = offset < size_of layout rec

-- A table with this layout has room for what these words of the record say. A node always has room. A leaf needs all words up to the end of
-- its key, whose length the words tell.
abbrev pub FitsIn : (layout : Layout) → (rec : Rec) → (words : List ℕ) → Type 0
FitsIn layout (a_node number) words = Unit {0}
FitsIn layout (a_leaf number) words = words_for (key_length_in words) ≤ leaf_size layout number

-- How many words the core has of a record, without its state. A leaf of any class counts as the longest, so that the number needs no
-- layout.
abbrev pub word_count_of : Rec → ℕ
word_count_of (a_node number) = NODE_FIELDS
word_count_of (a_leaf number) = LEAF_FIELDS

-- The words of a record without its state, taken from the words of a table. They are as many as the core has of the record
-- (`word_count_of`). Behind the end of a leaf's record they are 0.
unfoldable pub fields_in : (layout : Layout) → (table : List ℕ) → (rec : Rec) → List ℕ
fields_in layout table (a_node number) =
    map (λ place. get_or table (node_start layout number + (FIELDS_OFFSET + place)) 0) (range_with_len 0 NODE_FIELDS)
fields_in layout table (a_leaf number) =
    map (λ place. if nat_lt (FIELDS_OFFSET + place) (leaf_size layout number) then get_or table (leaf_start layout number + (FIELDS_OFFSET + place)) 0 else 0)
    (range_with_len 0 LEAF_FIELDS)

-- the core has the right number of words of the record (`word_count_of`), of 64 bits each
abbrev pub IsSized : Rec → List ℕ → Type 0
IsSized rec words = (length words ≡ word_count_of rec) × All (λ word. word < 2 ^ 64) words

-- A record of this fate is neither free nor held. In a lawful core its words then encode a node or a leaf (`AreRecords`). Before it is
-- ready, its pass may still fill it.
abbrev pub IsPastFilling : Fate → Type 0
IsPastFilling Free = ⊥
IsPastFilling (Held pass) = ⊥
IsPastFilling _ = Unit {0}

-- The pass to which a record of this fate belongs. An unlinked record belongs to the pass that unlinked it, until it is marked. A free
-- record, one in the tree and a marked one belong to none.
abbrev pub holder_of : Fate → Option ℕ
holder_of Free = None
holder_of (Held pass) = Some pass
holder_of (Ready pass) = Some pass
holder_of (InTree since) = None
holder_of (Unlinked since last pass) = Some pass
holder_of (Marked since last epoch) = None

-- What holds of the records of a lawful core. `words`, `fate` and `lock` are the words, the fate and the lock of each.
pub record AreRecords (layout : Layout) (words : Rec → List ℕ) (fate : Rec → Fate) (lock : ℕ → Option ℕ) : Type 0 where
  -- each has its number of words; those of one that is neither free nor held encode a node or a leaf
  pub sized : (rec : Rec) → IsSized rec (words rec)
  pub packed : (rec : Rec) → IsPastFilling (fate rec) → IsPacked rec (words rec)
  -- the table has room for each such leaf up to the end of its key
  pub fits : (rec : Rec) → IsPastFilling (fate rec) → FitsIn layout rec (words rec)
  -- an unlinked node stays locked until it is marked
  pub retired : (number since last pass : ℕ) → fate (a_node number) ≡ Unlinked since last pass → lock number ≡ Some pass
  -- only records of the table are used
  pub used : (rec : Rec) → (fate rec ≡ Free) ⊎ HasRecord layout rec
  -- only passes of the index have records of their own
  pub holders : (rec : Rec) (pass : ℕ) → holder_of (fate rec) ≡ Some pass → pass < layout.passes

-- What holds of the epochs of a lawful core. The epoch and the mark of each retired record are from 1 to EPOCHS - 1 (`now`, `marked`). Only
-- passes of the index are pinned, and the word of a pin is at least 1 (`pinned`). A round whose version is not 0 has loaded an epoch of at
-- least 1 (`loads`). Before the first load of a pass both are 0.
pub record AreEpochs (layout : Layout) (epoch : ℕ) (pins : ℕ → Option Pin) (rounds : ℕ → Round) (fate : Rec → Fate) : Type 0 where
  pub now : (1 ≤ epoch) × (epoch < EPOCHS)
  pub loads : (pass : ℕ) → ((rounds pass).version ≡ 0) ⊎ (1 ≤ (rounds pass).epoch)
  pub pinned : (pass : ℕ) (pin : Pin) → pins pass ≡ Some pin → (pass < layout.passes) × (1 ≤ pin.word)
  pub marked : (rec : Rec) (since last epoch : ℕ) → fate rec ≡ Marked since last epoch → (1 ≤ epoch) × (epoch < EPOCHS)

-- Only passes of the index hold locks: `anchor` is the pass that holds the root's, and `lock` gives the pass that holds a node's, if one
-- does.
pub record AreLockers (layout : Layout) (anchor : Option ℕ) (lock : ℕ → Option ℕ) : Type 0 where
  pub root : (pass : ℕ) → anchor ≡ Some pass → pass < layout.passes
  pub nodes : (node pass : ℕ) → lock node ≡ Some pass → pass < layout.passes

-- All parts of the core `whole` are lawful. Legal steps from a new table on lead to such cores alone (`RunsStayLawful`).
pub record IsLawful (whole : Core) : Type 0 where
  -- versions, lives, paces and locks; the content of each version is the map of the changes before it
  pub core : IsLawfulCore (bare whole)
  pub records : AreRecords whole.layout whole.words whole.fate whole.lock
  pub epochs : AreEpochs whole.layout whole.epoch whole.pins whole.rounds whole.fate
  -- the root's entry can be encoded
  pub root : HasEntryWord whole.root
  pub lockers : AreLockers whole.layout whole.anchor whole.lock
  -- each change was made by a pass of the index
  pub makers : All (λ change. change.pass < whole.layout.passes) whole.changes
