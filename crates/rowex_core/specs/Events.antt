-- When a step of a pass is legal, and what it makes of the core. A step is atomic, or the bulk load that makes a table.
use Rattle.std.specs.Prelude.{◌≡◌, ℕ, suc, ◌+◌, ◌-◌, ◌^◌, ◌<◌, ◌≤◌, List, [], ◌∷◌, set, get_or, All, true, nat_eq, if◌then◌else◌, Option, Some, None, IsSome}
use Rattle.std.specs.declared.cmp.Ordering.{Ordering}
use Rattle.std.specs.declared.cmp.Ordering.TheVariants.{Less, Equal, Greater}
use Rattle.compound_node.specs.declared.entries.Entry.{Entry}
use Rattle.finite_map.specs.declared.Change.{Change}
use Rattle.finite_map.specs.declared.Kind.TheVariants.{Replaced, Removed}
use Rattle.finite_map.specs.Maps.{key_order}
use Rattle.partial_keys.specs.declared.TheConstants.{MAX_ENTRIES}
use Rattle.record_words.specs.declared.TheConstants.{EPOCHS, FIELDS_OFFSET, FIRST_ENTRY, LEAF_WORDS, NODE_WORDS, ROOT_WORD, VALUE_OFFSET}
use Rattle.record_words.specs.Entry.{HasEntryWord, entry_word}
use Rattle.record_words.specs.State.{state_word}
use Rattle.record_words.specs.declared.state.Tag.TheVariants.{Free as FreeTag, Held as HeldTag, Live, Locked, Obsolete}
use Rattle.record_words.specs.declared.layout.Location.{Location}
use Rattle.record_words.specs.declared.layout.Location.TheVariants.{Epoch, Root as RootWord, Anchor as AnchorWord, Pin as PinOf, NodeWord, LeafWord}
use Rattle.tries.specs.Tree.{Tree, IsTrie, IsBuilt}
use Rattle.tries.specs.Content.{Item, IsIn}
use Rattle.versions.specs.Told.{items_of, added_change, replaced_change, removed_change}
use Rattle.record_words.specs.declared.records.Rec.{Rec}
use Rattle.record_words.specs.declared.records.Rec.TheVariants.{Node as a_node, Leaf as a_leaf}
use Rattle.versions.specs.Heap.{Heap}
use Rattle.versions.specs.Loads.{loaded_by}
use Rattle.versions.specs.Read.{read}
use Rattle.versions.specs.State.{IsLinked, IsTop}
use Rattle.compound_node.specs.Nodes.{height_of}
use Rattle.record_words.specs.declared.layout.Layout.{Layout}
use Rattle.versions.specs.Core.{Shared, Fate, Free, Held, Ready as ReadyBy, InTree, Unlinked, Marked, has_seen}
use Rattle.versions.specs.Steps.{same_rec, HasLockedNamer, IsNextVersion, with_fate, with_anchor, with_lock, after_mark, with_epoch, with_pin, after_set_pin, after_load_epoch, after_load_pin, published_by}
use Rattle.rowex_core.specs.declared.event.Act.{Act}
use Rattle.rowex_core.specs.declared.event.Act.TheVariants.{Claim, Fill, Ready, Release, LoadRef, LoadFixed, Lock, Unlock, Publish, Mark, LoadEpoch, Advance, SetPin, ClearPin, LoadPin, LoadState, GiveBack, Load}
use Rattle.rowex_core.specs.declared.event.Target.{Target}
use Rattle.rowex_core.specs.declared.event.Target.TheVariants.{Anchor, Node as NodeTarget}
use Rattle.rowex_core.specs.declared.event.Spot.{Spot}
use Rattle.rowex_core.specs.declared.event.Spot.TheVariants.{Root, Slot, Value}
use Rattle.record_words.specs.Decoding.{entry_of}
use Rattle.rowex_core.specs.Reading.{leaf_of, IsPacked}
use Rattle.rowex_core.specs.Cores.{Core, bare, heap_of, fields_in, HasRecord, HasWord, FitsIn}
use Rattle.rowex_core.specs.Opening.{opening}
use Rattle.rowex_core.specs.Words.{lock_tag, state_at, pin_word, record_word}

-- What a step changes

-- The words of the record `rec_read`, after a store of `word` at an offset of the record `rec`. The offset counts from the state, which
-- these words leave out.
abbrev pub with_word : (words : Rec → List ℕ) → (rec : Rec) → (offset word : ℕ) → (rec_read : Rec) → List ℕ
with_word words rec offset word rec_read = if same_rec rec_read rec then set (words rec) (offset - FIELDS_OFFSET) word else words rec_read

-- Publishing: what a word stored at a spot makes

-- The words of records after a store to a spot. A slot's entry is a word of the node, and a value a word of the leaf. The root's entry
-- belongs to no record, so its store changes none.
abbrev pub stored_words : (core : Core) → (spot : Spot) → (word : ℕ) → (rec : Rec) → List ℕ
stored_words core Root word = core.words
stored_words core (Slot node slot) word = with_word core.words (a_node node) (FIRST_ENTRY + slot) word
stored_words core (Value leaf) word = with_word core.words (a_leaf leaf) VALUE_OFFSET word

-- The root's entry after a store to a spot. A store to a slot or a value leaves it.
abbrev pub stored_root : (core : Core) → (spot : Spot) → (word : ℕ) → Option Entry
stored_root core Root word = entry_of word
stored_root core (Slot node slot) word = core.root
stored_root core (Value leaf) word = core.root

-- The tree that the words of records show below the root's entry. There is none without an entry, or if the words show no tree.
abbrev pub tree_of : Heap → Option Entry → Option Tree
tree_of heap None = None
tree_of heap (Some entry) = read heap (height_of entry) entry

-- The change that makes one list of leaves another, both in key order. `item` of the one and `other` of the other are the first leaves that
-- differ, and `order` is that of their keys. If `item` has the lesser key, it was removed; if `other` has, it was added. With equal keys
-- `other` took the place of `item`.
abbrev pub change_at : (pass : ℕ) → (order : Ordering) → (item other : Item) → Change
change_at pass Less item other = removed_change pass item
change_at pass Equal item other = replaced_change pass other
change_at pass Greater item other = added_change pass other

-- The change by which the pass has made the leaves `before` the leaves `after`, if one change has. Both lists are in key order, and leaves
-- are told apart by the numbers of their records. For equal lists the result has no meaning: it removes the empty key.
abbrev pub change_between : (pass : ℕ) → (before after : List Item) → Change
change_between pass [] [] = record { pass = pass; key = []; value = 0; kind = Removed }
change_between pass [] (other ∷ others) = added_change pass other
change_between pass (item ∷ items) [] = removed_change pass item
change_between pass (item ∷ items) (other ∷ others) =
    if nat_eq item.number other.number then change_between pass items others else change_at pass (key_order item.key other.key) item other

-- The spot is the root or a slot, where an entry stands. It is no value.
abbrev pub IsOfEntry : Spot → Type 0
IsOfEntry (Value leaf) = ⊥
IsOfEntry spot = Unit {0}

-- Leaves of the two lists that have the same record number also have the same key and value.
abbrev pub AgreeByNumber : (items others : List Item) → Type 0
AgreeByNumber items others = (item other : Item) → IsIn item items → IsIn other others → item.number ≡ other.number → item ≡ other

-- the tree that words show after a store to a spot; none if they show none
abbrev pub next_tree : (core : Core) → (spot : Spot) → (word : ℕ) → Option Tree
next_tree core spot word = tree_of (heap_of (stored_words core spot word)) (stored_root core spot word)

-- the change by which the pass replaces the value of a leaf's key by `value`
abbrev pub value_change : (core : Core) → (pass leaf value : ℕ) → Change
value_change core pass leaf value = record { pass = pass; key = (leaf_of (core.words (a_leaf leaf))).key; value = value; kind = Replaced }

-- The change that a store to a spot makes to the map. For a value the leaf tells the key. For an entry the change is found between the
-- leaves before and after the store.
abbrev pub next_change : Core → (pass : ℕ) → Spot → (word : ℕ) → Change
next_change core pass (Value leaf) word = value_change core pass leaf word
next_change core pass spot word = change_between pass (items_of (core.past.version core.past.now)) (items_of (next_tree core spot word))

-- A bulk load: what the words of a table show that is made of sorted pairs

-- the root's entry that a table's words name, or none
abbrev pub loaded_root : List ℕ → Option Entry
loaded_root words = entry_of (get_or words ROOT_WORD 0)

-- the tree that a table's words show; none where the table has no pair, or its words show no tree
abbrev pub loaded_tree : Layout → List ℕ → Option Tree
loaded_tree layout words = tree_of (heap_of (fields_in layout words)) (loaded_root words)

-- The words of a table, made from sorted pairs, show a lawful tree or none (`top`, `tree`). Each word has 64 bits (`small`). The root's
-- word encodes an entry or none (`root`). The table has each record of the tree, whose words encode a node or a leaf, with room for the
-- leaf's key (`records`).
pub record IsLoad (layout : Layout) (words : List ℕ) : Type 0 where
  pub small : All (λ word. word < 2 ^ 64) words
  pub root : HasEntryWord (loaded_root words) × (entry_word (loaded_root words) ≡ get_or words ROOT_WORD 0)
  pub top : IsTop (heap_of (fields_in layout words)) (loaded_root words) (loaded_tree layout words)
  pub tree : (shown : Tree) → loaded_tree layout words ≡ Some shown → IsTrie shown × IsBuilt shown
  pub records : (rec : Rec) → IsLinked (loaded_tree layout words) rec →
      HasRecord layout rec × IsPacked rec (fields_in layout words rec) × FitsIn layout rec (fields_in layout words rec)

-- Legality

-- A record of this kind has a word at this offset, which is not its state. Leaves of all classes count as if they had the longest record.
abbrev pub IsOffset : (rec : Rec) → (offset : ℕ) → Type 0
IsOffset (a_node number) offset = (FIELDS_OFFSET ≤ offset) × (offset < NODE_WORDS)
IsOffset (a_leaf number) offset = (FIELDS_OFFSET ≤ offset) × (offset < LEAF_WORDS)

-- A record of this kind has a word at this offset that is neither its state nor an entry nor a value. A node's are those of its head; a
-- leaf's are those of its key. Such a word stays the same while the record lives.
abbrev pub IsFixedOffset : (rec : Rec) → (offset : ℕ) → Type 0
IsFixedOffset (a_node number) offset = (FIELDS_OFFSET ≤ offset) × (offset < FIRST_ENTRY)
IsFixedOffset (a_leaf number) offset = (VALUE_OFFSET < offset) × (offset < LEAF_WORDS)

-- the node of this number is in the tree, since some version
abbrev pub IsInTree : (core : Core) → (node : ℕ) → Type 0
IsInTree core node = (since : ℕ) × (core.fate (a_node node) ≡ InTree since)

-- The table has the spot, and the pass holds the lock under which its word is stored. For the root it is the anchor. For a slot it is the
-- lock of its node. For a value it is the lock of what names the leaf: the anchor for the root, or the node with the leaf's entry.
abbrev pub IsLockedAt : (core : Core) → (pass : ℕ) → (spot : Spot) → Type 0
IsLockedAt core pass Root = core.anchor ≡ Some pass
IsLockedAt core pass (Slot node slot) = (node < core.layout.nodes) × (slot < MAX_ENTRIES) × (core.lock node ≡ Some pass)
IsLockedAt core pass (Value leaf) = (leaf < core.layout.leaves) × HasLockedNamer (bare core) pass leaf

-- The word may stand at the spot. At the root and in a slot it is the word of an entry, or of none. As a value it has 64 bits.
abbrev pub IsWordFor : (spot : Spot) → (word : ℕ) → Type 0
IsWordFor (Value leaf) word = word < 2 ^ 64
IsWordFor spot word = HasEntryWord (entry_of word) × (entry_word (entry_of word) ≡ word)

-- After a store of the word in a slot, the words of the slot's node still encode a node. For the root and a value this asks nothing.
abbrev pub IsPackedAt : (core : Core) → (spot : Spot) → (word : ℕ) → Type 0
IsPackedAt core Root word = Unit {0}
IsPackedAt core (Value leaf) word = Unit {0}
IsPackedAt core (Slot node slot) word = IsPacked (a_node node) (stored_words core (Slot node slot) word (a_node node))

-- The publish of the word at the spot is legal. The pass holds the lock (`locked`), the word may stand there (`entry`), and a node there
-- stays one (`packed`). After the store the words show the next version, which differs by one change of the pass (`next`).
pub record IsLegalPublish (core : Core) (pass : ℕ) (spot : Spot) (word : ℕ) : Type 0 where
  pub locked : IsLockedAt core pass spot
  pub entry : IsWordFor spot word
  pub packed : IsPackedAt core spot word
  pub next : IsNextVersion core.shared pass (heap_of (stored_words core spot word)) (stored_root core spot word)
      (next_tree core spot word) (next_change core pass spot word)
  pub open next use *

-- The pass may store the word at the spot. The store of an entry must be a legal publish. A value needs the lock of what names the leaf,
-- and a word of 64 bits. That suffices: such a store is a legal publish too (`ValueIsLegal`).
abbrev pub MayStoreAt : (core : Core) → (pass : ℕ) → (spot : Spot) → (word : ℕ) → Type 0
MayStoreAt core pass (Value leaf) word = IsLockedAt core pass (Value leaf) × (word < 2 ^ 64)
MayStoreAt core pass spot word = IsLegalPublish core pass spot word

-- The pass may make the act in this core. The table has the words that the act names. What a load or an exchange finds is what stands
-- there. A record is filled, made ready or released by the pass that holds it; a fill leaves its state, and stores 64 bits. Made ready, it
-- must encode a node or a leaf that fits in its record. A node that a pass tries to lock is in the tree if its state is live. A pass
-- unlocks only what it has locked, and a node only while it is in the tree. It publishes only what `MayStoreAt` allows.
-- A mark is of a record that the pass unlinked before it last loaded the epoch, and has that epoch. A pin is set to the epoch loaded last,
-- by a pass without one, and cleared by a pass that has one. The epoch is raised up to EPOCHS - 1. A record is given back if its mark is
-- below the bound of a round that has loaded every pin. A bulk load is legal in the opening alone.
abbrev pub LegalAct : (core : Core) → (pass : ℕ) → (act : Act) → Type 0
LegalAct core pass (Claim rec found) = HasRecord core.layout rec × (found ≡ state_at core rec)
LegalAct core pass (Fill rec offset word) =
    HasRecord core.layout rec × (core.fate rec ≡ Held pass) × IsOffset rec offset × (word < 2 ^ 64) × HasWord core.layout rec offset
LegalAct core pass (Ready rec) =
    HasRecord core.layout rec × (core.fate rec ≡ Held pass) × IsPacked rec (core.words rec) × FitsIn core.layout rec (core.words rec)
LegalAct core pass (Release rec) = HasRecord core.layout rec × (core.fate rec ≡ Held pass)
LegalAct core pass (LoadRef Root word) = word ≡ entry_word core.root
LegalAct core pass (LoadRef (Slot node slot) word) =
    (node < core.layout.nodes) × (slot < MAX_ENTRIES) × (word ≡ record_word core (a_node node) (FIRST_ENTRY + slot))
LegalAct core pass (LoadRef (Value leaf) word) = (leaf < core.layout.leaves) × (word ≡ record_word core (a_leaf leaf) VALUE_OFFSET)
LegalAct core pass (LoadFixed rec offset word) =
    HasRecord core.layout rec × IsFixedOffset rec offset × (word ≡ record_word core rec offset) × HasWord core.layout rec offset
LegalAct core pass (Lock Anchor found) = found ≡ state_word (lock_tag core.anchor)
LegalAct core pass (Lock (NodeTarget node) found) =
    (node < core.layout.nodes) × (found ≡ state_at core (a_node node)) × (found ≡ state_word Live → IsInTree core node)
LegalAct core pass (Unlock Anchor) = core.anchor ≡ Some pass
LegalAct core pass (Unlock (NodeTarget node)) = (node < core.layout.nodes) × (core.lock node ≡ Some pass) × IsInTree core node
LegalAct core pass (Publish spot word) = MayStoreAt core pass spot word
LegalAct core pass (Mark rec epoch) =
    HasRecord core.layout rec × (epoch ≡ (core.rounds pass).epoch) ×
    ((since : ℕ) × (last : ℕ) × (core.fate rec ≡ Unlinked since last pass) × (last < (core.rounds pass).version))
LegalAct core pass (LoadEpoch word) = word ≡ core.epoch
LegalAct core pass (Advance expected found) = (1 ≤ expected) × (expected + 1 < EPOCHS) × (found ≡ core.epoch)
LegalAct core pass (SetPin word) = (core.pins pass ≡ None) × (word ≡ (core.rounds pass).epoch) × (1 ≤ word)
LegalAct core pass ClearPin = IsSome (core.pins pass)
LegalAct core pass (LoadPin other word) = (other < core.layout.passes) × (word ≡ pin_word (core.pins other))
LegalAct core pass (LoadState rec word) = HasRecord core.layout rec × (word ≡ state_at core rec)
LegalAct core pass (GiveBack rec epoch found) =
    HasRecord core.layout rec × (found ≡ state_at core rec) × (1 ≤ epoch) × (epoch < (core.rounds pass).bound) ×
    ((other : ℕ) → other < core.layout.passes → has_seen (core.rounds pass).seen other ≡ true)
LegalAct core pass (Load words) = (core ≡ opening core.layout) × IsLoad core.layout words.now

-- the act is a legal step of the pass: the pass is one of the layout's, and it may make the act
abbrev pub Legal : (core : Core) → (pass : ℕ) → (act : Act) → Type 0
Legal core pass act = (pass < core.layout.passes) × LegalAct core pass act

-- Effect

-- What passes share after the pass has tried to claim a record of this fate. If the record was free, the pass holds it. Else nothing has
-- changed.
abbrev pub claimed : (shared : Shared) → (pass : ℕ) → (rec : Rec) → (fate : Fate) → Shared
claimed shared pass rec Free = with_fate shared rec (Held pass)
claimed shared pass rec fate = shared

-- What passes share after a record of this fate was marked with an epoch. If the record was unlinked, it is marked then, and a node is no
-- longer locked. Else nothing has changed.
abbrev pub marked : (shared : Shared) → (rec : Rec) → (epoch : ℕ) → (fate : Fate) → Shared
marked shared rec epoch (Unlinked since last pass) = after_mark shared rec since last epoch
marked shared rec epoch fate = shared

-- What passes share after a try to give back a record of this fate, which expected a mark with this epoch. If the record had that mark, it
-- is free. Else nothing has changed.
abbrev pub given_back : (shared : Shared) → (rec : Rec) → (epoch : ℕ) → (fate : Fate) → Shared
given_back shared rec epoch (Marked since last mark) = if nat_eq mark epoch then with_fate shared rec Free else shared
given_back shared rec epoch fate = shared

-- What passes share after the pass has tried to lock the anchor, whose lock `holder` had. If nobody had it, the pass has it. Else nothing
-- has changed.
abbrev pub anchored : (shared : Shared) → (pass : ℕ) → (holder : Option ℕ) → Shared
anchored shared pass None = with_anchor shared (Some pass)
anchored shared pass (Some holder) = shared

-- What passes share after the pass has tried to lock a node, and found its state word to be `found`. If that says live, the pass has the
-- lock. Else nothing has changed.
abbrev pub locked_where : (shared : Shared) → (node pass found : ℕ) → Shared
locked_where shared node pass found = if nat_eq found (state_word Live) then with_lock shared node (Some pass) else shared

-- What passes share after a try to raise the epoch by 1. An epoch other than `expected` stays.
abbrev pub advanced : (shared : Shared) → (expected : ℕ) → Shared
advanced shared expected = if nat_eq shared.epoch expected then with_epoch shared (suc shared.epoch) else shared

-- The words of the records after an act. Only a fill, a publish or a bulk load changes any, since the states stand in the fates.
abbrev pub words_after : (core : Core) → (act : Act) → (rec : Rec) → List ℕ
words_after core (Fill rec offset word) = with_word core.words rec offset word
words_after core (Publish spot word) = stored_words core spot word
words_after core (Load words) = fields_in core.layout words.now
words_after core _ = core.words

-- What passes share after an act of the pass, without the words of records. A fill, and a load of an entry, a value, a fixed word or a
-- state, change nothing here.
abbrev pub shared_after : (core : Core) → (pass : ℕ) → (act : Act) → Shared
shared_after core pass (Claim rec found) = claimed core.shared pass rec (core.fate rec)
shared_after core pass (Fill rec offset word) = core.shared
shared_after core pass (Ready rec) = with_fate core.shared rec (ReadyBy pass)
shared_after core pass (Release rec) = with_fate core.shared rec Free
shared_after core pass (LoadRef spot word) = core.shared
shared_after core pass (LoadFixed rec offset word) = core.shared
shared_after core pass (Lock Anchor found) = anchored core.shared pass core.anchor
shared_after core pass (Lock (NodeTarget node) found) = locked_where core.shared node pass found
shared_after core pass (Unlock Anchor) = with_anchor core.shared None
shared_after core pass (Unlock (NodeTarget node)) = with_lock core.shared node None
shared_after core pass (Publish spot word) =
    published_by core.shared pass (stored_root core spot word) (next_tree core spot word) (next_change core pass spot word)
shared_after core pass (Mark rec epoch) = marked core.shared rec epoch (core.fate rec)
shared_after core pass (LoadEpoch word) = after_load_epoch core.shared pass
shared_after core pass (Advance expected found) = advanced core.shared expected
shared_after core pass (SetPin word) = after_set_pin core.shared pass word
shared_after core pass ClearPin = with_pin core.shared pass None
shared_after core pass (LoadPin other word) = after_load_pin core.shared pass other
shared_after core pass (LoadState rec word) = core.shared
shared_after core pass (GiveBack rec epoch found) = given_back core.shared rec epoch (core.fate rec)
shared_after core pass (Load words) = loaded_by core.shared pass (loaded_root words.now) (loaded_tree core.layout words.now)

-- The core after an act of a pass, whether the act is legal or not. The layout never changes.
abbrev pub after : (core : Core) → (pass : ℕ) → (act : Act) → Core
after core pass act = record { layout = core.layout; words = words_after core act; shared = shared_after core pass act }

-- The act is an atomic step. A bulk load is none, since it changes many words.
abbrev pub IsAtomic : Act → Type 0
IsAtomic (Load words) = ⊥
IsAtomic act = Unit {0}

-- The word of a step: which it is, what the step leaves there, and what its caller is told

-- the location of a record's word at an offset, which counts from the state on
abbrev pub word_of : (rec : Rec) → (offset : ℕ) → Location
word_of (a_node number) offset = NodeWord number offset
word_of (a_leaf number) offset = LeafWord number offset

-- the location of a record's state
abbrev pub state_of : Rec → Location
state_of rec = word_of rec 0

-- the location of the word at a spot
abbrev pub spot_word : Spot → Location
spot_word Root = RootWord
spot_word (Slot node slot) = NodeWord node (FIRST_ENTRY + slot)
spot_word (Value leaf) = LeafWord leaf VALUE_OFFSET

-- the location of the state word of what a writer locks
abbrev pub target_word : Target → Location
target_word Anchor = AnchorWord
target_word (NodeTarget node) = state_of (a_node node)

-- The location of the word that an act loads, stores or exchanges. A bulk load writes many words: the root's stands for them.
abbrev pub location_of : (pass : ℕ) → (act : Act) → Location
location_of pass (Claim rec found) = state_of rec
location_of pass (Fill rec offset word) = word_of rec offset
location_of pass (Ready rec) = state_of rec
location_of pass (Release rec) = state_of rec
location_of pass (LoadRef spot word) = spot_word spot
location_of pass (LoadFixed rec offset word) = word_of rec offset
location_of pass (Lock target found) = target_word target
location_of pass (Unlock target) = target_word target
location_of pass (Publish spot word) = spot_word spot
location_of pass (Mark rec epoch) = state_of rec
location_of pass (LoadEpoch word) = Epoch
location_of pass (Advance expected found) = Epoch
location_of pass (SetPin word) = PinOf pass
location_of pass ClearPin = PinOf pass
location_of pass (LoadPin other word) = PinOf other
location_of pass (LoadState rec word) = state_of rec
location_of pass (GiveBack rec epoch found) = state_of rec
location_of pass (Load words) = RootWord

-- What a compare-and-exchange of `old` for `new` leaves where `word` stood. If `word` equals `old`, it leaves `new`; else `word` stays.
abbrev pub exchanged : (word old new : ℕ) → ℕ
exchanged word old new = if nat_eq word old then new else word

-- The word that an act leaves at its location, where `stood` stood before. A load leaves `stood`, and so does an exchange that finds
-- another word than it expects. A bulk load leaves the root's word there.
abbrev pub writes : (act : Act) → (stood : ℕ) → ℕ
writes (Claim rec found) stood = exchanged stood (state_word FreeTag) (state_word HeldTag)
writes (Fill rec offset word) stood = word
writes (Ready rec) stood = state_word Live
writes (Release rec) stood = state_word FreeTag
writes (LoadRef spot word) stood = stood
writes (LoadFixed rec offset word) stood = stood
writes (Lock target found) stood = exchanged stood (state_word Live) (state_word Locked)
writes (Unlock target) stood = state_word Live
writes (Publish spot word) stood = word
writes (Mark rec epoch) stood = state_word (Obsolete epoch)
writes (LoadEpoch word) stood = stood
writes (Advance expected found) stood = exchanged stood expected (expected + 1)
writes (SetPin word) stood = word
writes ClearPin stood = pin_word None
writes (LoadPin other word) stood = stood
writes (LoadState rec word) stood = stood
writes (GiveBack rec epoch found) stood = exchanged stood (state_word (Obsolete epoch)) (state_word FreeTag)
writes (Load words) stood = get_or words.now ROOT_WORD 0
