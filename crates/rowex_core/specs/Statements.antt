-- The laws of the core.
use Rattle.std.specs.Prelude.{◌≡◌, ◌≢◌, ℕ, suc, ◌+◌, ◌<◌, ◌≤◌, List, [], ◌∷◌, ◌++◌, map, set, Some}
use Rattle.compound_node.specs.declared.entries.Entry.TheVariants.{Node}
use Rattle.finite_map.specs.declared.Call.{Call}
use Rattle.finite_map.specs.declared.Call.TheVariants.{Upsert, Remove}
use Rattle.finite_map.specs.declared.Change.{Change}
use Rattle.finite_map.specs.declared.Kind.{Kind}
use Rattle.finite_map.specs.declared.Kind.TheVariants.{Added, Replaced, Removed}
use Rattle.finite_map.specs.Maps.{map_after}
use Rattle.finite_map.specs.Fronts.{BeginsWith, map_of, Fits}
use Rattle.partial_keys.specs.declared.TheConstants.{MAX_ENTRIES}
use Rattle.record_words.specs.declared.TheConstants.{FIRST_ENTRY}
use Rattle.record_words.specs.Layout.{address}
use Rattle.record_words.specs.declared.layout.Layout.{Layout}
use Rattle.record_words.specs.declared.state.Tag.TheVariants.{Live}
use Rattle.record_words.specs.State.{state_word}
use Rattle.tries.specs.Keys.{Key, IsParted}
use Rattle.tries.specs.Tree.{Fixed, Tree, node, subtrie, IsTrie, IsBuilt}
use Rattle.tries.specs.Search.{seek, between, IsUnder}
use Rattle.record_words.specs.declared.records.Rec.{Rec}
use Rattle.record_words.specs.declared.records.Rec.TheVariants.{Node as a_node}
use Rattle.versions.specs.declared.Pin.{Pin}
use Rattle.versions.specs.State.{Past, Spans, Stands, IsSameRecord, IsLed, IsTop}
use Rattle.versions.specs.Core.{Free, Held, life_of}
use Rattle.versions.specs.Told.{added_change, content, items_of, IsChange}
use Rattle.versions.specs.Loads.{loaded_past}
use Rattle.rowex_core.specs.declared.event.Act.{Act}
use Rattle.rowex_core.specs.declared.event.Act.TheVariants.{LoadRef, Lock, Publish, Load}
use Rattle.rowex_core.specs.declared.event.Target.TheVariants.{Node as NodeTarget}
use Rattle.rowex_core.specs.declared.event.Spot.{Spot}
use Rattle.rowex_core.specs.declared.event.Spot.TheVariants.{Root}
use Rattle.rowex_core.specs.declared.known.Known.{Known}
use Rattle.rowex_core.specs.declared.known.View.{View}
use Rattle.rowex_core.specs.declared.known.View.TheVariants.{Dealer}
use Rattle.record_words.specs.Decoding.{entry_of}
use Rattle.rowex_core.specs.Reading.{node_words_of, entry_in, HasWordAt}
use Rattle.rowex_core.specs.Cores.{Core, IsLawful, heap_of}
use Rattle.rowex_core.specs.Words.{record_word, word_at, Shows}
use Rattle.rowex_core.specs.Events.{loaded_tree, IsAtomic, IsFixedOffset, IsOfEntry, Legal, after, location_of, writes, stored_words, stored_root, next_tree, next_change}
use Rattle.rowex_core.specs.Sharing.{HasAll}
use Rattle.rowex_core.specs.Frames.{IsFrame}
use Rattle.rowex_core.specs.Knowing.{Knows, Knowing, IsViewOf, learned}
use Rattle.rowex_core.specs.Opening.{opening, opening_words}
use Rattle.rowex_core.specs.Runs.{EventsLead, AreOthers}
use Rattle.rowex_core.specs.declared.event.Event.{Event}

-- a legal step keeps the core lawful
abbrev pub StepsStayLawful : Type 0
StepsStayLawful = (core : Core) (pass : ℕ) (act : Act) → IsLawful core → Legal core pass act → IsLawful (after core pass act)

-- Let a view be true of a lawful core, and not tell of the pass that makes a legal step. The view is true of the core after the step, too.
abbrev pub StepsKeepKnowledge : Type 0
StepsKeepKnowledge =
    (core : Core) (pass : ℕ) (act : Act) (view : View) → IsLawful core → Legal core pass act → ¬ IsViewOf view pass → Knowing core view →
    Knowing (after core pass act) view

-- A legal step of one pass leaves another pass what that other pass has, and the versions and changes so far (`IsFrame`). So two passes may
-- have locks of different nodes at once, and each goes on undisturbed.
abbrev pub StepsLeaveOthers : Type 0
StepsLeaveOthers =
    (core : Core) (pass other : ℕ) (act : Act) → pass ≢ other → IsLawful core → Legal core pass act → IsFrame other core (after core pass act)

-- Let what a pass knows be true of a lawful core, in which it makes a legal step. What it then knows is true of the core after the step.
abbrev pub LearnedIsTrue : Type 0
LearnedIsTrue =
    (core : Core) (known : Known) (act : Act) → IsLawful core → Knows core known → Legal core known.pass act →
    Knows (after core known.pass act) (learned core act known)

-- A legal load of the root shows its pass all changes made before it, both as seen and as its last load's. So they begin with those that
-- any pass had seen by then.
abbrev pub RootLoadSeesAll : Type 0
RootLoadSeesAll =
    (core : Core) (known : Known) (word : ℕ) → IsLawful core → Knows core known → Legal core known.pass (LoadRef Root word) →
    let taught = learned core (LoadRef Root word) known in (taught.front ≡ core.changes) × (taught.fresh.front ≡ core.changes) ×
    ((other : Known) → Knows core other → BeginsWith taught.fresh.front other.front)

-- If what a pass knows is true of the core, it knows all records and locks that it has, and no others, with their words.
abbrev pub PassKnowsAllItHas : Type 0
PassKnowsAllItHas = (core : Core) (known : Known) → Knows core known → HasAll core known

-- Let the table's words show a lawful core. An atomic step that is legal there writes one word at most: `writes`, at the act's location.
-- The words then show the core after the step.
abbrev pub StepsWriteOneWord : Type 0
StepsWriteOneWord =
    (core : Core) (pass : ℕ) (act : Act) (words : List ℕ) → IsAtomic act → IsLawful core → Legal core pass act → Shows core words →
    Shows (after core pass act) (set words (address core.layout (location_of pass act)) (writes act (word_at core (location_of pass act))))

-- For each layout the core of a new table is lawful, its words show it, and no pass has done anything in it.
abbrev pub OpeningIsLawful : Type 0
OpeningIsLawful = (layout : Layout) → IsLawful (opening layout) × Shows (opening layout) (opening_words layout) × Knowing (opening layout) (Dealer 0)

-- legal events lead from the core of a new table to a lawful core
abbrev pub RunsStayLawful : Type 0
RunsStayLawful = (layout : Layout) (events : List Event) (core : Core) → EventsLead (opening layout) events core → IsLawful core

-- Let a view be true of a lawful core. It stays true after legal events, if the view tells of no pass that makes one of them.
abbrev pub RunsKeep : Type 0
RunsKeep =
    (old : Core) (events : List Event) (new : Core) (view : View) → IsLawful old → EventsLead old events new → AreOthers view events →
    Knowing old view → Knowing new view

-- What an act appends to the changes and the versions. A publish appends one of each, and the earlier ones stay. A bulk load appends one
-- change for each leaf, and makes the versions anew (`loaded_past`): it is legal before any change alone. Any other act leaves both as they
-- are.
abbrev pub Appends : (act : Act) → (old new : Core) → Type 0
Appends (Publish spot word) old new =
    (change : Change) × (new.changes ≡ old.changes ++ change ∷ []) × (new.past.now ≡ suc old.past.now) ×
    ((version : ℕ) → version ≤ old.past.now → new.past.version version ≡ old.past.version version)
Appends (Load words) old new =
    (pass : ℕ) × (new.changes ≡ old.changes ++ map (added_change pass) (items_of (loaded_tree old.layout words.now))) ×
    (new.past ≡ loaded_past (loaded_tree old.layout words.now))
Appends _ old new = (new.changes ≡ old.changes) × (new.past ≡ old.past)

-- Each act appends to the changes and versions what its kind says (`Appends`).
abbrev pub EachActAppends : Type 0
EachActAppends = (core : Core) (pass : ℕ) (act : Act) → Appends act core (after core pass act)

-- A search may go on in a node that was unlinked meanwhile. Let a pass be pinned at the version `since` or before. Let a search of the key
-- be led to a node since that version (`IsLed`). The node's words now send it to an entry. The search is led to that entry since that
-- version, too.
abbrev pub Hindsight : Type 0
Hindsight =
    (core : Core) → IsLawful core → (pass : ℕ) (pin : Pin) → core.pins pass ≡ Some pin → (since : ℕ) → pin.version ≤ since →
    (key : Key) (number height : ℕ) →
    IsLed core.past since key (Node number height) → IsLed core.past since key (seek key (node_words_of (core.words (a_node number))).subtrie)

-- Let a node have two entries, and take a key below each, from any versions of the node's present life. The keys first differ at the fork
-- between the two entries, where the key below the left one has 0.
abbrev pub KeysPartAtFork : Type 0
KeysPartAtFork =
    (core : Core) → IsLawful core → (rec : Rec) (version other_version number other_number : ℕ) (fixed other_fixed : Fixed) (body other_body : Tree) →
    version ≤ core.past.now → other_version ≤ core.past.now →
    Spans core.past.now (life_of (core.fate rec)) version → Spans core.past.now (life_of (core.fate rec)) other_version →
    Stands core.past version rec (node number fixed body) → Stands core.past other_version rec (node other_number other_fixed other_body) →
    (left right : ℕ) → left < right → (key other : Key) → IsUnder body left key → IsUnder other_body right other →
    IsParted (between (subtrie body) left right) key other

-- Let a record have stood in the tree in a version since a pass's pin. It is neither free nor held. Its fixed words are those of that
-- version, but for what stands behind a leaf's key. So a pinned pass reads words of one content.
abbrev pub ReachKeepsWords : Type 0
ReachKeepsWords =
    (core : Core) → IsLawful core → (pass : ℕ) (pin : Pin) → core.pins pass ≡ Some pin → (version : ℕ) (rec : Rec) (tree : Tree) →
    pin.version ≤ version →
    version ≤ core.past.now → Stands core.past version rec tree →
    (core.fate rec ≢ Free) × ((holder : ℕ) → core.fate rec ≢ Held holder) ×
    ((offset : ℕ) → IsFixedOffset rec offset → HasWordAt tree offset (record_word core rec offset))

-- In this version the record stood with this tree, and in no later one does it stand.
pub record StoodLast (versions : Past) (version : ℕ) (rec : Rec) (tree : Tree) : Type 0 where
  pub past : version ≤ versions.now
  pub stands : Stands versions version rec tree
  pub later : (other : ℕ) (other_tree : Tree) → version < other → other ≤ versions.now → Stands versions other rec other_tree → ⊥

-- Let a node have stood in the tree in a version `since`, which is no older than a pass's pin. There is a last version `last` in which it
-- stood. Each slot now has the entry that it had in `last`, or none. Fixed words and stems were the same in `since` and in `last`.
abbrev pub EntriesInReach : Type 0
EntriesInReach =
    (core : Core) → IsLawful core → (pass : ℕ) (pin : Pin) → core.pins pass ≡ Some pin → (since number : ℕ) (tree : Tree) → pin.version ≤ since →
    since ≤ core.past.now →
    Stands core.past since (a_node number) tree →
    (last : ℕ) × (last_tree : Tree) × (since ≤ last) × StoodLast core.past last (a_node number) last_tree × IsSameRecord tree last_tree ×
    ((slot : ℕ) → slot < MAX_ENTRIES → entry_of (record_word core (a_node number) (FIRST_ENTRY + slot)) ≡ entry_in last_tree slot)

-- A call that makes a change of this kind, with this value, to the key. A removal needs no value.
abbrev pub call_of_kind : (kind : Kind) → (key : Key) → (value : ℕ) → Call
call_of_kind Added key value = Upsert key value
call_of_kind Replaced key value = Upsert key value
call_of_kind Removed key value = Remove key

-- a call that makes this change
abbrev pub call_of_change : Change → Call
call_of_change change = call_of_kind change.kind change.key change.value

-- A legal publish appends one change, by its pass, which fits the map of the changes before it. The new version's content is what one call
-- makes of that map, whatever locks others hold.
abbrev pub PublishIsAStep : Type 0
PublishIsAStep =
    (core : Core) (pass : ℕ) (spot : Spot) (word : ℕ) → IsLawful core → Legal core pass (Publish spot word) →
    ((after core pass (Publish spot word)).changes ≡ core.changes ++ next_change core pass spot word ∷ []) ×
    ((next_change core pass spot word).pass ≡ pass) ×
    Fits (map_of core.changes) (next_change core pass spot word) ×
    (content ((after core pass (Publish spot word)).past.version (after core pass (Publish spot word)).past.now) ≡
    map_after (map_of core.changes) (call_of_change (next_change core pass spot word)))

-- `next_change` finds the change of a publish from the leaves alone. Let a word be stored at the root or in a slot. Let the words then show
-- no tree, or a bit trie of lawful nodes. Let a change of the pass lead from the newest version's leaves to that tree's, which differ. Then
-- `next_change` is this change. No lock is asked for.
abbrev pub FindsChange : Type 0
FindsChange =
    (core : Core) (pass : ℕ) (spot : Spot) (word : ℕ) → IsOfEntry spot → IsLawful core →
    IsTop (heap_of (stored_words core spot word)) (stored_root core spot word) (next_tree core spot word) →
    ((tree : Tree) → next_tree core spot word ≡ Some tree → IsTrie tree × IsBuilt tree) → (change : Change) →
    IsChange (core.past.version core.past.now) change (next_tree core spot word) →
    items_of (core.past.version core.past.now) ≢ items_of (next_tree core spot word) → change.pass ≡ pass → next_change core pass spot word ≡ change

-- Let a node be locked, and let a pass make a legal lock of another node, which it finds live. The core is then lawful, and both locks
-- stand: locks of different nodes don't exclude each other.
abbrev pub LocksApart : Type 0
LocksApart =
    (core : Core) (other pass number other_number : ℕ) → IsLawful core → core.lock number ≡ Some other → number ≢ other_number →
    Legal core pass (Lock (NodeTarget other_number) (state_word Live)) →
    IsLawful (after core pass (Lock (NodeTarget other_number) (state_word Live))) ×
    ((after core pass (Lock (NodeTarget other_number) (state_word Live))).lock number ≡ Some other) ×
    ((after core pass (Lock (NodeTarget other_number) (state_word Live))).lock other_number ≡ Some pass)
