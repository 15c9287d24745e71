-- What a pass knows of a core: when it is true, what its own steps teach it, and which steps it may make.
use Rattle.std.specs.Prelude.{◌≡◌, ◌≢◌, ◌⊎◌, ℕ, ◌+◌, ◌-◌, ◌<◌, ◌≤◌, List, [], ◌∷◌, ◌++◌, set, slice_get, map, filter, All, not, nat_eq, if◌then◌else◌, Option, Some, None}
use Rattle.compound_node.specs.declared.entries.Entry.{Entry}
use Rattle.finite_map.specs.declared.Change.{Change}
use Rattle.finite_map.specs.declared.Note.{Note}
use Rattle.finite_map.specs.Fronts.{BeginsWith, OthersGoOn}
use Rattle.record_words.specs.declared.TheConstants.{FIELDS_OFFSET, FIRST_ENTRY, VALUE_OFFSET}
use Rattle.record_words.specs.declared.layout.Location.{Location}
use Rattle.record_words.specs.declared.layout.Layout.{Layout}
use Rattle.record_words.specs.declared.state.Tag.TheVariants.{Live, Free as FreeTag}
use Rattle.record_words.specs.State.{state_word}
use Rattle.tries.specs.Tree.{Tree, node, leaf, fork}
use Rattle.record_words.specs.declared.records.Rec.{Rec}
use Rattle.record_words.specs.declared.records.Rec.TheVariants.{Node as a_node, Leaf as a_leaf}
use Rattle.versions.specs.declared.Pin.{Pin}
use Rattle.versions.specs.State.{Past, Stands}
use Rattle.versions.specs.Core.{Fate, Free, InTree, Marked}
use Rattle.versions.specs.Steps.{same_rec, is_linked, begun_round, with_seen}
use Rattle.versions.specs.Told.{added_change, items_of}
use Rattle.rowex_core.specs.declared.event.Act.{Act}
use Rattle.rowex_core.specs.declared.event.Act.TheVariants.{Claim, Fill, Ready, Release, LoadRef, LoadFixed, Lock, Unlock, Publish, Mark, LoadEpoch, Advance, SetPin, ClearPin, LoadPin, LoadState, GiveBack, Load}
use Rattle.rowex_core.specs.declared.event.Target.{Target}
use Rattle.rowex_core.specs.declared.event.Target.TheVariants.{Anchor, Node as NodeTarget}
use Rattle.rowex_core.specs.declared.event.Spot.{Spot}
use Rattle.rowex_core.specs.declared.event.Spot.TheVariants.{Root, Slot, Value}
use Rattle.rowex_core.specs.declared.known.Fact.{Fact}
use Rattle.rowex_core.specs.declared.known.Fact.TheVariants.{Rooted, Placed, Fixed, Valued}
use Rattle.rowex_core.specs.declared.known.Holding.{Holding}
use Rattle.rowex_core.specs.declared.known.Holding.TheVariants.{Held, Ready as IsReady, Unlinked}
use Rattle.rowex_core.specs.declared.known.Owned.{Owned}
use Rattle.rowex_core.specs.declared.known.Loaded.{Loaded}
use Rattle.rowex_core.specs.declared.known.Locked.{Locked}
use Rattle.rowex_core.specs.declared.known.Failed.{Failed}
use Rattle.rowex_core.specs.declared.known.FailedAct.{FailedAct}
use Rattle.rowex_core.specs.declared.known.FailedAct.TheVariants.{Claim as a_claim, Lock as a_lock, LoadState as a_load}
use Rattle.rowex_core.specs.declared.known.Known.{Known}
use Rattle.rowex_core.specs.declared.known.View.{View}
use Rattle.rowex_core.specs.declared.known.View.TheVariants.{Spent, Dealer, Founder, Pass, Pair, Witness, Follower}
use Rattle.rowex_core.specs.Cores.{Core, IsLawful, holder_of}
use Rattle.record_words.specs.Decoding.{entry_of}
use Rattle.rowex_core.specs.Reading.{root_of, entry_in, head_value, HasWordAt}
use Rattle.rowex_core.specs.Sharing.{share, known_share, nothing}
use Rattle.rowex_core.specs.Words.{record_word}
use Rattle.rowex_core.specs.Events.{loaded_tree, Legal, IsLockedAt, stored_words, stored_root, next_change, next_tree, state_of, target_word}

-- Facts of past versions

-- the record stood in the tree of some version from `since` to `at`
abbrev pub StoodBetween : Past → (since at : ℕ) → Rec → Type 0
StoodBetween past since at rec = (version : ℕ) × (tree : Tree) × (since ≤ version) × (version ≤ at) × Stands past version rec tree

-- In some version from `since` to `at` the record stood in the tree. The tree that began with the record there has the property P.
abbrev pub StoodAs : (past : Past) → (since at : ℕ) → (rec : Rec) → (P : Tree → Type 0) → Type 0
StoodAs past since at rec P = (version : ℕ) × (tree : Tree) × (since ≤ version) × (version ≤ at) × Stands past version rec tree × P tree

-- Take any version `from` that is `since` or later, and let the record have stood in the tree of a version from `from` to `at`. In one of
-- these versions it stood with a tree that has the property P. It is a condition, since the record may have been unlinked before the load.
abbrev pub HoldsIfStood : (past : Past) → (since at : ℕ) → (rec : Rec) → (P : Tree → Type 0) → Type 0
HoldsIfStood past since at rec P = (from : ℕ) → since ≤ from → StoodBetween past from at rec → StoodAs past from at rec P

-- What a fact says of the past. `Rooted`: in version `at`, which is `since` or later, the root had this entry. The others tell what a load
-- found in a record: an entry in a slot, a fixed word, or a value. Take any version from `since` on. If the record stood in a version from
-- there to `at`, it had that in one of these versions (`HoldsIfStood`). No `at` is ahead of the newest version.
abbrev pub IsFact : Past → Fact → Type 0
IsFact past (Rooted since at entry) = (since ≤ at) × (at ≤ past.now) × (root_of (past.version at) ≡ entry)
IsFact past (Placed since at number slot entry) = (at ≤ past.now) × HoldsIfStood past since at (a_node number) (λ tree. entry_in tree slot ≡ entry)
IsFact past (Fixed since at rec offset word) = (at ≤ past.now) × HoldsIfStood past since at rec (λ tree. HasWordAt tree offset word)
IsFact past (Valued since at number value) = (at ≤ past.now) × HoldsIfStood past since at (a_leaf number) (λ tree. head_value tree ≡ Some value)

-- If the pass has locked what names the leaf, the leaf still has the value that the pass loaded. Without the lock this says nothing.
abbrev pub IsStillLoaded : (pass : ℕ) → (core : Core) → (loaded : Loaded) → Type 0
IsStillLoaded pass core loaded = IsLockedAt core pass (Value loaded.leaf) → record_word core (a_leaf loaded.leaf) VALUE_OFFSET ≡ loaded.value

-- What a pass has seen is true of the past and of all changes so far, `changes`. The changes that it has seen, `seen`, come first, and
-- behind them others alone have changed the map. `last` are the changes that its last load of the root showed, and `seen` begins with them.
-- Each fact of `known` is true of the past.
pub record HasSeen (pass : ℕ) (past : Past) (changes : List Change) (seen last : List Change) (known : List Fact) : Type 0 where
  pub front : OthersGoOn pass seen changes
  pub fresh : BeginsWith seen last
  pub facts : All (IsFact past) known

-- The steps that a pass remembers have numbers below `next`, the number of its next step. They are its last load of the root, with the
-- number `last`, and each act that failed.
pub record AreCounted (next last : ℕ) (failures : List Failed) : Type 0 where
  pub loaded : last < next
  pub failed : All (λ failure. failure.step < next) failures

-- What the pass knows is true of the core. The layout has the pass (`pass`), and the steps that the pass remembers have been made
-- (`counted`). What it has seen is true, and so are the values that it remembers (`seen`, `values`). It knows just what it has (`own`). Of
-- its notes this says nothing. No step of another pass makes it untrue.
pub record Knows (core : Core) (known : Known) : Type 0 where
  pub pass : known.pass < core.layout.passes
  pub counted : AreCounted known.steps known.fresh.step known.failed
  pub seen : HasSeen known.pass core.past core.changes known.front known.fresh.front known.facts
  pub own : share known.pass core ≡ known_share known
  pub values : All (IsStillLoaded known.pass core) known.values

-- The part of what a pass knows that stays true until it publishes, sets its pin or clears it. It is the changes that the pass has seen,
-- its facts of the past, and its pin.
pub record Recalls (core : Core) (known : Known) : Type 0 where
  pub front : OthersGoOn known.pass known.front core.changes
  pub facts : All (IsFact core.past) known.facts
  pub pin : core.pins known.pass ≡ known.pin

-- the pass has been pinned since the version `since`, or since an earlier one
abbrev pub IsPinnedSince : (known : Known) → (since : ℕ) → Type 0
IsPinnedSince known since = (pin : Pin) × (known.pin ≡ Some pin) × (pin.version ≤ since)

-- none of the changes is by the pass
abbrev pub NoChangeBy : (pass : ℕ) → (changes : List Change) → Type 0
NoChangeBy pass changes = All (λ change. change.pass ≢ pass) changes

-- The pass is as a new one: it has made no change, and has nothing (`nothing`).
pub record IsUntouched (core : Core) (pass : ℕ) : Type 0 where
  pub changes : NoChangeBy pass core.changes
  pub own : share pass core ≡ nothing

-- What a view says of a core. The view of a pass says what the pass knows, and that of a pair what two different passes know. A dealer's
-- says that the passes from `next` on, which are still to be dealt, have done nothing. A founder is a pass with a dealer. A witness says
-- that the changes begin with its front. A follower is a pass with a witness. A spent view says nothing.
abbrev pub Knowing : Core → View → Type 0
Knowing core Spent = Unit {0}
Knowing core (Dealer next) = (pass : ℕ) → next ≤ pass → IsUntouched core pass
Knowing core (Founder known next) = Knows core known × ((pass : ℕ) → next ≤ pass → IsUntouched core pass)
Knowing core (Pass known) = Knows core known
Knowing core (Pair one other) = Knows core one × Knows core other × (one.pass ≢ other.pass)
Knowing core (Witness front) = BeginsWith core.changes front
Knowing core (Follower known front) = Knows core known × BeginsWith core.changes front

-- The view tells of this pass: it has the pass's knowledge, or a dealer in it has still to deal the pass. A witness and a spent view tell
-- of none.
abbrev pub IsViewOf : (view : View) → (pass : ℕ) → Type 0
IsViewOf Spent pass = ⊥
IsViewOf (Dealer next) pass = next ≤ pass
IsViewOf (Founder known next) pass = (known.pass ≡ pass) ⊎ (next ≤ pass)
IsViewOf (Pass known) pass = known.pass ≡ pass
IsViewOf (Pair one other) pass = (one.pass ≡ pass) ⊎ (other.pass ≡ pass)
IsViewOf (Witness front) pass = ⊥
IsViewOf (Follower known front) pass = known.pass ≡ pass

-- What a step teaches its pass, where `core` is the core before the step

-- The facts of a pass after a load. If it is pinned, the load adds one in front: what was loaded, as a fact since the version of the pin.
-- Without a pin it adds none, since a fact reaches back to a pin.
abbrev pub facts_with : (pin : Option Pin) → (fact_of : ℕ → Fact) → (facts : List Fact) → List Fact
facts_with None fact_of facts = facts
facts_with (Some pin) fact_of facts = fact_of pin.version ∷ facts

-- what a pass knows, with one more failed act: the step that it is making
abbrev pub failed_with : (known : Known) → (act : FailedAct) → (location : Location) → (word : ℕ) → Known
failed_with known act location word =
    record known { failed = record { act = act; location = location; word = word; step = known.steps } ∷ known.failed }

-- a record of a pass's own; if it is the record `rec`, it is now held as `holding` says
abbrev pub with_holding : (rec : Rec) → (holding : Holding) → (owned : Owned) → Owned
with_holding rec holding owned = if same_rec owned.rec rec then record owned { holding = holding } else owned

-- a record of a pass's own; if it is the record `rec`, it now has this word at this offset, which counts from the state
abbrev pub with_filled_word : Rec → (offset word : ℕ) → Owned → Owned
with_filled_word rec offset word owned =
    if same_rec owned.rec rec then record owned { words = set owned.words (offset - FIELDS_OFFSET) word } else owned

-- the records of a pass's own without the record `rec`
abbrev pub without_record : Rec → List Owned → List Owned
without_record rec own = filter (λ owned. not (same_rec owned.rec rec)) own

-- the locks of a pass without that of the node of this number
abbrev pub without_lock : (node : ℕ) → (locks : List Locked) → List Locked
without_lock number locks = filter (λ lock. not (nat_eq lock.node number)) locks

-- What a pass knows after it has tried to claim a record of this fate, and found the state word to be `found`. A free record is then its
-- own, as held. Else the claim has failed, and the pass knows which pass has the record, if one has.
abbrev pub claim_learned : (core : Core) → (rec : Rec) → (found : ℕ) → (fate : Fate) → (known : Known) → Known
claim_learned core rec found Free known = record known { own = record { rec = rec; holding = Held; words = core.words rec } ∷ known.own }
claim_learned core rec found fate known = failed_with known (a_claim (holder_of fate)) (state_of rec) found

-- the pass that made a change, if there is one
abbrev pub maker_of : Option Change → Option ℕ
maker_of None = None
maker_of (Some change) = Some change.pass

-- The pass that keeps others from locking a node of this fate, if there is one. It has the lock. Of a marked node it is the pass whose
-- change unlinked the node: change `last`, counted from 0, made the version after `last`.
abbrev pub blocking_pass_of : (core : Core) → (node : ℕ) → (fate : Fate) → Option ℕ
blocking_pass_of core number (Marked since last epoch) = maker_of (slice_get core.changes last)
blocking_pass_of core number fate = core.lock number

-- the pass that stands in the way of a lock of this target, if one does
abbrev pub blocking_pass_at : Core → Target → Option ℕ
blocking_pass_at core Anchor = core.anchor
blocking_pass_at core (NodeTarget number) = blocking_pass_of core number (core.fate (a_node number))

-- What a pass knows after it has tried to lock the anchor, whose lock `holder` had. If nobody had it, the pass knows the root's entry, and
-- forgets the values loaded before: they may have changed until now. Else the try has failed, and the pass knows who has the lock.
abbrev pub anchor_learned : (core : Core) → (found : ℕ) → (holder : Option ℕ) → (known : Known) → Known
anchor_learned core found None known = record known { anchor = Some core.root; values = [] }
anchor_learned core found (Some pass) known = failed_with known (a_lock (Some pass)) (target_word Anchor) found

-- What a pass knows after it has tried to lock a node, and found its state word to be `found`. If that says live, the pass knows the node's
-- words, and forgets the values loaded before: they may have changed until now. Else the try has failed, and the pass knows who stands in
-- the way.
abbrev pub node_learned : (core : Core) → (node found : ℕ) → (known : Known) → Known
node_learned core number found known =
    if nat_eq found (state_word Live) then record known { locks = record { node = number; words = core.words (a_node number) } ∷ known.locks; values = [] }
    else failed_with known (a_lock (blocking_pass_of core number (core.fate (a_node number)))) (target_word (NodeTarget number)) found

-- What a pass knows after it has loaded a record's state word, which was `word`. A record that isn't free counts as a failed act, with the
-- pass that has it, if one has. So a search for a free record can tell why it found none.
abbrev pub state_learned : (core : Core) → (rec : Rec) → (word : ℕ) → (known : Known) → Known
state_learned core rec word known =
    if nat_eq word (state_word FreeTag) then known else failed_with known (a_load (holder_of (core.fate rec))) (state_of rec) word

-- the newest version when a pin was set; 0 without a pin
abbrev pub version_of : Option Pin → ℕ
version_of None = 0
version_of (Some pin) = pin.version

-- What a pass knows after it has loaded the word of a spot. The pass has then seen all changes so far. What stands at the spot is a new
-- fact, if the pass is pinned. A load of the root becomes the last one in `fresh`, with the front, the step's number and the pin's version.
-- A loaded value is remembered.
abbrev pub entry_learned : (core : Core) → (spot : Spot) → (known : Known) → Known
entry_learned core Root known = record known {
  front = core.changes;
  fresh = record { front = core.changes; step = known.steps; pinned = version_of known.pin };
  facts = facts_with known.pin (λ since. Rooted since core.past.now core.root) known.facts;
}
entry_learned core (Slot number slot) known = record known {
  front = core.changes;
  facts = facts_with known.pin (λ since. Placed since core.past.now number slot (entry_of (record_word core (a_node number) (FIRST_ENTRY + slot)))) known.facts;
}
entry_learned core (Value number) known = record known {
  front = core.changes;
  facts = facts_with known.pin (λ since. Valued since core.past.now number (record_word core (a_leaf number) VALUE_OFFSET)) known.facts;
  values = record { leaf = number; value = record_word core (a_leaf number) VALUE_OFFSET } ∷ known.values;
}

-- the records of a tree, each before those below it
abbrev pub records_of : Tree → List Rec
records_of (leaf number key value) = a_leaf number ∷ []
records_of (node number fixed body) = a_node number ∷ records_of body
records_of (fork position left right) = records_of left ++ records_of right

-- the records of a version, which may be empty
abbrev pub records_in : Option Tree → List Rec
records_in None = []
records_in (Some tree) = records_of tree

-- The record as one of the pass's own, after its publish has unlinked the record. The fate before the publish says since when it was in the
-- tree; of another fate the result has no meaning. The record stays the pass's own until it is marked.
abbrev pub owned_unlinked : (core : Core) → (rec : Rec) → (fate : Fate) → Owned
owned_unlinked core rec (InTree since) = record { rec = rec; holding = Unlinked since core.past.now; words = core.words rec }
owned_unlinked core rec _ = record { rec = rec; holding = Unlinked 0 0; words = core.words rec }

-- The records of a pass's own after its publish has made this the tree. The records that the publish unlinks come first, then those of
-- `own` that the tree doesn't link. A record of `own` that the tree links is in the tree, and the pass's own no more.
abbrev pub own_after : (core : Core) → (tree : Option Tree) → (own : List Owned) → List Owned
own_after core tree own =
    map (λ rec. owned_unlinked core rec (core.fate rec)) (filter (λ rec. not (is_linked tree rec)) (records_in (core.past.version core.past.now))) ++
    filter (λ owned. not (is_linked tree owned.rec)) own

-- the lock of a node, with the words that this node has now
abbrev pub locked_with_words : (Rec → List ℕ) → Locked → Locked
locked_with_words words lock = record lock { words = words (a_node lock.node) }

-- The locks of a pass after its publish has made this the tree, in which records have these words. Locks of nodes that the tree doesn't
-- link are gone: such a node counts as the pass's own until it is marked.
abbrev pub locks_after : (words : Rec → List ℕ) → (tree : Option Tree) → (locks : List Locked) → List Locked
locks_after words tree locks = map (λ lock. locked_with_words words lock) (filter (λ lock. is_linked tree (a_node lock.node)) locks)

-- What a pass knows of the root's entry by the anchor's lock, after its store to a spot. A store to the root makes it `root`, the root's
-- entry after the store. Else it stays `anchor`, what the pass knew before.
abbrev pub anchor_after : (spot : Spot) → (root : Option Entry) → (anchor : Option (Option Entry)) → Option (Option Entry)
anchor_after Root root anchor = Some root
anchor_after (Slot number slot) root anchor = anchor
anchor_after (Value number) root anchor = anchor

-- What a pass knows after it has published the word at the spot. It has seen all changes so far, its own as the last. Its records, its
-- locks and the root's entry are as after the store. It forgets the values that it has loaded.
abbrev pub publish_learned : (core : Core) → (spot : Spot) → (word : ℕ) → (known : Known) → Known
publish_learned core spot word known = record known {
  front = core.changes ++ next_change core known.pass spot word ∷ [];
  own = own_after core (next_tree core spot word) known.own;
  locks = locks_after (stored_words core spot word) (next_tree core spot word) known.locks;
  anchor = anchor_after spot (stored_root core spot word) known.anchor;
  values = [];
}

-- What a pass knows after a bulk load of this tree. It has seen each leaf added, as if it had loaded the root right before. The load gives
-- it no record of its own, and forgets the values that it has loaded.
abbrev pub load_learned : (core : Core) → (tree : Option Tree) → (known : Known) → Known
load_learned core tree known = record known {
  front = core.changes ++ map (added_change known.pass) (items_of tree);
  fresh = record { front = core.changes; step = known.steps; pinned = version_of known.pin };
  values = [];
}

-- What a pass knows after an act of its own, but for the count of its steps. `core` is the core before the act. An unlock drops the lock
-- and a mark the record; both also make the pass forget the values that it has loaded. A raise of the epoch and a give-back teach it
-- nothing.
abbrev pub learned_by : (core : Core) → (act : Act) → (known : Known) → Known
learned_by core (Claim rec found) known = claim_learned core rec found (core.fate rec) known
learned_by core (Fill rec offset word) known = record known { own = map (with_filled_word rec offset word) known.own }
learned_by core (Ready rec) known = record known { own = map (with_holding rec IsReady) known.own }
learned_by core (Release rec) known = record known { own = without_record rec known.own }
learned_by core (LoadRef spot word) known = entry_learned core spot known
learned_by core (LoadFixed rec offset word) known =
    record known { front = core.changes; facts = facts_with known.pin (λ since. Fixed since core.past.now rec offset word) known.facts }
learned_by core (Lock Anchor found) known = anchor_learned core found core.anchor known
learned_by core (Lock (NodeTarget number) found) known = node_learned core number found known
learned_by core (Unlock Anchor) known = record known { anchor = None; values = [] }
learned_by core (Unlock (NodeTarget number)) known = record known { locks = without_lock number known.locks; values = [] }
learned_by core (Publish spot word) known = publish_learned core spot word known
learned_by core (Mark rec epoch) known = record known { own = without_record rec known.own; values = [] }
learned_by core (LoadEpoch word) known = record known { round = begun_round core.epoch core.past.now }
learned_by core (Advance expected found) known = known
learned_by core (SetPin word) known = record known { pin = Some (record { word = word; version = core.past.now; floor = core.epoch }) }
learned_by core ClearPin known = record known { pin = None }
learned_by core (LoadPin other word) known = record known { round = with_seen known.round other (core.pins other) }
learned_by core (LoadState rec word) known = state_learned core rec word known
learned_by core (GiveBack rec epoch found) known = known
learned_by core (Load words) known = load_learned core (loaded_tree core.layout words.now) known

-- what a pass knows after its step: what the act teaches it, and that it has made one step more
abbrev pub learned : (core : Core) → (act : Act) → (known : Known) → Known
learned core act known = let taught = learned_by core act known in record taught { steps = known.steps + 1 }

-- The pass has made the act, as a legal step at some lawful core of this layout. It knew `before` before the step, and knows `after` after
-- it. `said` gives the notes that are appended, by what the step has taught the pass.
pub record IsEvent (layout : Layout) (act : Act) (said : Known → List Note) (before after : Known) : Type 0 where
  pub core : Core
  pub lawful : IsLawful core
  pub layout_is : core.layout ≡ layout
  pub knows : Knows core before
  pub legal : Legal core before.pass act
  pub learned_is : after ≡ record (learned core act before) { notes = before.notes ++ said (learned core act before) }

-- Between knowing `before` and knowing `after` a pass has loaded the root. At the last such load it knew `at`, which was true of a lawful
-- core of this layout. The load showed it all changes of that core. They begin with those that any pass had seen by then.
pub record SeesAllAtRoot (layout : Layout) (before after : Known) : Type 0 where
  pub core : Core
  pub lawful : IsLawful core
  pub layout_is : core.layout ≡ layout
  pub at : Known
  pub knows : Knows core at
  pub pass : at.pass ≡ before.pass
  pub since : before.steps ≤ at.steps
  pub until : at.steps < after.steps
  pub fresh : after.fresh ≡ record { front = core.changes; step = at.steps; pinned = version_of at.pin }
  pub all : (other : Known) → Knows core other → BeginsWith after.fresh.front other.front
