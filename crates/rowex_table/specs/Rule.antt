-- The rule of the table, and what its steps tell.
use Rattle.std.specs.Prelude.{◌≡◌, ◌≢◌, ℕ, zero, suc, ◌+◌, ◌<◌, ◌≤◌, set, Bool, true, false, List, [], ◌∷◌, All, Option, Some, None}
use mathlib.Core.Option.{some}
use lib.ListN.{get_elem?}
use Rattle.atomic_table.specs.Table.{State, Me, Step, opening as first_state}
use Rattle.finite_map.specs.declared.Change.{Change}
use Rattle.finite_map.specs.declared.Note.{Note}
use Rattle.finite_map.specs.Fronts.{BeginsWith, LegalFront, OthersGoOn}
use Rattle.partial_keys.specs.declared.TheConstants.{MAX_ENTRIES}
use Rattle.record_words.specs.declared.layout.Layout.{Layout}
use Rattle.record_words.specs.declared.layout.Location.{Location}
use Rattle.record_words.specs.Layout.{address, IsInTable, uncommitted_in, uncommitted_word}
use Rattle.record_words.specs.declared.records.Rec.{Rec}
use Rattle.record_words.specs.declared.records.Rec.TheVariants.{Node as a_node, Leaf as a_leaf}
use Rattle.rowex_core.specs.declared.event.Act.{Act}
use Rattle.rowex_core.specs.declared.event.Act.TheVariants.{Claim, LoadRef, LoadFixed, Lock, LoadEpoch, Advance, LoadPin, LoadState, GiveBack, Load}
use Rattle.rowex_core.specs.declared.event.Spot.{Spot}
use Rattle.rowex_core.specs.declared.event.Spot.TheVariants.{Root, Slot, Value}
use Rattle.rowex_core.specs.declared.event.Event.{Event}
use Rattle.rowex_core.specs.declared.known.Known.{Known}
use Rattle.rowex_core.specs.Cores.{Core, HasRecord, IsLawful}
use Rattle.rowex_core.specs.Words.{Shows, word_at}
use Rattle.rowex_core.specs.Events.{Legal, exchanged, loaded_tree, location_of, word_of}
use Rattle.versions.specs.Told.{added_notes, items_of}
use Rattle.rowex_core.specs.Knowing.{Knows, Knowing, IsViewOf, IsEvent, learned}
use Rattle.rowex_core.specs.Opening.{opening}
use Rattle.rowex_core.specs.Runs.{EventsLead}
use Rattle.rowex_table.specs.declared.record_steps.RecordAt.{RecordAt}
use Rattle.rowex_table.specs.declared.traces.Trace.{Trace}
use Rattle.rowex_table.specs.declared.traces.TracedView.{TracedView}
use Rattle.rowex_table.specs.declared.traces.TracedView.TheVariants.{Spent, Dealer, Founder, Pass, Pair, Witness, Follower}
use Rattle.rowex_table.specs.Committed.{IsCommitted, IsTaken, TakenAreCommitted}
use Rattle.rowex_table.specs.Traces.{HasBounds, HasTraces, IsNextStep, IsShownRun, RunBeginsWith, new_trace, view_of}

-- one of the views tells of the pass of this number, as its own or as one still to be dealt
abbrev pub IsSomeSeats : (views : List TracedView) → (pass : ℕ) → Type 0
IsSomeSeats views pass = (place : ℕ) × (view : TracedView) × (get_elem? views place ≡ some view) × IsViewOf (view_of view) pass

-- What the view says is true of the core, and each trace in it is a beginning of the run, as `HasTraces` says. What it says of uncommitted
-- records is true where so many of each kind are.
abbrev pub IsTrueOf : (core : Core) → (run : List Event) → (uncommitted : ℕ → ℕ) → (view : TracedView) → Type 0
IsTrueOf core run uncommitted view = Knowing core (view_of view) × HasTraces run view × HasBounds uncommitted view

-- The rule of a table. A run of steps (`led`) leads from a new table to a lawful core of this layout, which the words show. Each
-- record that the run has taken is committed (`committed`). What each view says is true of the core, of the run and of how many records are
-- uncommitted (`knows`). No two views tell of one pass (`apart`), and some view tells of each pass of the layout (`each`).
pub record Ruled {S : Type 0} (layout : Layout) (state : State S TracedView) : Type 0 where
  pub core : Core
  pub lawful : IsLawful core
  pub layout_is : core.layout ≡ layout
  pub shows : Shows core state.words
  pub run : List Event
  pub led : EventsLead (opening layout) run core
  pub committed : (rec : Rec) → IsTaken layout run rec → IsCommitted layout (uncommitted_in state.words) rec
  pub knows : (place : ℕ) (view : TracedView) → get_elem? state.views place ≡ some view → IsTrueOf core run (uncommitted_in state.words) view
  pub apart : (place other_place pass : ℕ) (view other : TracedView) → get_elem? state.views place ≡ some view →
      get_elem? state.views other_place ≡ some other → IsViewOf (view_of view) pass →
      IsViewOf (view_of other) pass → place ≡ other_place
  pub each : (pass : ℕ) → pass < layout.passes → IsSomeSeats state.views pass

-- what a new pass of this number knows: nothing, and that its first step has the number 1
abbrev pub opening_of : ℕ → Known
opening_of pass = record {
  pass = pass;
  front = [];
  fresh = record { front = []; step = 0; pinned = 0 };
  notes = [];
  steps = 1;
  failed = [];
  facts = [];
  own = [];
  locks = [];
  anchor = None;
  values = [];
  pin = None;
  round = record { epoch = 0; version = 0; bound = 0; seen = [] };
}

-- The bulk load of these words into a table, as an act. The address of its slice of words is 0, since no contract speaks of it.
abbrev pub load_of : List ℕ → Act
load_of words = Load (record { ref_ptr = (0, 0); now = words })

-- What pass 0 knows of a table that was made of these words by a bulk load. It has seen the leaves of the loaded tree added. Its notes are
-- those of insertions of these leaves, in order.
abbrev pub loader_of : Layout → List ℕ → Known
loader_of layout words =
    record (learned (opening layout) (load_of words) (opening_of 0)) { notes = added_notes 0 (items_of (loaded_tree layout words)) }

-- The trace of pass 0 of a table that was made of these words: the bulk load alone. The words say how many records are uncommitted.
abbrev pub load_trace : List ℕ → Trace
load_trace words = record { events = record { pass = 0; act = load_of words } ∷ []; asides = 0; touches = 0; bounds = words }

-- The first view of a table. If `loads` is true, the words are those of loaded pairs, and the view is a founder's: pass 0, with the passes
-- to come. Else the words are those of a new table, and the view is a dealer's.
abbrev pub first_view : (layout : Layout) → (loads : Bool) → (words : List ℕ) → TracedView
first_view layout true words = Founder (loader_of layout words) (load_trace words) 1
first_view layout false words = Dealer 0 words

-- what the pass of a view knows; for a view of another kind, what a new pass 0 knows, so that there always is something
abbrev pub known_of : TracedView → Known
known_of (Pass known trace) = known
known_of _ = opening_of 0

-- the trace of the pass of a view; for a view of another kind, an empty one
abbrev pub trace_of : TracedView → Trace
trace_of (Pass known trace) = trace
trace_of _ = new_trace []

-- The seat has the view of the pass of this number alone, and nothing else is kept with it.
abbrev pub IsOfPass : {S : Type 0} → (me : Me S TracedView) → (pass : ℕ) → Type 0
IsOfPass me pass = (me ≡ (Pass (known_of me.0) (trace_of me.0), [])) × ((known_of me.0).pass ≡ pass)

-- the spot is the root, a value, or one of the slots that nodes have
abbrev pub HasEntrySlot : Spot → Type 0
HasEntrySlot Root = Unit {0}
HasEntrySlot (Value leaf) = Unit {0}
HasEntrySlot (Slot node slot) = slot < MAX_ENTRIES

-- a table of this layout has the spot
abbrev pub HasSpot : Layout → Spot → Type 0
HasSpot layout Root = Unit {0}
HasSpot layout (Value leaf) = leaf < layout.leaves
HasSpot layout (Slot node slot) = (node < layout.nodes) × (slot < MAX_ENTRIES)

-- a table of this layout has the location, and its word has the number `word`
abbrev pub IsAddressOf : (layout : Layout) → (location : Location) → (word : ℕ) → Type 0
IsAddressOf layout location word = (word ≡ address layout location) × IsInTable layout location

-- a table of this layout has the record, and its first word has the number `word`
abbrev pub IsStartOf : (layout : Layout) → (rec : Rec) → (word : ℕ) → Type 0
IsStartOf layout rec word = HasRecord layout rec × (word ≡ address layout (word_of rec 0))

-- the record's number among those of its kind
abbrev pub record_number : Rec → ℕ
record_number (a_node number) = number
record_number (a_leaf number) = number

-- `at` names a node record of a table of this layout, and the number of that record's first word
abbrev pub IsNodeRecordAt : Layout → RecordAt → Type 0
IsNodeRecordAt layout at = (at.rec ≡ a_node (record_number at.rec)) × IsStartOf layout (a_node (record_number at.rec)) at.start

-- `at` names a leaf record of a table of this layout, and the number of that record's first word
abbrev pub IsLeafRecordAt : Layout → RecordAt → Type 0
IsLeafRecordAt layout at = (at.rec ≡ a_leaf (record_number at.rec)) × IsStartOf layout (a_leaf (record_number at.rec)) at.start

-- Events

-- The act as one that finds this word. An act that finds no word, as a store, stays as it is, and so does a bulk load.
abbrev pub found_by : (act : Act) → (word : ℕ) → Act
found_by (Claim rec found) word = Claim rec word
found_by (LoadRef spot found) word = LoadRef spot word
found_by (LoadFixed rec offset found) word = LoadFixed rec offset word
found_by (Lock target found) word = Lock target word
found_by (LoadEpoch found) word = LoadEpoch word
found_by (Advance expected found) word = Advance expected word
found_by (LoadPin other found) word = LoadPin other word
found_by (LoadState rec found) word = LoadState rec word
found_by (GiveBack rec epoch found) word = GiveBack rec epoch word
found_by act word = act

-- A pass that knows `known` may make a step at a table of this layout. The step is legal in each lawful core of which `known` is true.
-- `act` gives the act by the word that it finds there.
abbrev pub MayStep : (layout : Layout) → (act : ℕ → Act) → (known : Known) → Type 0
MayStep layout act known =
    (core : Core) → IsLawful core → core.layout ≡ layout → Knows core known →
    Legal core known.pass (act (word_at core (location_of known.pass (act 0))))

-- From the view `old` to the view `new` a pass makes the act, with the notes `said`. The act is legal, the pass learns from it, and it is
-- the next step of the table's run. Its counts of asides and touches stay. Without a layout, or for a view of another kind, this says
-- nothing.
abbrev pub Happens : (layout : Option Layout) → (act : Act) → (said : Known → List Note) → (old new : TracedView) → Type 0
Happens (Some layout) act said (Pass before trace_before) view =
    (known : Known) × (trace : Trace) × (event : IsEvent layout act said before known) × (view ≡ Pass known trace) ×
    IsNextStep layout before.pass act event.core trace_before.events trace.events × (trace.asides ≡ trace_before.asides) ×
    (trace.touches ≡ trace_before.touches) × (trace.bounds ≡ trace_before.bounds)
Happens _ act said old view = Unit {0}

-- A pass's step, in the form in which a shared table asks for it. The act happens, as one that finds the word `told`. What else the seat
-- has stays.
abbrev pub did : {S : Type 0} → (layout : Option Layout) → (act : Act) → (said : Known → List Note) →
    (step : Step S) → (old : Me S TracedView) → (told : ℕ) → (new : Me S TracedView) → Type 0
did layout act said step old told new = (new.1 ≡ old.1) × Happens layout (found_by act told) said old.0 new.0

-- Touches

-- the view of a pass once it has touched one word more; a view of another kind stays
abbrev pub touched_once : TracedView → TracedView
touched_once (Pass known trace) = Pass known (record { events = trace.events; asides = trace.asides; touches = suc trace.touches; bounds = trace.bounds })
touched_once view = view

-- A touch of a word, in the form in which a shared table asks for it. Of the seat only the count of touches changes, and the word that was
-- found is told to nobody.
abbrev pub touching : {S : Type 0} → (step : Step S) → (old : Me S TracedView) → (told : ℕ) → (new : Me S TracedView) → Type 0
touching step old told new = (new.1 ≡ old.1) × (new.0 ≡ touched_once old.0)

-- Reserved and committed records

-- the view once its pass has found, or left, this number of records of the kind uncommitted
abbrev pub bounded : (kind count : ℕ) → TracedView → TracedView
bounded kind count (Pass known trace) =
    Pass known (record { events = trace.events; asides = trace.asides; touches = trace.touches; bounds = set trace.bounds (uncommitted_word kind) count })
bounded kind count view = view

-- It may be that `count` records of the kind are uncommitted: no more than the pass's bound, and no record that a step of its trace takes.
-- Without a layout, or for a view of another kind than a pass's, this says nothing.
abbrev pub MayBeUncommitted : (layout : Option Layout) → (kind count : ℕ) → TracedView → Type 0
MayBeUncommitted (Some layout) kind count (Pass known trace) =
    (count ≤ uncommitted_in trace.bounds kind) × TakenAreCommitted layout trace.events kind count
MayBeUncommitted _ kind count view = Unit {0}

-- A load of the word that says how many records of a kind are uncommitted, in the form in which a shared table asks for it.
abbrev pub bounding : {S : Type 0} → (layout : Option Layout) → (kind : ℕ) →
    (step : Step S) → (old : Me S TracedView) → (told : ℕ) → (new : Me S TracedView) → Type 0
bounding layout kind step old told new = (new.1 ≡ old.1) × (new.0 ≡ bounded kind told old.0) × MayBeUncommitted layout kind told old.0

-- An exchange of that word, `expected` for `count`, in the form in which a shared table asks for it.
abbrev pub committing : {S : Type 0} → (layout : Option Layout) → (kind expected count : ℕ) →
    (step : Step S) → (old : Me S TracedView) → (told : ℕ) → (new : Me S TracedView) → Type 0
committing layout kind expected count step old told new =
    (new.1 ≡ old.1) × (new.0 ≡ bounded kind (exchanged told expected count) old.0) × MayBeUncommitted layout kind told old.0

-- Seats dealt, and two that meet

-- The view of a dealer once it has dealt one more seat. A founder deals its own pass first, and is a dealer then.
abbrev pub next_dealer : TracedView → TracedView
next_dealer (Dealer next bounds) = Dealer (next + 1) bounds
next_dealer (Founder known trace next) = Dealer next trace.bounds
next_dealer view = view

-- The view of the seat that a dealer deals next: a new pass, or a founder's own. It is `Spent` where the view is no dealer's.
abbrev pub dealt : TracedView → TracedView
dealt (Dealer next bounds) = Pass (opening_of next) (new_trace bounds)
dealt (Founder known trace next) = Pass known trace
dealt _ = Spent

-- The rule holds of a table that was just made of these words, with its first view alone.
abbrev pub IsRuledAtFirst : (layout : Layout) → (loads : Bool) → (words : List ℕ) → Type 0
IsRuledAtFirst layout loads words = Ruled {S = Unit {0}} layout (first_state words [] (first_view layout loads words))

-- the bounds of a dealer's or a founder's view; for a view of another kind, none
abbrev pub bounds_of : TracedView → List ℕ
bounds_of (Dealer next bounds) = bounds
bounds_of (Founder known trace next) = trace.bounds
bounds_of _ = []

-- the dealer's view once the first `count` passes have been dealt, in the order of their numbers; `first` is the table's first view
abbrev pub dealer_at : (first : TracedView) → (count : ℕ) → TracedView
dealer_at first zero = first
dealer_at first (suc pass) = Dealer (suc pass) (bounds_of first)

-- the view of the pass of this number right after it is dealt; `first` is the table's first view, which may have loaded the pairs as pass 0
abbrev pub dealt_at : (first : TracedView) → (pass : ℕ) → TracedView
dealt_at first zero = dealt first
dealt_at first (suc pass) = Pass (opening_of (suc pass)) (new_trace (bounds_of first))

-- the views of two passes, as one view of a pair; `Spent` if one is no pass's
abbrev pub paired : (first second : TracedView) → TracedView
paired (Pass known trace) (Pass other other_trace) = Pair known trace other other_trace
paired first second = Spent

-- the view of the first pass of a pair; a view of another kind stays
abbrev pub first_of_two : TracedView → TracedView
first_of_two (Pair known trace other other_trace) = Pass known trace
first_of_two view = view

-- the view of the second pass of a pair; `Spent` for a view of another kind
abbrev pub second_of_two : TracedView → TracedView
second_of_two (Pair known trace other other_trace) = Pass other other_trace
second_of_two view = Spent

-- what a pass knows, with these changes as those that it has seen
abbrev pub with_front : List Change → Known → Known
with_front front known = record known { front = front }

-- Two passes of different numbers have met. Both have now seen one list of legal changes, each by a pass of the table. The list begins with
-- the changes that each had seen before, and goes on by changes of others. Nothing else of what they know has changed.
abbrev pub SeatsHaveMet : (layout : Layout) → (first_before second_before first_after second_after : Known) → Type 0
SeatsHaveMet layout first_before second_before first_after second_after =
    (front : List Change) × (first_after ≡ with_front front first_before) × (second_after ≡ with_front front second_before) × LegalFront front ×
    OthersGoOn first_before.pass first_before.front front × OthersGoOn second_before.pass second_before.front front ×
    (first_before.pass ≢ second_before.pass) × All (λ change. change.pass < layout.passes) front

-- A pass has been shown a run and the changes that it has seen now, as `IsShownRun` says. That counts as one aside, and as no touch.
abbrev pub HasBeenShown : (layout : Layout) → (before : Known) → (trace_before : Trace) → (after : Known) → (trace_after : Trace) → Type 0
HasBeenShown layout before trace_before after trace_after =
    IsShownRun layout before.pass trace_before.events trace_after.events after.front × (trace_after.asides ≡ suc trace_before.asides) ×
    (trace_after.touches ≡ trace_before.touches) × (trace_after.bounds ≡ trace_before.bounds)

-- `old` and `new` are the views of a pair of passes before and after they meet. Afterwards both know the same changes and the same steps,
-- and each has been shown them (`HasBeenShown`). Without a layout, or for a view of another kind, this says nothing.
abbrev pub Meeting : (layout : Option Layout) → (old new : TracedView) → Type 0
Meeting (Some layout) (Pair one one_trace other other_trace) view =
    (one_after : Known) × (one_trace_after : Trace) × (other_after : Known) × (other_trace_after : Trace) ×
    (view ≡ Pair one_after one_trace_after other_after other_trace_after) × SeatsHaveMet layout one other one_after other_after ×
    (one_trace_after.events ≡ other_trace_after.events) × HasBeenShown layout one one_trace one_after one_trace_after ×
    HasBeenShown layout other other_trace other_after other_trace_after
Meeting _ _ view = Unit {0}

-- A meeting of two passes, in the form in which a shared table asks for it. What else the seat has stays.
abbrev pub met : {S : Type 0} → (layout : Option Layout) → (step : Step S) → (old : Me S TracedView) → (told : ℕ) → (new : Me S TracedView) → Type 0
met layout step old told new = (new.1 ≡ old.1) × Meeting layout old.0 new.0

-- Stamps, and passes that follow them

-- the changes that a stamp tells of; of a view of another kind, none
abbrev pub witnessed : TracedView → List Change
witnessed (Witness front events) = front
witnessed view = []

-- the steps that a stamp tells of; of a view of another kind, none
abbrev pub witnessed_steps : TracedView → List Event
witnessed_steps (Witness front events) = events
witnessed_steps view = []

-- The seat has the view of a stamp, and holds nothing else.
abbrev pub IsOfStamp : {S : Type 0} → Me S TracedView → Type 0
IsOfStamp me = me ≡ (Witness (witnessed me.0) (witnessed_steps me.0), [])

-- the view of the stamp that the pass of this view makes: its changes and its steps; `Spent` for a view of another kind
abbrev pub stamped : TracedView → TracedView
stamped (Pass known trace) = Witness known.front trace.events
stamped view = Spent

-- the view of a pass once it has made a stamp, with one aside more; a view of another kind stays
abbrev pub stamping : TracedView → TracedView
stamping (Pass known trace) = Pass known (record { events = trace.events; asides = suc trace.asides; touches = trace.touches; bounds = trace.bounds })
stamping view = view

-- the view of a pass and that of a stamp that it follows, as one view; `Spent` if they are of other kinds
abbrev pub following : (pass stamp : TracedView) → TracedView
following (Pass known trace) (Witness front events) = Follower known trace front events
following pass stamp = Spent

-- A pass has followed a stamp, whose changes are `stamp`. It has now seen a list of legal changes, each by a pass of the table. The list
-- begins with the stamp's changes. It also begins with those that the pass had seen, and goes on by changes of others. Nothing else that
-- the pass knows has changed.
abbrev pub HasFollowed : (layout : Layout) → (stamp : List Change) → (before after : Known) → Type 0
HasFollowed layout stamp before after =
    (front : List Change) × (after ≡ with_front front before) × LegalFront front × OthersGoOn before.pass before.front front × BeginsWith front stamp ×
    All (λ change. change.pass < layout.passes) front

-- A pass follows a stamp, as `old` says. It then knows the stamp's changes, and has been shown a run that begins with the stamp's steps.
-- Without a layout, or for a view of another kind, this says nothing.
abbrev pub Following : (layout : Option Layout) → (old new : TracedView) → Type 0
Following (Some layout) (Follower before trace_before stamp events) view =
    (known : Known) × (trace : Trace) × (view ≡ Pass known trace) × HasFollowed layout stamp before known ×
    HasBeenShown layout before trace_before known trace ×
    RunBeginsWith trace.events events
Following _ _ view = Unit {0}

-- A pass's following of a stamp, in the form in which a shared table asks for it. What else the seat has stays.
abbrev pub followed : {S : Type 0} → (layout : Option Layout) → (step : Step S) →
    (old : Me S TracedView) → (told : ℕ) → (new : Me S TracedView) → Type 0
followed layout step old told new = (new.1 ≡ old.1) × Following layout old.0 new.0
