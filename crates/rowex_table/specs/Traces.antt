-- Runs of a table are the atomic steps of all passes, one after the other. Traces of seats are what passes know of these steps.
use Rattle.std.specs.Prelude.{◌≡◌, ◌≢◌, ℕ, ◌<◌, ◌++◌, All, List, [], ◌∷◌, if◌then◌else◌, nat_eq}
use Rattle.finite_map.specs.declared.Change.{Change}
use Rattle.record_words.specs.declared.layout.Layout.{Layout}
use Rattle.rowex_core.specs.declared.event.Act.{Act}
use Rattle.rowex_core.specs.declared.event.Event.{Event}
use Rattle.rowex_core.specs.declared.known.Known.{Known}
use Rattle.rowex_core.specs.declared.known.View.{View}
use Rattle.rowex_core.specs.declared.known.View.TheVariants.{Spent as a_spent, Dealer as a_dealer, Founder as a_founder, Pass as a_pass, Pair as a_pair, Witness as a_witness, Follower as a_follower}
use Rattle.rowex_core.specs.Cores.{Core}
use Rattle.rowex_core.specs.Events.{after}
use Rattle.rowex_core.specs.Knowing.{learned}
use Rattle.rowex_core.specs.Opening.{opening}
use Rattle.rowex_core.specs.Runs.{EventsLead}
use Rattle.rowex_table.specs.declared.traces.Trace.{Trace}
use Rattle.record_words.specs.Layout.{uncommitted_in}
use Rattle.rowex_table.specs.Committed.{AtMost}
use Rattle.rowex_table.specs.declared.traces.TracedView.{TracedView}
use Rattle.rowex_table.specs.declared.traces.TracedView.TheVariants.{Spent, Dealer, Founder, Pass, Pair, Witness, Follower}

-- Lists of steps

-- the later list of steps begins with the earlier one
abbrev pub RunBeginsWith : (later earlier : List Event) → Type 0
RunBeginsWith later earlier = (more : List Event) × (later ≡ earlier ++ more)

-- the later list of steps is the earlier one with further steps behind it, none of which the pass has made
abbrev pub OthersStepOn : (pass : ℕ) → (earlier later : List Event) → Type 0
OthersStepOn pass earlier later = (more : List Event) × (later ≡ earlier ++ more) × All (λ event. event.pass ≢ pass) more

-- the steps are legal one after the other, from a new table with this layout on
abbrev pub IsTableRun : Layout → List Event → Type 0
IsTableRun layout run = (core : Core) × EventsLead (opening layout) run core

-- the acts of the pass among these steps of all passes, in their order
abbrev pub own_acts : (pass : ℕ) → (steps : List Event) → List Act
own_acts pass [] = []
own_acts pass (event ∷ events) = if nat_eq event.pass pass then event.act ∷ own_acts pass events else own_acts pass events

-- What the pass knows after these steps of all passes, if it knew `known` in the core before them. Its own steps teach it as in the core at
-- which each is made. Others' steps teach it nothing.
abbrev pub taught : (pass : ℕ) → (core : Core) → (steps : List Event) → (known : Known) → Known
taught pass core [] known = known
taught pass core (event ∷ events) known =
    taught pass (after core event.pass event.act) events (if nat_eq event.pass pass then learned core event.act known else known)

-- Traces

-- the trace of a pass that has made no step, and knows these bounds
abbrev pub new_trace : (bounds : List ℕ) → Trace
new_trace bounds = record { events = []; asides = 0; touches = 0; bounds = bounds }

-- the view without its traces
abbrev pub view_of : TracedView → View
view_of Spent = a_spent
view_of (Dealer next bounds) = a_dealer next
view_of (Founder known trace next) = a_founder known next
view_of (Pass known trace) = a_pass known
view_of (Pair known trace other other_trace) = a_pair known other
view_of (Witness front events) = a_witness front
view_of (Follower known trace front events) = a_follower known front

-- The run begins with each trace of the view. Behind a pass's own trace it has steps of other passes alone. Behind a witness's it may have
-- any. A pass that is still to be dealt has made no step in the run.
abbrev pub HasTraces : List Event → TracedView → Type 0
HasTraces run Spent = Unit {0}
HasTraces run (Dealer next bounds) = All (λ event. event.pass < next) run
HasTraces run (Founder known trace next) = OthersStepOn known.pass trace.events run × All (λ event. event.pass < next) run
HasTraces run (Pass known trace) = OthersStepOn known.pass trace.events run
HasTraces run (Pair known trace other other_trace) = OthersStepOn known.pass trace.events run × OthersStepOn other.pass other_trace.events run
HasTraces run (Witness front events) = RunBeginsWith run events
HasTraces run (Follower known trace front events) = OthersStepOn known.pass trace.events run × RunBeginsWith run events

-- What the view says of uncommitted records is true where so many of each kind are: no more are than its bounds say.
abbrev pub HasBounds : (uncommitted : ℕ → ℕ) → TracedView → Type 0
HasBounds uncommitted Spent = Unit {0}
HasBounds uncommitted (Dealer next bounds) = AtMost uncommitted (uncommitted_in bounds)
HasBounds uncommitted (Founder known trace next) = AtMost uncommitted (uncommitted_in trace.bounds)
HasBounds uncommitted (Pass known trace) = AtMost uncommitted (uncommitted_in trace.bounds)
HasBounds uncommitted (Pair known trace other other_trace) = AtMost uncommitted (uncommitted_in trace.bounds) × AtMost uncommitted (uncommitted_in other_trace.bounds)
HasBounds uncommitted (Witness front events) = Unit {0}
HasBounds uncommitted (Follower known trace front events) = AtMost uncommitted (uncommitted_in trace.bounds)

-- The pass, which knew the steps `trace`, makes this step in this core, and knows the steps `next`. The steps `before` are the table's run,
-- which leads from a new table to the core. They begin with `trace` and go on by steps of others. `next` is `before` with the pass's own
-- step behind them.
pub record IsNextStep (layout : Layout) (pass : ℕ) (act : Act) (core : Core) (trace next : List Event) : Type 0 where
  pub before : List Event
  pub led : EventsLead (opening layout) before core
  pub others : OthersStepOn pass trace before
  pub next_is : next ≡ before ++ record { pass = pass; act = act } ∷ []

-- The pass, which knew the steps `trace`, is shown the steps `run` and the changes `front`. The run is the table's: it leads from a new
-- table to a core with just these changes. It begins with `trace` and goes on by steps of others.
pub record IsShownRun (layout : Layout) (pass : ℕ) (trace run : List Event) (front : List Change) : Type 0 where
  pub core : Core
  pub led : EventsLead (opening layout) run core
  pub changes : core.changes ≡ front
  pub others : OthersStepOn pass trace run
