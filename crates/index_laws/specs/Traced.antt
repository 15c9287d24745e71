-- Executions as contracts tell of them: each pass's seat at each time, and the run of the table. No core is named. The steps are linked by
-- the traces of the seats.
use Rattle.std.specs.Prelude.{◌≡◌, ◌≢◌, ◌⊎◌, ℕ, suc, ◌<◌, ◌≤◌, List, [], ◌∷◌, ◌++◌, Option, None, Some}
use Rattle.finite_map.specs.declared.Call.{Call}
use Rattle.finite_map.specs.declared.Call.TheVariants.{Get}
use Rattle.finite_map.specs.declared.Change.{Change}
use Rattle.finite_map.specs.declared.Note.{Note}
use Rattle.finite_map.specs.declared.Reply.{Reply}
use Rattle.finite_map.specs.declared.Reply.TheVariants.{Absent}
use Rattle.finite_map.specs.Calls.{place_after}
use Rattle.finite_map.specs.Fronts.{BeginsWith}
use Rattle.record_words.specs.declared.layout.Layout.{Layout}
use Rattle.rowex_core.specs.declared.event.Act.{Act}
use Rattle.rowex_core.specs.declared.event.Act.TheVariants.{LoadRef}
use Rattle.rowex_core.specs.declared.event.Event.{Event}
use Rattle.rowex_core.specs.declared.event.Spot.TheVariants.{Root}
use Rattle.rowex_core.specs.declared.known.Known.{Known}
use Rattle.rowex_core.specs.Cores.{Core}
use Rattle.rowex_core.specs.Events.{after}
use Rattle.rowex_core.specs.Knowing.{IsEvent, learned}
use Rattle.rowex_core.specs.Opening.{opening}
use Rattle.rowex_table.specs.Rule.{with_front}
use Rattle.rowex_table.specs.Runs.{Ends, SeesAllOfRun, root_load}
use Rattle.rowex_table.specs.Seats.{IsNewSeatOf, MakesNoAside, IsShownAll, SeatView, TableView}
use Rattle.rowex_table.specs.Traces.{IsNextStep, RunBeginsWith}
use Rattle.hot_index_calls.specs.Answers.{IsNoted}
use Rattle.hot_index_calls.specs.Passes.{pass_of}
use Rattle.hot_index_calls.specs.Traces.{untold}
use Rattle.linearizability.specs.Histories.{complete_calls}
use Rattle.linearizability.specs.Configurations.{Happening, Configuration, Pending, invokes, refuses, responds, shows, steps}
use Rattle.index_laws.specs.Executions.{HasBeenRefused, HasReturned, IsExecution}

-- The index at one time, as contracts see it: the steps so far, each pass's seat, and its pending call, if there is one.
pub record Instant : Type 0 where
  pub run : List Event
  pub seat : ℕ → SeatView
  pub pending : ℕ → Option Pending

-- From the seat `old` to the seat `new` its pass makes this act, and makes no stamp, follows none and meets no other pass. The act is legal
-- in a lawful core of which the pass's knowledge is true, and teaches the pass what it teaches there (`event`). `said` gives the notes that
-- come with it. Behind the steps that the seat knew come steps of others alone, and then the act (`next`). Contracts of steps say so
-- (`StepsWith`), and that of a bulk load (`IsLoaderSeat`), whose act isn't atomic.
pub record MakesEvent (table : TableView) (act : Act) (said : Known → List Note) (old new : SeatView) : Type 0 where
  pub seat : MakesNoAside old new
  pub event : IsEvent table.layout act said old.known new.known
  pub next : IsNextStep table.layout old.known.pass act event.core old.trace new.trace

-- The pass of this number, which has a call pending, makes a step with these notes, as the contract of a step says. The step comes behind
-- all steps so far (`behind`). No contract gives this: that the steps of all passes have one order is a premise. The seats of other passes
-- and all pending calls stay.
pub record IsSeatStep (table : TableView) (old new : Instant) (number : ℕ) (act : Act) (notes : List Note) : Type 0 where
  pub said : Known → List Note
  pub step : MakesEvent table act said (old.seat number) (new.seat number)
  pub pass : (old.seat number).known.pass ≡ number
  pub notes_are : notes ≡ said (learned step.event.core act (old.seat number).known)
  pub behind : step.next.before ≡ old.run
  pub run : new.run ≡ old.run ++ record { pass = number; act = act } ∷ []
  pub others : (other : ℕ) → other ≢ number → new.seat other ≡ old.seat other
  pub call : Pending
  pub called : old.pending number ≡ Some call
  pub pending : new.pending ≡ old.pending

-- A pass is shown steps, with which the run begins, and the changes that these made. Its front is then `front`, which begins with its old
-- front. All else that it knows stays. A pass that follows a stamp is shown steps (`HasCaughtUp`), and one that meets another
-- (`IsShownAll`, `HasSeenMore`).
pub record IsShownSteps (layout : Layout) (run : List Event) (old new : SeatView) (front : List Change) : Type 0 where
  pub shown : IsShownAll layout old new
  pub known : new.known ≡ with_front front old.known
  pub more : BeginsWith front old.known.front
  pub begins : RunBeginsWith run new.trace

-- The pass of this number, one of the table's, makes a stamp of its own front, which is `front` (`HasStamped`). What the pass knows and its
-- trace stay as they were.
pub record IsShownItself (layout : Layout) (number : ℕ) (old new : SeatView) (front : List Change) : Type 0 where
  pub pass : number < layout.passes
  pub known : new.known ≡ old.known
  pub trace : new.trace ≡ old.trace
  pub front_is : front ≡ old.known.front

-- The pass follows a stamp, meets another pass, or makes a stamp. `front` are the changes that it has seen once it has done so. The run,
-- the seats of other passes, and all pending calls stay.
pub record IsSeatShowing (table : TableView) (old new : Instant) (pass : ℕ) (front : List Change) : Type 0 where
  pub seat : IsShownSteps table.layout old.run (old.seat pass) (new.seat pass) front ⊎
      IsShownItself table.layout pass (old.seat pass) (new.seat pass) front
  pub run : new.run ≡ old.run
  pub others : (other : ℕ) → other ≢ pass → new.seat other ≡ old.seat other
  pub pending : new.pending ≡ old.pending

-- The pending call of the pass of this number, one of the index's, becomes `call`, which may be none. The run, all seats, and the pending
-- calls of other passes stay.
pub record IsSeatTurn (layout : Layout) (old new : Instant) (number : ℕ) (call : Option Pending) : Type 0 where
  pub pass : number < layout.passes
  pub run : new.run ≡ old.run
  pub seats : new.seat ≡ old.seat
  pub own : new.pending number ≡ call
  pub others : (other : ℕ) → other ≢ number → new.pending other ≡ old.pending other

-- the core to which the steps of the run lead from the core `core`, whether or not they are legal
abbrev pub core_led_to : (core : Core) (run : List Event) → Core
core_led_to core [] = core
core_led_to core (step ∷ run) = core_led_to (after core step.pass step.act) run

-- the configuration at an instant; its core is that to which the steps so far lead from a new table
abbrev pub configuration_of : (layout : Layout) (instant : Instant) → Configuration
configuration_of layout instant =
    record { core = core_led_to (opening layout) instant.run; known = λ pass. (instant.seat pass).known; pending = instant.pending }

-- What happens at this time leads to the next instant, as contracts say: those of steps, of stamps and meetings, and of calls that end. A
-- pass invokes a call only while it has none pending, and a call that has ended is no longer pending.
abbrev pub ContractsLeadOn : (table : TableView) (at : ℕ → Instant) (time : ℕ) (happening : Happening) → Type 0
ContractsLeadOn table at time (steps pass act notes) = IsSeatStep table (at time) (at (suc time)) pass act notes
ContractsLeadOn table at time (shows pass front) = IsSeatShowing table (at time) (at (suc time)) pass front
ContractsLeadOn table at time (invokes pass calls) =
    ((at time).pending pass ≡ None) × IsSeatTurn table.layout (at time) (at (suc time)) pass (Some (record { since = time; calls = calls }))
ContractsLeadOn table at time (responds pass notes) =
    (call : Pending) × HasReturned table.layout (λ when. configuration_of table.layout (at when)) pass time call notes ×
    IsSeatTurn table.layout (at time) (at (suc time)) pass None
ContractsLeadOn table at time (refuses pass) =
    (call : Pending) × HasBeenRefused table.layout (λ when. configuration_of table.layout (at when)) pass time call ×
    IsSeatTurn table.layout (at time) (at (suc time)) pass None

-- An execution by contracts alone, which name no core. At time 0 all seats are new, no step has been made, and no call is pending. What
-- happens at each time before `last` leads to the next instant.
pub record IsTracedExecution (table : TableView) (last : ℕ) (at : ℕ → Instant) (happens : ℕ → Happening) : Type 0 where
  pub run : (at 0).run ≡ []
  pub seats : (pass : ℕ) → IsNewSeatOf table pass ((at 0).seat pass)
  pub pending : (pass : ℕ) → (at 0).pending pass ≡ None
  pub next : (time : ℕ) → time < last → ContractsLeadOn table at time (happens time)

-- Each execution by contracts alone is an execution. Its core at each time is the one to which the steps made by then lead.
abbrev pub TracedAreExecutions : Type 0
TracedAreExecutions =
    (table : TableView) (last : ℕ) (at : ℕ → Instant) (happens : ℕ → Happening) → IsTracedExecution table last at happens →
    IsExecution table.layout last (λ time. configuration_of table.layout (at time)) happens

-- For each table with a pass, and each key, there is an execution by contracts alone in which one call of the map is answered. It is a get
-- of the key, which responds at time 5 that the key is absent. Before time 6 there are its invocation, the four steps of a get in an empty
-- index, and its response. So the premises of laws on such executions can be met.
abbrev pub AGetIsTraced : Type 0
AGetIsTraced =
    (table : TableView) → 0 < table.layout.passes → (key : List ℕ) → (at : ℕ → Instant) × (happens : ℕ → Happening) ×
    IsTracedExecution table 6 at happens × (complete_calls happens 6 ≡ (5, record { place = 0; call = Get key; reply = Absent }) ∷ [])

-- In an execution by contracts alone, let a pass have loaded the root from the time `since` to the time `until`, as `SeesAllOfRun` says. At
-- some time between them its step is this load, right behind just the steps that `SeesAllOfRun` names. The load showed the pass all changes
-- that any pass had seen by then.
abbrev pub LoadsAreMoments : Type 0
LoadsAreMoments =
    (table : TableView) (last : ℕ) (at : ℕ → Instant) (happens : ℕ → Happening) → IsTracedExecution table last at happens →
    (pass since until : ℕ) → pass < table.layout.passes → since ≤ until → until ≤ last →
    (loads : SeesAllOfRun table.layout ((at since).seat pass) ((at until).seat pass)) →
    (time : ℕ) × (notes : List Note) × (since ≤ time) × (time < until) × (happens time ≡ steps pass (LoadRef Root loads.root) notes) ×
    ((at time).run ≡ loads.run) ×
    ((other : ℕ) → other < table.layout.passes → BeginsWith ((at until).seat pass).known.fresh.front ((at time).seat other).known.front)

-- the run begins with the steps `before` and, right behind them, a load of the root by the pass, whatever word the load finds
abbrev pub LoadsRootBehind : (pass : ℕ) (run before : List Event) → Type 0
LoadsRootBehind pass run before = (root : ℕ) × RunBeginsWith run (before ++ root_load pass root ∷ [])

-- Let a pass make the steps of a call, from the seat `start` to the seat `end`. Let a later call of any pass load the root, and go from the
-- seat `later_start` to the seat `later_end`. In the later call's trace let its pass's load of the root stand behind all steps of the trace
-- of `end`. The later call was shown all changes that the first pass had seen.
abbrev pub LoadsSeeAll : Type 0
LoadsSeeAll =
    (index : TableView) (start end : SeatView) (acts : List Act) (last : Act) (said : Known → List Note) →
    Ends index untold acts last said (start, tt) (end, tt) → (later_start later_end : SeatView) → SeesAllOfRun index.layout later_start later_end →
    (before : List Event) → LoadsRootBehind later_start.known.pass later_end.trace before → RunBeginsWith before end.trace →
    BeginsWith later_end.known.fresh.front end.known.front

-- Let a call with one key be answered, with its last step at the seat `end`. Let a later call with one key be answered. In the later call's
-- trace let its pass's load of the root stand behind all steps of the trace of `end`. The later call's place is no lower than the first
-- call's, and behind the first call's change. A caller knows by a stamp or a meeting that the later trace goes on from the first call's.
abbrev pub EndedBeforeLoaded : Type 0
EndedBeforeLoaded =
    (index : TableView) (start end : SeatView) (call : Call) (reply : Reply) (first : IsNoted index.layout (pass_of start) (pass_of end) call reply) →
    (acts : List Act) (last : Act) (said : Known → List Note) → Ends index untold acts last said (start, tt) (end, tt) →
    (later_start later_end : SeatView) (later : Call) (answer : Reply) (second : IsNoted index.layout (pass_of later_start) (pass_of later_end) later answer) →
    SeesAllOfRun index.layout later_start later_end → (before : List Event) → LoadsRootBehind later_start.known.pass later_end.trace before →
    RunBeginsWith before end.trace →
    place_after (record { place = first.place; call = call; reply = reply }) ≤ second.place

-- Let two calls with one key each be answered. Let one run begin with the traces of both, as of passes that have met since. One of two is
-- so. Either the later call's place is no lower than the first call's, and behind the first call's change. Or the trace of the first pass,
-- at the end of its call, has the later call's load of the root.
abbrev pub EndedOrLoadedBefore : Type 0
EndedOrLoadedBefore =
    (index : TableView) (start end : SeatView) (call : Call) (reply : Reply) (first : IsNoted index.layout (pass_of start) (pass_of end) call reply) →
    (acts : List Act) (last : Act) (said : Known → List Note) → Ends index untold acts last said (start, tt) (end, tt) →
    (later_start later_end : SeatView) (later : Call) (answer : Reply) (second : IsNoted index.layout (pass_of later_start) (pass_of later_end) later answer) →
    SeesAllOfRun index.layout later_start later_end → (run before : List Event) → RunBeginsWith run end.trace → RunBeginsWith run later_end.trace →
    LoadsRootBehind later_start.known.pass later_end.trace before →
    (place_after (record { place = first.place; call = call; reply = reply }) ≤ second.place) ⊎
    LoadsRootBehind later_start.known.pass end.trace before

-- Let two calls with one key each be answered. Let one run begin with the first call's trace, and also with the steps before the later
-- call's load of the root. One of two is so. Either the later call's place is no lower than the first call's, and behind the first call's
-- change. Or the trace of the first pass, at the end of its call, begins with all steps before that load.
abbrev pub EndedOrShownBefore : Type 0
EndedOrShownBefore =
    (index : TableView) (start end : SeatView) (call : Call) (reply : Reply) (first : IsNoted index.layout (pass_of start) (pass_of end) call reply) →
    (acts : List Act) (last : Act) (said : Known → List Note) → Ends index untold acts last said (start, tt) (end, tt) →
    (later_start later_end : SeatView) (later : Call) (answer : Reply) (second : IsNoted index.layout (pass_of later_start) (pass_of later_end) later answer) →
    (loads : SeesAllOfRun index.layout later_start later_end) (run : List Event) → RunBeginsWith run end.trace → RunBeginsWith run loads.run →
    (place_after (record { place = first.place; call = call; reply = reply }) ≤ second.place) ⊎ RunBeginsWith end.trace loads.run

-- Let two passes meet, as the clauses `shown` and `traces` of a meeting say. Take beginnings `one` and `other` of their traces before the
-- meeting, as of what each knew at an earlier time. One of the two lists begins with the other.
abbrev pub MetAreOfOneRun : Type 0
MetAreOfOneRun =
    (layout : Layout) (one_before other_before one_after other_after : SeatView) → IsShownAll layout one_before one_after →
    IsShownAll layout other_before other_after → one_after.trace ≡ other_after.trace →
    (one other : List Event) → RunBeginsWith one_before.trace one → RunBeginsWith other_before.trace other → RunBeginsWith other one ⊎
    RunBeginsWith one other

-- A call makes no stamp, follows none and meets no other pass: the count of these is the same after it. That holds of each call whose steps
-- and notes `Ends` gives.
abbrev pub CallsMakeNoAsides : Type 0
CallsMakeNoAsides =
    (index : TableView) (acts : List Act) (last : Act) (said : Known → List Note) (old new : SeatView) →
    Ends index untold acts last said (old, tt) (new, tt) →
    new.asides ≡ old.asides
