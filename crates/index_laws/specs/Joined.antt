-- Passes whose traces have ended in one run of the table. What each has done, as the contracts of its calls say, and the execution that
-- all make together.
use Rattle.std.specs.Prelude.{◌≡◌, ℕ, zero, suc, ◌<◌, ◌≤◌, ◌^◌, List, [], ◌∷◌, ◌++◌, None, if◌then◌else◌, map, nat_eq}
use Rattle.finite_map.specs.declared.Call.{Call}
use Rattle.finite_map.specs.declared.Call.TheVariants.{Get, Insert}
use Rattle.finite_map.specs.declared.Note.{Note}
use Rattle.finite_map.specs.declared.Reply.{Reply}
use Rattle.finite_map.specs.declared.Reply.TheVariants.{Inserted, Value}
use Rattle.finite_map.specs.Calls.{LegalCalls}
use Rattle.finite_map.specs.Fronts.{BeginsWith}
use Rattle.record_words.specs.declared.layout.Layout.{Layout}
use Rattle.rowex_core.specs.declared.event.Act.{Act}
use Rattle.rowex_core.specs.declared.event.Event.{Event}
use Rattle.rowex_core.specs.declared.known.Known.{Known}
use Rattle.rowex_core.specs.Events.{IsLoad}
use Rattle.rowex_core.specs.Knowing.{learned}
use Rattle.rowex_table.specs.Rule.{load_of, load_trace, with_front}
use Rattle.rowex_table.specs.Runs.{Ends, Runs, silent}
use Rattle.rowex_table.specs.Seats.{IsLoaderSeat, IsNewSeatOf, IsShownAll, SeatView, TableView}
use Rattle.rowex_table.specs.Traces.{IsTableRun, OthersStepOn, RunBeginsWith}
use Rattle.rowex_writing.specs.declared.attempts.TryFault.{TryFault}
use Rattle.hot_index_calls.specs.Answers.{IsNoted, IsRefusedFor, MayRefuse}
use Rattle.hot_index_calls.specs.Many.{AreNoted}
use Rattle.hot_index_calls.specs.Passes.{pass_of}
use Rattle.hot_index_calls.specs.Traces.{untold}
use Rattle.hot_index.specs.Handles.{HandleView, Stays}
use Rattle.hot_index.specs.Stamps.{HasCaughtUp, HasStamped}
use Rattle.linearizability.specs.Configurations.{Happening, invokes, refuses, responds, shows, steps}
use Rattle.linearizability.specs.Statements.{IsLinearizable}
use Rattle.index_laws.specs.Executions.{HasBulkLoaded, insertion_notes, insertions}
use Rattle.index_laws.specs.Traced.{Instant, IsTracedExecution, configuration_of}

-- What one pass has done

-- How a call of the pass ended that asked the map for `calls`. The happening of the type is that end. The pass had the seat `start` when
-- the call began, and has `end` now. `answered`: the call asked one call, whose note is the response. `looked_up`: it asked look-ups, each
-- of which has a note. `quiet`: it asked nothing and added no note, and the pass's notes are legal. `loaded`: it was the bulk load that
-- made the table. `refused`: it asked one call, and was refused with a fault that this call may have.
pub data HasEndedAs (layout : Layout) (pass : ℕ) (calls : List Call) (start end : SeatView) : Happening → Type 0 where
  answered : (asked : Call) (reply : Reply) → calls ≡ asked ∷ [] → (noted : IsNoted layout (pass_of start) (pass_of end) asked reply) →
      HasEndedAs layout pass calls start end (responds pass (record { place = noted.place; call = asked; reply = reply } ∷ []))
  looked_up : (asked : List (Call × Reply)) → map (λ pair. pair.0) asked ≡ calls → (noted : AreNoted layout (pass_of start) (pass_of end) asked) →
      HasEndedAs layout pass calls start end (responds pass noted.added)
  quiet : calls ≡ [] → end.known.notes ≡ start.known.notes → LegalCalls end.known.front end.known.pass end.known.notes →
      HasEndedAs layout pass calls start end (responds pass [])
  loaded : {notes : List Note} → HasBulkLoaded layout calls start.known end.known notes → HasEndedAs layout pass calls start end (responds pass notes)
  refused : (asked : Call) (fault : TryFault) → calls ≡ asked ∷ [] →
      IsRefusedFor layout asked (pass_of start) (pass_of end) fault → MayRefuse asked fault → HasEndedAs layout pass calls start end (refuses pass)

-- these acts of the pass as happenings: each is a step with no notes
abbrev pub steps_of : (pass : ℕ) (acts : List Act) → List Happening
steps_of pass acts = map (λ act. steps pass act []) acts

-- The notes that come with the last step of a call, whose steps `Ends` gives. They are what `said` gives for what the pass knows by this
-- step.
abbrev pub notes_of_end : (table : TableView) (acts : List Act) (last : Act) (said : Known → List Note) (start end : SeatView) →
    Ends table untold acts last said (start, tt) (end, tt) → List Note
notes_of_end table acts last said start end ends = said (learned ends.2.event.core last ends.0.0.known)

-- A whole call of the pass as happenings. It is invoked for `calls`, makes the steps `acts` without notes, and the step `last` with
-- `notes`. It ends with the happening `ended`.
abbrev pub call_of : (pass : ℕ) (calls : List Call) (acts : List Act) (last : Act) (notes : List Note) (ended : Happening) → List Happening
call_of pass calls acts last notes ended = invokes pass calls ∷ (steps_of pass acts ++ steps pass last notes ∷ ended ∷ [])

-- The bulk load that makes a table of these words, as happenings. It is a call of the pass that asks for many insertions and makes one
-- step. The insertions' notes come with this step, and are the response.
abbrev pub load_call : (layout : Layout) (pass : ℕ) (words : List ℕ) → List Happening
load_call layout pass words =
    let notes = insertion_notes layout words in invokes pass (insertions layout words) ∷ steps pass (load_of words) notes ∷ responds pass notes ∷ []

-- The happenings of the type are what the pass has done since it was new, up to the seat of the type. `new`: it has done nothing. `loader`:
-- pass 0 has made the bulk load of the table. `called`: it has made one call more, whose steps contracts name (`HasRead`,
-- `HasMadeChangeSteps`, `HasMadeCallSteps`), and which has ended (`HasEndedAs`). `shown`: it has met another pass or followed a stamp
-- (`HasSeenMore`, `HasCaughtUp`). Of what it knows only the front and the trace have grown. `stamped`: it has made a stamp (`HasStamped`),
-- or found how many records are uncommitted (`KnowsUncommitted`), which shows its own front.
pub data HasGoneThrough (table : TableView) (pass : ℕ) : List Happening → SeatView → Type 0 where
  new : {start : SeatView} → IsNewSeatOf table pass start → HasGoneThrough table pass [] start
  loader : {start : SeatView} → pass ≡ 0 → (words : List ℕ) → IsLoad table.layout words → IsLoaderSeat table words start →
      HasGoneThrough table pass (load_call table.layout pass words) start
  called : {done : List Happening} {start end : SeatView} → HasGoneThrough table pass done start →
      (calls : List Call) (acts : List Act) (last : Act) (said : Known → List Note) →
      (ends : Ends table untold acts last said (start, tt) (end, tt)) → {ended : Happening} → HasEndedAs table.layout pass calls start end ended →
      HasGoneThrough table pass (done ++ call_of pass calls acts last (notes_of_end table acts last said start end ends) ended) end
  shown : {done : List Happening} {start end : SeatView} → HasGoneThrough table pass done start →
      IsShownAll table.layout start end → BeginsWith end.known.front start.known.front →
      end.known ≡ with_front end.known.front start.known → HasGoneThrough table pass (done ++ shows pass end.known.front ∷ []) end
  stamped : {done : List Happening} {start end : SeatView} → HasGoneThrough table pass done start → end.known ≡ start.known → end.trace ≡ start.trace →
      HasGoneThrough table pass (done ++ shows pass start.known.front ∷ []) end

-- What all passes have done

-- The run is one of the table: its steps are legal, one after the other, from a new table on. Each pass of the table has done what `done`
-- gives for it, and then has the seat that `seat` gives. The run begins with this seat's trace, and goes on by steps of other passes alone.
-- So the run has all steps of all passes, and no others.
pub record HaveEndedInOneRun (table : TableView) (run : List Event) (done : ℕ → List Happening) (seat : ℕ → SeatView) : Type 0 where
  pub led : IsTableRun table.layout run
  pub each : (pass : ℕ) → pass < table.layout.passes → HasGoneThrough table pass (done pass) (seat pass)
  pub others : (pass : ℕ) → pass < table.layout.passes → OthersStepOn pass (seat pass).trace run

-- the pass that makes the happening
abbrev pub pass_in : Happening → ℕ
pass_in (steps pass act notes) = pass
pass_in (shows pass front) = pass
pass_in (invokes pass calls) = pass
pass_in (responds pass notes) = pass
pass_in (refuses pass) = pass

-- the happenings of the pass before this time, in their order
abbrev pub happenings_of : (pass : ℕ) (happens : ℕ → Happening) (time : ℕ) → List Happening
happenings_of pass happens zero = []
happenings_of pass happens (suc time) =
    if nat_eq (pass_in (happens time)) pass then happenings_of pass happens time ++ happens time ∷ [] else happenings_of pass happens time

-- the happening is a step of this pass
abbrev pub IsStepOf : (pass : ℕ) (happening : Happening) → Type 0
IsStepOf pass (steps maker act notes) = maker ≡ pass
IsStepOf pass _ = ⊥

-- What is asked of two happenings, of which `next` comes right after `happening`. If the first invokes a call, the second is a step of the
-- invoking pass. If the second ends a call, the first is a step of the pass whose call ends. Of any other two nothing is asked, so calls of
-- several passes may overlap.
abbrev pub KeepCallsWhole : (happening next : Happening) → Type 0
KeepCallsWhole (invokes pass calls) next = IsStepOf pass next
KeepCallsWhole happening (responds pass notes) = IsStepOf pass happening
KeepCallsWhole happening (refuses pass) = IsStepOf pass happening
KeepCallsWhole happening next = Unit {0}

-- An execution by contracts alone up to the time `last`, whose steps by then are `run`. By then each pass has done just what `done` gives
-- for it. It has the seat that `seat` gives, and no pending call. Each call is invoked right before its first step, and ends right after
-- its last. So calls follow one another in the execution as their steps do in the run.
pub record IsExecutionOf (table : TableView) (run : List Event) (done : ℕ → List Happening) (seat : ℕ → SeatView)
    (last : ℕ) (at : ℕ → Instant) (happens : ℕ → Happening) : Type 0 where
  pub traced : IsTracedExecution table last at happens
  pub run_is : (at last).run ≡ run
  pub does : (pass : ℕ) → pass < table.layout.passes → happenings_of pass happens last ≡ done pass
  pub seats : (pass : ℕ) → pass < table.layout.passes → (at last).seat pass ≡ seat pass
  pub idle : (pass : ℕ) → pass < table.layout.passes → (at last).pending pass ≡ None
  pub next_to : (time : ℕ) → suc time < last → KeepCallsWhole (happens time) (happens (suc time))

-- Let the traces of all passes of a table have ended in one run. There is an execution of the run in which each pass does just what it has
-- done (`IsExecutionOf`). It is linearizable.
abbrev pub OneRunIsAnExecution : Type 0
OneRunIsAnExecution =
    (table : TableView) (run : List Event) (done : ℕ → List Happening) (seat : ℕ → SeatView) → HaveEndedInOneRun table run done seat →
    (last : ℕ) × (at : ℕ → Instant) × (happens : ℕ → Happening) ×
    IsExecutionOf table run done seat last at happens ×
    IsLinearizable table.layout last (λ time. configuration_of table.layout (at time)) happens

-- Where passes have ended in one run

-- Let each pass have done what `done` gives, up to its seat of `seat`. Let a run of the table begin with the trace of each of these seats.
-- Let each pass then be shown steps that begin with this run, which gives it its seat of `shown`. The traces of the seats of `seat` have
-- ended in the run. Two rounds of stamps do it. In the first, each pass follows a stamp of the pass before it. In the second, each follows
-- a stamp of the last pass.
abbrev pub ShownHaveEnded : Type 0
ShownHaveEnded =
    (table : TableView) (run : List Event) (done : ℕ → List Happening) (seat shown : ℕ → SeatView) → IsTableRun table.layout run →
    ((pass : ℕ) → pass < table.layout.passes → HasGoneThrough table pass (done pass) (seat pass)) →
    ((pass : ℕ) → pass < table.layout.passes → RunBeginsWith run (seat pass).trace) →
    ((pass : ℕ) → pass < table.layout.passes → IsShownAll table.layout (seat pass) (shown pass)) →
    ((pass : ℕ) → pass < table.layout.passes → RunBeginsWith (shown pass).trace run) →
    HaveEndedInOneRun table run done seat

-- Handles of one index

-- The handle is at this index. Its pass has this number, is just what its seat tells (`pass_of`), and has done what `done` says.
abbrev pub HandleHasDone : (index : TableView) (pass : ℕ) (done : List Happening) (handle : HandleView) → Type 0
HandleHasDone index pass done handle =
    (handle.index ≡ index) × (handle.pass ≡ pass_of handle.pass.seat) × HasGoneThrough index pass done handle.pass.seat

-- A handle has followed a stamp that another handle, its leader, made: by `hot_see` of C, or by `stamp` and `follow`. The handle was `was`
-- and is `now`. It has seen the changes that the leader had seen, and its trace begins with the leader's. The leader was `leader` and is
-- `led`. It has made the stamp, and nothing else of it has changed. Both handles stay at their index.
pub record HasSeenLeader (was now leader led : HandleView) : Type 0 where
  pub follows : Stays (λ index before later. HasCaughtUp index.layout leader.pass.front before later) was now
  pub traced : RunBeginsWith now.pass.seat.trace leader.pass.seat.trace
  pub stamped : Stays (λ index before later. HasStamped before later) leader led

-- Let a handle see what its leader has seen. The passes of both have then done one thing more: the handle's was shown its new front, and
-- the leader's its own. The trace of the handle is then a run of the table, and begins with the trace of the leader.
abbrev pub SeeingIsDone : Type 0
SeeingIsDone =
    (index : TableView) (pass leading_pass : ℕ) (ours theirs : List Happening) (was now leader led : HandleView) → HandleHasDone index pass ours was →
    HandleHasDone index leading_pass theirs leader → HasSeenLeader was now leader led →
    HandleHasDone index pass (ours ++ shows pass now.pass.seat.known.front ∷ []) now ×
    HandleHasDone index leading_pass (theirs ++ shows leading_pass leader.pass.seat.known.front ∷ []) led ×
    IsTableRun index.layout now.pass.seat.trace × RunBeginsWith now.pass.seat.trace leader.pass.seat.trace

-- The pass of this handle made no step of the run after those that it knew. `idle`: the run goes on by steps of other passes alone. So it is
-- with a handle that was never opened, or is closed, or makes no call. `caught_up`: the run begins with the steps that the pass knew,
-- and the handle then saw a leader that knew the whole run. So the handle itself shows that it made no other step.
pub data MadeNoLaterStep (pass : ℕ) (run : List Event) (was : HandleView) : Type 0 where
  idle : OthersStepOn pass was.pass.seat.trace run → MadeNoLaterStep pass run was
  caught_up : (now leader led : HandleView) → RunBeginsWith run was.pass.seat.trace → HasSeenLeader was now leader led →
      RunBeginsWith leader.pass.seat.trace run → MadeNoLaterStep pass run was

-- Let each pass of an index have a handle, open or closed, and have done what `done` gives. Let a run of the table have no other step of any
-- pass. What the passes have done is one execution, which is linearizable: there is one order of look-ups and changes in which a map could
-- have made them. Of two calls that don't overlap, the earlier stands first.
abbrev pub HandlesAreLinearizable : Type 0
HandlesAreLinearizable =
    (index : TableView) (run : List Event) (done : ℕ → List Happening) (was : ℕ → HandleView) → IsTableRun index.layout run →
    ((pass : ℕ) → pass < index.layout.passes → HandleHasDone index pass (done pass) (was pass)) →
    ((pass : ℕ) → pass < index.layout.passes → MadeNoLaterStep pass run (was pass)) →
    (last : ℕ) × (at : ℕ → Instant) × (happens : ℕ → Happening) ×
    IsExecutionOf index run done (λ pass. (was pass).pass.seat) last at happens ×
    IsLinearizable index.layout last (λ time. configuration_of index.layout (at time)) happens

-- `first` for pass 0, and `others` for each other pass
abbrev pub of_two : {A : Type 0} → (first others : A) (pass : ℕ) → A
of_two first others pass = if nat_eq pass 0 then first else others

-- `first` for pass 0, `second` for pass 1, and what `others` gives for each other pass
abbrev pub of_two_first : {A : Type 0} → (first second : A) (others : ℕ → A) (pass : ℕ) → A
of_two_first first second others pass = if nat_eq pass 0 then first else (if nat_eq pass 1 then second else others pass)

-- Let the only two passes of a table meet, as the clauses `shown` and `traces` of a meeting say. The traces that they had before the
-- meeting have ended in one run. This run is the trace that both have after the meeting.
abbrev pub TwoThatMeetHaveEnded : Type 0
TwoThatMeetHaveEnded =
    (table : TableView) (ours theirs : List Happening) (our their our_new their_new : SeatView) → table.layout.passes ≡ 2 →
    HasGoneThrough table 0 ours our → HasGoneThrough table 1 theirs their →
    IsShownAll table.layout our our_new → IsShownAll table.layout their their_new → our_new.trace ≡ their_new.trace →
    HaveEndedInOneRun table our_new.trace (of_two ours theirs) (of_two our their)

-- Let a bulk load just have made a table that has a pass. Pass 0 has the seat that has loaded, and all other passes are new. The passes
-- have ended in one run, whose one step is the load. Pass 0 has done this load, and no other pass has done anything.
abbrev pub LoadedHaveEnded : Type 0
LoadedHaveEnded =
    (table : TableView) (words : List ℕ) (seat : ℕ → SeatView) → 0 < table.layout.passes →
    IsLoad table.layout words → IsLoaderSeat table words (seat 0) →
    ((pass : ℕ) → 1 ≤ pass → pass < table.layout.passes → IsNewSeatOf table pass (seat pass)) →
    HaveEndedInOneRun table (load_trace words).events (of_two (load_call table.layout 0 words) []) seat

-- One step or more without notes, as of a round of collection or a count, are the steps of a call: it ends with the last of them (`Ends`).
-- So rounds and counts meet what `HasGoneThrough` asks of a call.
abbrev pub SilentStepsEnd : Type 0
SilentStepsEnd =
    (table : TableView) (act : Act) (acts : List Act) (start end : SeatView) → Runs table untold (act ∷ acts) (start, tt) (end, tt) →
    (before : List Act) × (last : Act) × (act ∷ acts ≡ before ++ last ∷ []) × Ends table untold before last silent (start, tt) (end, tt)

-- In each table of two passes or more, and for each value of 64 bits, there is a run in which all passes have ended. Pass 0 has one note,
-- that it inserted the key of no bytes with this value. Pass 1 has one note, that a get found it. The others have done nothing. So the
-- premise of `OneRunIsAnExecution` can be met.
abbrev pub AnInsertIsFound : Type 0
AnInsertIsFound =
    (table : TableView) → 2 ≤ table.layout.passes → (value : ℕ) → value < 2 ^ 64 →
    (run : List Event) × (done : ℕ → List Happening) × (seat : ℕ → SeatView) × HaveEndedInOneRun table run done seat ×
    ((seat 0).known.notes ≡ record { place = 0; call = Insert [] value; reply = Inserted } ∷ []) ×
    ((seat 1).known.notes ≡ record { place = 1; call = Get []; reply = Value value } ∷ []) ×
    ((pass : ℕ) → 2 ≤ pass → done pass ≡ [])

-- Steps of which a gate was told are steps without a gate, too, with the same notes. So calls with a gate meet what `HasGoneThrough` asks,
-- which knows no gate. It is said of steps without notes (`Runs`), and of steps that end a call (`Ends`).
abbrev pub StepsNeedNoGate : {G : Type 0} → (becomes : G → Event → G → Type 0) → Type 0
StepsNeedNoGate {G = G} becomes =
    (table : TableView) (acts : List Act) (before later : SeatView × G) →
    (Runs table becomes acts before later → Runs table untold acts (before.0, tt) (later.0, tt)) ×
    ((last : Act) (said : Known → List Note) → Ends table becomes acts last said before later →
    Ends table untold acts last said (before.0, tt) (later.0, tt))
