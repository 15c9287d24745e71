-- The laws of the table.
use Rattle.std.specs.Prelude.{◌<◌, ◌≤◌, ◌++◌, ◌≡◌, ◌≢◌, ◌⊎◌, ℕ, List, [], ◌∷◌, ◌++◌}
use mathlib.Core.Option.{some}
use lib.ListN.{get_elem?}
use Rattle.atomic_table.specs.Table.{State}
use Rattle.finite_map.specs.declared.Note.{Note}
use Rattle.record_words.specs.declared.layout.Layout.{Layout}
use Rattle.rowex_core.specs.declared.event.Act.{Act}
use Rattle.rowex_core.specs.declared.event.Event.{Event}
use Rattle.rowex_core.specs.declared.known.Known.{Known}
use Rattle.rowex_core.specs.Cores.{Core}
use Rattle.rowex_core.specs.Opening.{opening}
use Rattle.rowex_core.specs.Runs.{EventsLead}
use Rattle.rowex_table.specs.declared.traces.Trace.{Trace}
use Rattle.rowex_table.specs.declared.traces.TracedView.{TracedView}
use Rattle.rowex_table.specs.declared.traces.TracedView.TheVariants.{Pass}
use Rattle.record_words.specs.declared.records.Rec.{Rec}
use Rattle.versions.specs.Core.{Free}
use Rattle.rowex_table.specs.Committed.{IsTaken, TakenAreCommitted, count_from, record_kind}
use Rattle.rowex_table.specs.Rule.{Ruled}
use Rattle.rowex_table.specs.Seats.{TableView, SeatView}
use Rattle.rowex_table.specs.Runs.{Ends, IsTold, Runs, events_of, silent}
use Rattle.rowex_table.specs.Traces.{IsTableRun, RunBeginsWith, own_acts, taught}

-- Let a pass make some steps, one after the other (`Runs`). Its gate is told the event of each, in order, and nothing else.
abbrev pub GateIsToldEachStep : {G : Type 0} → (G → Event → G → Type 0) → Type 0
GateIsToldEachStep {G = G} becomes = (table : TableView) (acts : List Act) (old new : SeatView × G) → Runs table becomes acts old new →
    IsTold becomes (events_of old.0.known.pass acts) old.1 new.1

-- what a pass knows, with the notes that `said` gives behind those that it has
abbrev pub with_notes : (Known → List Note) → Known → Known
with_notes said known = record known { notes = known.notes ++ said known }

-- From `old` to `new` a seat's pass has made exactly these acts, in one run of the table. `steps` are the steps of all passes behind those
-- that the pass knew. They lead on from each core to which the steps before lead. In the end the pass knows what they have taught it, and
-- has the notes that `said` gives. If it has made an act, or its trace was a run of the table, its trace is one now.
pub record IsInOneRun (layout : Layout) (acts : List Act) (said : Known → List Note) (old new : SeatView) : Type 0 where
  pub steps : List Event
  pub trace : new.trace ≡ old.trace ++ steps
  pub own : own_acts old.known.pass steps ≡ acts
  pub led : (before : Core) → EventsLead (opening layout) old.trace before → (later : Core) × EventsLead before steps later ×
      (new.known ≡ with_notes said (taught old.known.pass before steps old.known))
  pub run : IsTableRun layout old.trace ⊎ (acts ≢ []) → IsTableRun layout new.trace

-- Steps of one pass, one after the other, stand in one run of the table, and add no notes.
abbrev pub StepsAreInOneRun : {G : Type 0} → (G → Event → G → Type 0) → Type 0
StepsAreInOneRun {G = G} becomes = (table : TableView) (acts : List Act) (old new : SeatView × G) → Runs table becomes acts old new →
    IsInOneRun table.layout acts silent old.0 new.0

-- The steps of a call, whose notes come with the last, stand in one run of the table.
abbrev pub CallStepsAreInOneRun : {G : Type 0} → (G → Event → G → Type 0) → Type 0
CallStepsAreInOneRun {G = G} becomes = (table : TableView) (acts : List Act) (act : Act) (said : Known → List Note) (old new : SeatView × G) →
    Ends table becomes acts act said old new → IsInOneRun table.layout (acts ++ act ∷ []) said old.0 new.0

-- By the rule of the table all traces are of one run. Take steps that one pass knows of, now or earlier, and steps that another knows of.
-- One list begins with the other. No contract shows the state of a table. By contracts two passes have one run if they meet, or one follows
-- the other's stamp.
abbrev pub TracesAreOfOneRun : Type 0
TracesAreOfOneRun =
    (layout : Layout) (state : State (Unit {0}) TracedView) → Ruled layout state →
    (place other_place : ℕ) (known other_known : Known) (first second : Trace) →
    get_elem? state.views place ≡ some (Pass known first) → get_elem? state.views other_place ≡ some (Pass other_known second) →
    (one other : List Event) → RunBeginsWith first.events one → RunBeginsWith second.events other → RunBeginsWith other one ⊎ RunBeginsWith one other

-- A record that no step of a table's run has taken is free.
abbrev pub UntakenAreFree : Type 0
UntakenAreFree = (layout : Layout) (run : List Event) (core : Core) (rec : Rec) → EventsLead (opening layout) run core →
    (core.fate rec ≡ Free) ⊎ IsTaken layout run rec

-- Let a pass have loaded how many records of a kind are uncommitted, when it knew the steps `trace` (`load_uncommitted`). Let a run be these
-- steps and more, none of which takes a record. In the core to which it leads each uncommitted record of the kind is free.
abbrev pub UncommittedAreFree : Type 0
UncommittedAreFree =
    (layout : Layout) (trace more : List Event) (core : Core) (kind count : ℕ) → EventsLead (opening layout) (trace ++ more) core →
    TakenAreCommitted layout trace kind count →
    ((rec : Rec) → IsTaken layout more rec → ⊥) →
    (rec : Rec) → record_kind layout rec ≡ kind → count_from layout rec ≤ count → core.fate rec ≡ Free
