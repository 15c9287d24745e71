-- What the contracts of the index say of whole runs, as the functions of the module `laws` promise it.
use Rattle.std.specs.Prelude.{◌≡◌, ℕ, ◌<◌, ◌≤◌, List, [], ◌∷◌, None}
use Rattle.atomic_table.specs.Seated.{TableId}
use Rattle.finite_map.specs.declared.Call.{Call}
use Rattle.finite_map.specs.declared.Call.TheVariants.{Get}
use Rattle.finite_map.specs.declared.Note.{Note}
use Rattle.finite_map.specs.declared.Reply.TheVariants.{Absent}
use Rattle.record_words.specs.declared.layout.Layout.{Layout}
use Rattle.rowex_core.specs.Opening.{opening}
use Rattle.rowex_table.specs.Rule.{opening_of}
use Rattle.rowex_writing.specs.declared.plan.Full.{Full}
use Rattle.hot_index_calls.specs.Answers.{MayLack, MayRefuse, fault_of}
use Rattle.linearizability.specs.Histories.{PendingEndOrChangeAsAsked, complete_calls}
use Rattle.linearizability.specs.Configurations.{Happening, IsNewIndex, IsRefusal, IsResponse, IsWholeRun, Configuration, Pending}
use Rattle.linearizability.specs.Statements.{IsLinearizable}
use Rattle.index_laws.specs.Executions.{HasBeenRefused, HasReturned, IsExecution}

-- A run may begin at a table that was just made (`IsNewIndex`). In its configuration no pass has made a step or a call.
abbrev pub OpeningIsNew : Type 0
OpeningIsNew = (layout : Layout) → IsNewIndex layout (record { core = opening layout; known = opening_of; pending = λ _. None })

-- In a run, let a call of one of the index's passes return as its contract says (`HasReturned`). In the sense of runs it responds
-- (`IsResponse`), with the same notes.
abbrev pub ReturnedResponds : Type 0
ReturnedResponds =
    (layout : Layout) (last : ℕ) (at : ℕ → Configuration) (happens : ℕ → Happening) → IsWholeRun layout last at happens → (pass time : ℕ) →
    pass < layout.passes → time ≤ last →
    (call : Pending) (notes : List Note) → HasReturned layout at pass time call notes → IsResponse at time pass call notes

-- A call that was refused as its contract says is refused in the sense of runs (`IsRefusal`).
abbrev pub RefusedIsRefused : Type 0
RefusedIsRefused =
    (layout : Layout) (at : ℕ → Configuration) (pass time : ℕ) (call : Pending) → HasBeenRefused layout at pass time call →
    IsRefusal at time pass call

-- If a call that waits may be refused since it found no free record of a kind (`MayLack`), one that doesn't wait may be, too. The fault is
-- then the one of this kind.
abbrev pub LackMayRefuse : Type 0
LackMayRefuse = (call : Call) (full : Full) → MayLack call full → MayRefuse call (fault_of full)

-- Each execution, in which calls end as their contracts say, is a run.
abbrev pub ExecutionsAreRuns : Type 0
ExecutionsAreRuns =
    (layout : Layout) (last : ℕ) (at : ℕ → Configuration) (happens : ℕ → Happening) → IsExecution layout last at happens →
    IsWholeRun layout last at happens

-- Executions are linearizable (Herlihy and Wing, 1990) up to any time `last`. The premise is on each call that is pending at `last`. By the
-- time `later` it ends, and asks one call, look-ups alone, or nothing. Or by `last` it has changed nothing, or has changed the map once, as
-- it asks.
abbrev pub ExecutionsAreLinearizable : Type 0
ExecutionsAreLinearizable =
    (layout : Layout) (last later : ℕ) (at : ℕ → Configuration) (happens : ℕ → Happening) → last ≤ later →
    IsExecution layout later at happens → PendingEndOrChangeAsAsked layout last later at → IsLinearizable layout last at happens

-- How the contracts of calls fit runs. Each law is a field.
pub record Responses : Type 0 where
  -- a run may begin at a new table
  pub opening : OpeningIsNew
  -- a call that has returned responds in the run
  pub returned : ReturnedResponds
  -- a call that was refused is refused in the run
  pub refused : RefusedIsRefused
  -- a call that may find no record of a kind free may be refused for want of one
  pub lacks : LackMayRefuse
  -- an execution is a run
  pub runs : ExecutionsAreRuns

-- For each layout with a pass, and each key, there is an execution in which one call of the map is answered. It is a get of the key, which
-- responds at time 5 that the key is absent. Before time 6 there are its invocation, the four steps of a get in an empty index, and its
-- response. So the premises of laws on executions can be met.
abbrev pub AGetReturns : Type 0
AGetReturns =
    (layout : Layout) → 0 < layout.passes → (table : TableId) (key : List ℕ) → (at : ℕ → Configuration) × (happens : ℕ → Happening) ×
    IsExecution layout 6 at happens × (complete_calls happens 6 ≡ (5, record { place = 0; call = Get key; reply = Absent }) ∷ [])
