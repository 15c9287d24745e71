-- What a call that may change the map leaves in the seat of its pass.
use Rattle.std.specs.Prelude.{◌≡◌, ◌+◌, ◌≤◌, List, Result, Ok, Err, IfOk, IfErr}
use Rattle.finite_map.specs.declared.Call.{Call}
use Rattle.finite_map.specs.declared.Reply.{Reply}
use Rattle.rowex_core.specs.declared.event.Act.{Act}
use Rattle.rowex_core.specs.declared.event.Event.{Event}
use Rattle.rowex_table.specs.Runs.{silent}
use Rattle.rowex_table.specs.Seats.{TableView, SeatView, IsSeatOf}
use Rattle.rowex_writing.specs.attempts.Attempts.{LacksNoLeaf}
use Rattle.rowex_writing.specs.build.Changes.{LacksNodes}
use Rattle.rowex_writing.specs.build.Walks.{nodes_among}
use Rattle.record_words.specs.declared.records.Rec.{Rec}
use Rattle.rowex_writing.specs.declared.attempts.TryFault.{TryFault}
use Rattle.rowex_writing.specs.declared.attempts.TryFault.TheVariants.{FullLeaves, FullNodes}
use Rattle.rowex_writing.specs.declared.plan.Full.{Full}
use Rattle.hot_index_calls.specs.Answers.{IsNoted, IsRefusedFor, IsUnnoted, fault_of}
use Rattle.hot_index_calls.specs.Noting.{change_notes}
use Rattle.hot_index_calls.specs.Passes.{IsSettled, pass_of}
use Rattle.hot_index_calls.specs.Traces.{HasEnded, IsAttempt}

-- the seat is one of this table, and its pass is between two calls
abbrev pub IsIdle : (table : TableView) (seat : SeatView) → Type 0
IsIdle table seat = IsSeatOf table seat × IsSettled seat.known

-- The call has ended: its pass is between two calls again, and has loaded the root in the call. The call was answered and noted, or refused
-- for a cause. A removal lacks no leaf record.
pub record HasReplied (table : TableView) (call : Call) (result : Result Reply TryFault) (old new : SeatView) : Type 0 where
  pub idle : IsIdle table new
  pub noted : IfOk result (IsNoted table.layout (pass_of old) (pass_of new) call)
  pub refused : IfErr result (IsRefusedFor table.layout call (pass_of old) (pass_of new))
  pub leafless : LacksNoLeaf FullLeaves call result
  pub loaded : old.known.steps ≤ new.known.fresh.step

-- If the call was refused for want of a node record, it found each node record not free when that record's turn came, of those that it knew
-- to be committed when it began. The pass's own among them were the node records of `made`. Of another result nothing is said.
abbrev pub HasLacked : (table : TableView) (made : List Rec) (result : Result Reply TryFault) (old new : SeatView) → Type 0
HasLacked table made result old new =
    result ≡ Err FullNodes → LacksNodes table.layout old.bounds new.known.pass new.known.failed old.known.steps (nodes_among made)

-- The pass has made a call with this result, by steps of which `Are` holds, and then one that clears its pin. With this last step comes the
-- call's note, if the call was answered. The pass is between two calls again.
pub record HasAsked {G : Type 0} (table : TableView) (becomes : G → Event → G → Type 0) (Are : SeatView × G → SeatView × G → List Act → Type 0)
    (call : Call) (result : Result Reply TryFault) (old new : SeatView × G) : Type 0 where
  pub replied : HasReplied table call result old.0 new.0
  pub ended : HasEnded table becomes (Are old new) (change_notes call result) old new
  pub later : old.0.known.steps ≤ new.0.known.steps

-- The pass has made an attempt of three steps that does nothing: it has loaded the epoch, set its pin, and cleared it. It is between two
-- calls again. Its notes, its failed steps and what its last load of the root showed are as before. It may have seen more changes.
pub record HasRested {G : Type 0} (table : TableView) (becomes : G → Event → G → Type 0) (old new : SeatView × G) : Type 0 where
  pub idle : IsIdle table new.0
  pub unnoted : IsUnnoted table.layout (pass_of old.0) (pass_of new.0)
  pub failed : new.0.known.failed ≡ old.0.known.failed
  pub fresh : new.0.known.fresh ≡ old.0.known.fresh
  pub ended : HasEnded table becomes (IsAttempt table.layout) silent old new
  pub steps : new.0.known.steps ≡ old.0.known.steps + 3

-- the result of the last try of a call that waits
abbrev pub last_try : Result Reply Full → Result Reply TryFault
last_try (Ok reply) = Ok reply
last_try (Err full) = Err (fault_of full)
