-- What the passes of the example have asked, and that their calls have ended in one run.
use Rattle.std.specs.Prelude.{◌≡◌, ℕ, List, [], ◌∷◌, ◌++◌}
use Rattle.finite_map.specs.declared.Call.{Call}
use Rattle.hot_index.specs.Handles.{HandleView}
use Rattle.hot_index.specs.Stamps.{HasSeenMore}
use Rattle.hot_index_calls.specs.Passes.{pass_of}
use Rattle.index_laws.specs.Joined.{HasGoneThrough, HaveEndedInOneRun, of_two}
use Rattle.linearizability.specs.Configurations.{Happening, invokes}
use Rattle.rowex_table.specs.Seats.{SeatView, TableView}

-- the calls of the map that these happenings ask, in their order
abbrev pub asked_in : List Happening → List Call
asked_in [] = []
asked_in (invokes pass calls ∷ happenings) = calls ++ asked_in happenings
asked_in (happening ∷ happenings) = asked_in happenings

-- The pass of this number, which is the handle's, has asked the map these calls since it was new, in this order. Each has ended, answered
-- or refused.
abbrev pub HasMadeCalls : ℕ → List Call → HandleView → Type 0
HasMadeCalls pass asked handle = (done : List Happening) × HasGoneThrough handle.index pass done handle.pass.seat × (asked_in done ≡ asked)

-- Passes 0 and 1 of the index, which has no other, have asked the calls `asked` and `asked_too`, and each call has ended. Then the passes
-- have met, and are those of the two handles now. All that the passes did before has ended in the run that both now know
-- (`HaveEndedInOneRun`). So their calls are an execution, and linearizable (`OneRunIsAnExecution`).
pub record HaveEnded (index : TableView) (asked asked_too : List Call) (first second : HandleView) : Type 0 where
  pub ours : List Happening
  pub theirs : List Happening
  pub one : SeatView
  pub other : SeatView
  pub ended : HaveEndedInOneRun index first.pass.seat.trace (of_two ours theirs) (of_two one other)
  pub calls : (asked_in ours ≡ asked) × (asked_in theirs ≡ asked_too)
  pub met : HasSeenMore (pass_of one) first.pass × HasSeenMore (pass_of other) second.pass
