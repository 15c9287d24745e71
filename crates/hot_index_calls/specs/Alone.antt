-- Calls that are alone: while such a call runs, no other pass makes a step.
use Rattle.std.specs.Prelude.{◌≡◌, ◌≢◌, ℕ, ◌<◌, List, [], ◌∷◌, ◌++◌, length, All, Some}
use Rattle.record_words.specs.declared.layout.Layout.{Layout}
use Rattle.record_words.specs.declared.records.Rec.{Rec}
use Rattle.rowex_core.specs.declared.event.Event.{Event}
use Rattle.rowex_core.specs.Cores.{Core, holder_of}
use Rattle.rowex_core.specs.Opening.{opening}
use Rattle.rowex_core.specs.Runs.{EventsLead}
use Rattle.rowex_table.specs.Seats.{SeatView}
use Rattle.rowex_table.specs.Traces.{OthersStepOn, RunBeginsWith}
use Rattle.rowex_writing.specs.locks.Others.{HoldsLock, HasMetOther}

-- In this core the pass holds nothing: no lock of a node or of the anchor, and no record that it has claimed or unlinked. It may be pinned.
pub record HoldsNone (core : Core) (pass : ℕ) : Type 0 where
  pub locks : ¬ (HoldsLock core pass)
  pub own : (rec : Rec) → holder_of (core.fate rec) ≢ Some pass

-- A call of the pass was alone, from its seat `old` to its seat `new`. When the call began, the steps `before` had been made. These are
-- what the pass knew at `old`, and steps of others. In the core after them no other pass held a lock or a record. It may have been within a
-- look-up. All steps of the table behind them are the pass's own.
pub record RunsAlone (layout : Layout) (pass : ℕ) (old new : SeatView) : Type 0 where
  pub before : List Event
  pub others : OthersStepOn pass old.trace before
  pub core : Core
  pub led : EventsLead (opening layout) before core
  pub none : (other : ℕ) → other < layout.passes → other ≢ pass → HoldsNone core other
  pub own : List Event
  pub until : new.trace ≡ before ++ own
  pub each : All (λ event. event.pass ≡ pass) own

-- Another pass was in the way of a call of pass `number`, from its seat `old` to its seat `new`. `at` is a moment of that pass at or behind
-- the call's first step, and `pinned` the core then. Between `at` and `new` the other pass had a lock, or had made a change that `pinned`
-- doesn't have. That the pass set its pin at that moment is not said here.
pub record HasBeenHindered (layout : Layout) (number : ℕ) (old new : SeatView) : Type 0 where
  pub before : List Event
  pub first : Event
  pub own : first.pass ≡ number
  pub behind : RunBeginsWith before old.trace
  pub at : SeatView
  pub pass : at.known.pass ≡ number
  pub within : RunBeginsWith at.trace (before ++ first ∷ [])
  pub pinned : Core
  pub led : EventsLead (opening layout) at.trace pinned
  pub met : HasMetOther layout (length pinned.changes) at new
