-- Another pass that stands in the way of a lock, by the run of the table.
use Rattle.std.specs.Prelude.{◌≡◌, ◌≢◌, ◌⊎◌, ℕ, ◌<◌, ◌≤◌, List, length, Some, slice_get}
use Rattle.finite_map.specs.declared.Change.{Change}
use Rattle.record_words.specs.declared.layout.Layout.{Layout}
use Rattle.rowex_core.specs.declared.event.Event.{Event}
use Rattle.rowex_core.specs.Cores.{Core}
use Rattle.rowex_core.specs.Knowing.{version_of}
use Rattle.rowex_core.specs.Opening.{opening}
use Rattle.rowex_core.specs.Runs.{EventsLead}
use Rattle.rowex_table.specs.Seats.{SeatView}
use Rattle.rowex_table.specs.Traces.{RunBeginsWith}
use Rattle.rowex_writing.specs.locks.Locks.{HasMetLock}

-- in this core the pass holds a lock: the anchor's, or that of some node
abbrev pub HoldsLock : (core : Core) → (pass : ℕ) → Type 0
HoldsLock core pass = (core.anchor ≡ Some pass) ⊎ ((number : ℕ) × (core.lock number ≡ Some pass))

-- the pass has made one of the changes from number `first` on
abbrev pub HasMadeSince : (core : Core) → (first pass : ℕ) → Type 0
HasMadeSince core first pass = (place : ℕ) × (change : Change) × (first ≤ place) × (slice_get core.changes place ≡ Some change) × (change.pass ≡ pass)

-- Some core between these views of a seat: the steps `run` lead to it from a new table. They begin with the steps of the old view, and the
-- new view's begin with them. In that core another pass of the table holds a lock, or has made a change from number `first` on.
pub record HasMetOther (layout : Layout) (first : ℕ) (old new : SeatView) : Type 0 where
  pub run : List Event
  pub core : Core
  pub led : EventsLead (opening layout) run core
  pub since : RunBeginsWith run old.trace
  pub until : RunBeginsWith new.trace run
  pub by : ℕ
  pub another : by ≢ old.known.pass
  pub below : by < layout.passes
  pub is : HoldsLock core by ⊎ HasMadeSince core first by

-- A lock that the pass tried was refused. At some moment between the views another pass of the table held a lock, or had made a change
-- since the pin.
abbrev pub IsBlocked : (layout : Layout) → (old new : SeatView) → Type 0
IsBlocked layout old new = HasMetLock layout old.known new.known × HasMetOther layout (version_of old.known.pin) old new

-- At some moment between the views another pass of the table held a lock, or had made a change since the pin. Or the pass has seen a change
-- made since its pin.
abbrev pub IsHindered : (layout : Layout) → (old new : SeatView) → Type 0
IsHindered layout old new = HasMetOther layout (version_of old.known.pin) old new ⊎ (version_of old.known.pin < length new.known.front)
