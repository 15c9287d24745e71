-- What a check under the locks asks of the nodes.
use Rattle.std.specs.Prelude.{◌≡◌, ℕ, ◌+◌, ◌<◌, ◌≤◌, List, slice_get, Some, [], length}
use Rattle.insert_cases.specs.declared.choice.PathNode.{PathNode}
use Rattle.tries.specs.Keys.{Key}
use Rattle.tries.specs.Search.{seek}
use Rattle.rowex_core.specs.declared.known.Known.{Known}
use Rattle.rowex_core.specs.Reading.{node_words_of}
use Rattle.rowex_writing.specs.locks.Going.{HasLocked}
use Rattle.rowex_reading.specs.Ways.{named, IsWayOf}
use Rattle.rowex_reading.specs.declared.descent.Found.{Found}
use Rattle.rowex_writing.specs.declared.plan.Span.{Span}
use Rattle.rowex_table.specs.Seats.{TableView, SeatView, IsSeatOf}
use Rattle.rowex_reading.specs.Possible.{IsPossible}
use Rattle.rowex_writing.specs.locks.Locks.{HasLockedSpan}
use Rattle.rowex_writing.specs.plan.Plans.{change}
use Rattle.rowex_writing.specs.plan.Planned.{IsPlanned}
use Rattle.rowex_writing.specs.declared.plan.Aim.{Aim}
use Rattle.rowex_writing.specs.declared.plan.job.Job.{Job}
use Rattle.rowex_writing.specs.declared.plan.Deed.{Deed}

-- Each node that is locked for the span, the one above it as well, still names what the search took there. By the words known under its
-- lock, its entry on the key's path is the same.
abbrev pub EntriesStand : (known : Known) → (key : Key) → (way : List PathNode) → (found : Found) → (span : Span) → Type 0
EntriesStand known key way found span = (i : ℕ) (node : PathNode) → span.end ≤ i + 1 → i < span.len → slice_get way i ≡ Some node →
    (words : List ℕ) → HasLocked known node.number words → named way found (i + 1) ≡ Some (seek key (node_words_of words).subtrie)

-- Each node that is locked for the span, the one above it as well, still names what the search found there on the key's path. So does the
-- root, by the anchor's lock, if the span goes up to it.
pub record IsChecked (known : Known) (key : Key) (way : List PathNode) (found : Found) (span : Span) : Type 0 where
  pub root : span.end ≡ 0 → known.anchor ≡ Some (named way found 0)
  pub entries : (i : ℕ) (node : PathNode) → span.end ≤ i + 1 → i < span.len → slice_get way i ≡ Some node →
      (words : List ℕ) → HasLocked known node.number words → named way found (i + 1) ≡ Some (seek key (node_words_of words).subtrie)

-- A search that loaded the root at `version` took the path `way` and ended at `found`. The pass has locked the span, a part of that path.
-- What it locked still names what the search found there (`IsChecked`). It has no records of its own.
pub record HasTakenSpan (table : TableView) (view : SeatView) (version : ℕ) (key : Key) (way : List PathNode) (found : Found)
    (span : Span) : Type 0 where
  pub seat : IsSeatOf table view
  pub possible : IsPossible table.layout view.known
  pub own : view.known.own ≡ []
  pub within : (span.end ≤ span.len) × (span.len ≤ length way)
  pub way_of : IsWayOf table.layout view.known version key way found
  pub locked : HasLockedSpan view.known way span
  pub checked : IsChecked view.known key way found span

-- The pass has locked and checked the job's span, and has no records of its own. For some aim, what its search found plans this deed for
-- that span.
abbrev pub HasTakenPlan : (table : TableView) → (seat : SeatView) → (job : Job) → (deed : Deed) → Type 0
HasTakenPlan table seat job deed =
    (version : ℕ) × (aim : Aim) × HasTakenSpan table seat version job.key.now job.way.now job.found job.span ×
    IsPlanned seat.known version job.key.now job.way.now aim job.found (change job.span.len job.span.end deed)
