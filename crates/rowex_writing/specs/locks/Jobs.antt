-- Where a job's search has gone, and the locks of its span.
use Rattle.std.specs.Prelude.{ℕ, ◌≤◌, length}
use Rattle.record_words.specs.declared.layout.Layout.{Layout}
use Rattle.rowex_core.specs.declared.known.Known.{Known}
use Rattle.rowex_reading.specs.Possible.{IsPossible}
use Rattle.rowex_reading.specs.Ways.{IsWayOf}
use Rattle.rowex_table.specs.Seats.{TableView, SeatView, IsSeatOf}
use Rattle.rowex_writing.specs.locks.Locks.{HasLockedSpan}
use Rattle.rowex_writing.specs.declared.plan.job.Job.{Job}

-- the job's span is a part of its path
abbrev pub IsWithinWay : Job → Type 0
IsWithinWay job = (job.span.end ≤ job.span.len) × (job.span.len ≤ length job.way.now)

-- a search for the job's key loaded the root at this version, took the job's path and found what the job says
abbrev pub IsJobFrom : (layout : Layout) → (known : Known) → (version : ℕ) → (job : Job) → Type 0
IsJobFrom layout known version job = IsWayOf layout known version job.key.now job.way.now job.found

-- A search of the pass took the job's path and ended as the job says. The pass has locked just the job's span, which is a part of that
-- path.
pub record HoldsSpan (table : TableView) (view : SeatView) (job : Job) : Type 0 where
  pub seat : IsSeatOf table view
  pub possible : IsPossible table.layout view.known
  pub within : IsWithinWay job
  pub from : (version : ℕ) × IsJobFrom table.layout view.known version job
  pub locked : HasLockedSpan view.known job.way.now job.span
