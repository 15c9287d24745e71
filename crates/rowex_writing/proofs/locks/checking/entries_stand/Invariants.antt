-- Each node above the index stands as it was found.
use Rattle.rowex_writing.proofs.Common.{◌+◌, ◌-◌, ◌≤◌, IsPossible, IsSeatOf}
use Rattle.rowex_writing.specs.locks.Going.{WorksOnKeepingRecords}
use Rattle.rowex_writing.proofs.locks.Checks.{StandBelow}
use Rattle.rowex_writing.proofs.locks.checking.entries_stand.Given as goal

abbrev pub invariant-loop-index : goal.invariant-loop-index
invariant-loop-index g l = record {
  own : IsSeatOf l.table l.seat;
  reads : WorksOnKeepingRecords l.table g.G.Gate.becomes (l.fn.seat, l.fn.gate) (l.seat, l.gate);
  possible : IsPossible l.table.layout l.seat.known;
  from : l.job.span.end ≤ l.index + 1;
  stand : StandBelow l.table.layout l.fn.seat.known l.job.way.now l.job.found l.job.span l.index;
  few : l.seat.known.steps + (l.job.span.end - 1) ≤ l.fn.seat.known.steps + l.index;
}
