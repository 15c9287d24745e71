-- Those from the index on are to be marked.
use Rattle.rowex_writing.proofs.Common.{drop, ◌+◌, ◌≤◌, IsSeatOf}
use Rattle.rowex_writing.specs.locks.Locks.{Works}
use Rattle.rowex_writing.specs.store.Retiring.{HasToMark, KeepsLocks}
use Rattle.rowex_writing.proofs.store.ending.mark_records.Given as goal

abbrev pub invariant-loop-index : goal.invariant-loop-index
invariant-loop-index g l = record {
  own : IsSeatOf l.table l.seat;
  works : Works l.table g.G.Gate.becomes (l.fn.seat, l.fn.gate) (l.seat, l.gate);
  due : HasToMark l.seat.known l.epoch (drop l.index l.recs);
  same : KeepsLocks l.fn.seat.known l.seat.known;
  few : l.seat.known.steps ≤ l.fn.seat.known.steps + l.index;
}
