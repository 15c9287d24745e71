-- Those from the index on are locked still.
use Rattle.rowex_writing.proofs.Common.{drop, ◌+◌, ◌≤◌, IsSeatOf}
use Rattle.rowex_writing.specs.locks.Locks.{HasJustLocked, KnowsSameButLocks, Works, numbers_of}
use Rattle.rowex_writing.proofs.locks.unlock_nodes.Given as goal

abbrev pub invariant-loop-index : goal.invariant-loop-index
invariant-loop-index g l = record {
  own : IsSeatOf l.table l.seat;
  works : Works l.table g.G.Gate.becomes (l.fn.seat, l.fn.gate) (l.seat, l.gate);
  locked : HasJustLocked l.seat.known (numbers_of (drop l.index l.steps));
  rest : KnowsSameButLocks l.fn.seat.known l.seat.known;
  few : l.seat.known.steps ≤ l.fn.seat.known.steps + l.index;
}
