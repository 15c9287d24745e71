-- The nodes from the index on are locked.
use Rattle.rowex_writing.proofs.Common.{◌-◌, ◌≡◌, ◌≤◌, None, ◌+◌, slice_range, IsSeatOf}
use Rattle.rowex_writing.specs.locks.Locks.{HasJustLocked, TriesNodes, numbers_of}
use Rattle.rowex_writing.proofs.locks.lock_span.Given as goal

abbrev pub invariant-loop-index : goal.invariant-loop-index
invariant-loop-index g l = record {
  own : IsSeatOf l.table l.seat;
  top : l.first ≡ l.span.end - 1;
  range : (l.first ≤ l.index) × (l.index ≤ l.span.len);
  tries : TriesNodes l.table g.G.Gate.becomes (numbers_of (slice_range l.way l.index l.span.len)) (l.fn.seat, l.fn.gate) (l.seat, l.gate);
  locked : HasJustLocked l.seat.known (numbers_of (slice_range l.way l.index l.span.len));
  anchor : l.seat.known.anchor ≡ None;
  same : l.seat.known.own ≡ l.fn.seat.known.own;
  few : l.seat.known.steps ≤ l.fn.seat.known.steps + (l.span.len - l.index);
}

-- proposed from the loop's first test
abbrev pub decreases-loop-index : goal.decreases-loop-index
decreases-loop-index g l = l.index - l.first
