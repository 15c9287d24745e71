-- Those of the records before this one that are tried are not free.
use Rattle.rowex_writing.proofs.Common.{◌≡◌, ◌+◌, ◌-◌, ◌*◌, ◌≤◌, IsAnothersTo}
use Rattle.rowex_writing.specs.build.Classes.{AllMissedBetween}
use Rattle.rowex_writing.specs.locks.Going.{WorksOn}
use Rattle.rowex_writing.proofs.build.leaves.claim_leaf_between.Given as goal

abbrev pub invariant-loop-first : goal.invariant-loop-first
invariant-loop-first g l = record {
  within : (l.fn.numbers.start ≤ l.first) × (l.first ≤ l.numbers.end);
  goes : WorksOn l.table g.G.Gate.becomes (l.fn.seat, l.fn.gate) (l.seat, l.gate);
  own : l.seat.known.own ≡ l.fn.seat.known.own;
  missed : AllMissedBetween (IsAnothersTo l.table.layout l.fn.seat.known) l.table.layout l.fn.seat.bounds l.fn.numbers.start l.first l.seat.known.failed l.fn.seat.known.steps;
  count : l.seat.known.steps ≤ l.fn.seat.known.steps + 4 * (l.first - l.fn.numbers.start);
  later : l.fn.seat.known.steps ≤ l.seat.known.steps;
}

abbrev pub decreases-loop-first : goal.decreases-loop-first
decreases-loop-first g l = l.numbers.end - l.first
