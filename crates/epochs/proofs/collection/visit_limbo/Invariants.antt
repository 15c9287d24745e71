-- So many records at most have been visited.
use Rattle.std.specs.Prelude.{◌≡◌}
use Rattle.epochs.specs.Rounds.{VisitsSome}
use Rattle.epochs.proofs.collection.visit_limbo.Given as goal

abbrev pub invariant-loop-index : goal.invariant-loop-index
invariant-loop-index g l = record {
  same : (l.seat.known.pin ≡ l.fn.seat.known.pin) × (l.seat.known.round ≡ l.fn.seat.known.round);
  steps : VisitsSome l.table g.G.Gate.becomes l.bound l.index (l.fn.seat, l.fn.gate) (l.seat, l.gate);
}
