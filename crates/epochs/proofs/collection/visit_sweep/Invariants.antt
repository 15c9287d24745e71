-- So many records at most have been visited.
use Rattle.std.specs.Prelude.{◌≡◌}
use Rattle.epochs.specs.Rounds.{VisitsSome}
use Rattle.epochs.proofs.collection.visit_sweep.Given as goal

abbrev pub invariant-loop-visit : goal.invariant-loop-visit
invariant-loop-visit g l = record {
  same : (l.seat.known.pin ≡ l.fn.seat.known.pin) × (l.seat.known.round ≡ l.fn.seat.known.round);
  steps : VisitsSome l.table g.G.Gate.becomes l.bound l._visit (l.fn.seat, l.fn.gate) (l.seat, l.gate);
}
