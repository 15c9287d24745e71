-- The pins of the passes below the number have been loaded.
use Rattle.std.specs.Prelude.{◌≡◌}
use Rattle.epochs.specs.Rounds.{FindsBound, HasBound}
use Rattle.epochs.proofs.collection.find_bound.Given as goal

abbrev pub invariant-loop-pass : goal.invariant-loop-pass
invariant-loop-pass g l = record {
  pin : l.seat.known.pin ≡ l.fn.seat.known.pin;
  bound : HasBound l.pass l.bound l.seat.known;
  steps : FindsBound l.table g.G.Gate.becomes l.pass (l.fn.seat, l.fn.gate) (l.seat, l.gate);
}
