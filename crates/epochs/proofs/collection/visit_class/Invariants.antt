-- The records of the class below the number have been visited, and the next begins where the last one ends.
use Rattle.std.specs.Prelude.{◌≡◌, ◌<◌, ◌≤◌, ℕ}
use Rattle.epochs.proofs.Common.{leaf_start, a_leaf, IsSeatOf}
use Rattle.rowex_table.specs.Committed.{IsCommitted}
use Rattle.epochs.specs.Rounds.{GoesOnVisiting}
use Rattle.epochs.proofs.collection.visit_class.Given as goal

abbrev pub invariant-loop-number : goal.invariant-loop-number
invariant-loop-number g l = record {
  own : IsSeatOf l.table l.seat;
  same : (l.seat.known.pin ≡ l.fn.seat.known.pin) × (l.seat.known.round ≡ l.fn.seat.known.round);
  start : l.start ≡ leaf_start l.table.layout l.number;
  few : l.tally.given ≤ l.number;
  steps : (uncommitted : ℕ → ℕ) → ((q : ℕ) → l.fn.numbers.start ≤ q → q < l.number → IsCommitted l.table.layout uncommitted (a_leaf q)) →
      GoesOnVisiting l.table g.G.Gate.becomes uncommitted l.bound a_leaf (l.fn.numbers.start, l.fn.before.given) (l.number, l.tally.given) (l.fn.seat, l.fn.gate) (l.seat, l.gate);
}
