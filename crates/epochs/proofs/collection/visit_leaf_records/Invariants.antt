-- The committed records of the classes below the number have been visited.
use Rattle.std.specs.Prelude.{◌≡◌, ◌≤◌, ◌-◌}
use Rattle.record_words.specs.declared.records.Rec.TheVariants.{Leaf as a_leaf}
use Rattle.epochs.specs.Rounds.{VisitsFirst, count_of_kind}
use Rattle.epochs.proofs.collection.visit_leaf_records.Given as goal

abbrev pub invariant-loop-first : goal.invariant-loop-first
invariant-loop-first g l = record {
  same : (l.seat.known.pin ≡ l.fn.seat.known.pin) × (l.seat.known.round ≡ l.fn.seat.known.round);
  low : l.first ≤ l.table.layout.leaves;
  few : l.tally.given ≤ l.first;
  steps : VisitsFirst l.table g.G.Gate.becomes (count_of_kind l.uncommitted) l.bound a_leaf l.first l.tally.given (l.fn.seat, l.fn.gate) (l.seat, l.gate);
}

abbrev pub decreases-loop-first : goal.decreases-loop-first
decreases-loop-first g l = l.layout.leaves - l.first
