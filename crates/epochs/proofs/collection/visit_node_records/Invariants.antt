-- The committed records below the number have been visited.
use Rattle.std.specs.Prelude.{◌≡◌, ◌≤◌}
use Rattle.record_words.specs.declared.records.Rec.TheVariants.{Node as a_node}
use Rattle.epochs.specs.Rounds.{VisitsFirst, count_of_kind}
use Rattle.epochs.proofs.collection.visit_node_records.Given as goal

abbrev pub invariant-loop-number : goal.invariant-loop-number
invariant-loop-number g l = record {
  same : (l.seat.known.pin ≡ l.fn.seat.known.pin) × (l.seat.known.round ≡ l.fn.seat.known.round);
  few : l.tally.given ≤ l.number;
  steps : VisitsFirst l.table g.G.Gate.becomes (count_of_kind l.uncommitted) l.bound a_node l.number l.tally.given (l.fn.seat, l.fn.gate) (l.seat, l.gate);
}
