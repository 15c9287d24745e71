-- The records below the number have been counted.
use Rattle.std.specs.Prelude.{◌≡◌, ◌-◌, []}
use Rattle.record_words.specs.declared.records.Rec.TheVariants.{Leaf as a_leaf}
use Rattle.hot_index_calls.specs.Census.{CountsFrom}
use Rattle.hot_index_calls.proofs.census.count_leaves.Given as goal

abbrev pub invariant-loop-number : goal.invariant-loop-number
invariant-loop-number g l = record {
  pin : l.seat.known.pin ≡ l.fn.seat.known.pin;
  steps : CountsFrom l.table g.G.Gate.becomes a_leaf l.first l.number [] (l.behind - l.first - l.committed) l.counts (l.fn.seat, l.fn.gate) (l.seat, l.gate);
}
