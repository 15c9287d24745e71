-- The records below the number have been counted.
use Rattle.std.specs.Prelude.{◌≡◌, ◌-◌, [], ◌∷◌}
use Rattle.record_words.specs.State.{HasStateWord, state_word}
use Rattle.record_words.specs.declared.records.Rec.TheVariants.{Node as a_node}
use Rattle.record_words.specs.declared.state.Tag.{Tag}
use Rattle.hot_index_calls.specs.Census.{CountsFrom}
use Rattle.hot_index_calls.proofs.census.count_nodes.Given as goal

abbrev pub invariant-loop-number : goal.invariant-loop-number
invariant-loop-number g l = record {
  pin : l.seat.known.pin ≡ l.fn.seat.known.pin;
  steps : (tag : Tag) → HasStateWord tag → state_word tag ≡ l.first →
      CountsFrom l.table g.G.Gate.becomes a_node 1 l.number (tag ∷ []) (l.nodes - l.behind) l.counts (l.fn.seat, l.fn.gate) (l.seat, l.gate);
}
