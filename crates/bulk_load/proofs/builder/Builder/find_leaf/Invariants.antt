-- No cursor before this one stands at a free record with room.
use Rattle.bulk_load.proofs.Common.{◌≡◌, ℕ, ◌<◌, get_or, Free, leaf_size, state_word, a_leaf}
use Rattle.bulk_load.specs.Tables.{leaf_class, state_in}
use Rattle.bulk_load.proofs.builder.Builder.find_leaf.Given as goal

abbrev pub invariant-loop-class : goal.invariant-loop-class
invariant-loop-class l = (i : ℕ) → i < l.class → get_or l.self.leaves i 0 < l.self.layout.leaves → leaf_class l.self.layout (get_or l.self.leaves i 0) ≡ i →
    state_in l.self.layout l.self.words.items (a_leaf (get_or l.self.leaves i 0)) ≡ state_word Free → leaf_size l.self.layout (get_or l.self.leaves i 0) < l.words
