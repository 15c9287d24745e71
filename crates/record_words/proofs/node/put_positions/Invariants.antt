-- The words so far are those of the positions, and the others as before.
use Rattle.std.proofs.Common.{ℕ, ◌≡◌, ◌+◌, ◌<◌, ◌≤◌, ◌⊎◌, get_or}
use Rattle.record_words.specs.Packed.{position_word}
use Rattle.record_words.proofs.node.put_positions.Given as goal

abbrev pub invariant-loop-j : goal.invariant-loop-j
invariant-loop-j l = record {
  columns : (k : ℕ) → k < l.j → get_or l.words (1 + k) 0 ≡ position_word l.positions k;
  others : (k : ℕ) → (k < 1) ⊎ (9 ≤ k) → get_or l.words k 0 ≡ get_or l.fn.words k 0;
}
