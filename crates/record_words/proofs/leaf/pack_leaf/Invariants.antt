-- The words so far are the leaf's, and those behind them are 0.
use Rattle.std.proofs.Common.{ℕ, ◌≡◌, ◌+◌, ◌<◌, ◌≤◌, length, slice_index}
use Rattle.record_words.specs.Leaf.{key_word}
use Rattle.record_words.proofs.leaf.pack_leaf.Given as goal

abbrev pub invariant-loop-j : goal.invariant-loop-j
invariant-loop-j l = (length l.words ≡ 32) × (slice_index l.words 0 ≡ l.value) × (slice_index l.words 1 ≡ l.length) × ((k : ℕ) → k < l.j → slice_index l.words (2 + k) ≡ key_word l.key k) × ((k : ℕ) → l.j ≤ k → k < 30 → slice_index l.words (2 + k) ≡ 0)
