-- The key's words so far stand there, and all others are as before.
use Rattle.bulk_load.proofs.Common.{◌≡◌, ℕ, ◌⊎◌, ◌+◌, ◌<◌, ◌≤◌, get_or, length, key_word}
use Rattle.bulk_load.proofs.records.put_key.Given as goal

abbrev pub invariant-loop-j : goal.invariant-loop-j
invariant-loop-j l = record {
  size : length l.words ≡ length l.fn.words;
  key : (i : ℕ) → i < l.j → get_or l.words (l.start + i) 0 ≡ key_word l.key i;
  others : (k : ℕ) → (k < l.start) ⊎ (l.start + l.j ≤ k) → get_or l.words k 0 ≡ get_or l.fn.words k 0;
}
