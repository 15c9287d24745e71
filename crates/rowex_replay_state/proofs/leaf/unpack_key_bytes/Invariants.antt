-- The words so far are those of the bytes, and the others 0.
use Rattle.rowex_replay_state.proofs.Common.{ℕ, ◌≡◌, ◌+◌, ◌<◌, ◌≤◌, length, slice_index, key_word}
use Rattle.rowex_replay_state.proofs.leaf.unpack_key_bytes.Given as goal

abbrev pub invariant-loop-j : goal.invariant-loop-j
invariant-loop-j l =
    (length l.bytes ≡ 240) × ((k : ℕ) → k < l.j → key_word l.bytes k ≡ slice_index l.words (2 + k)) × ((k : ℕ) → l.j ≤ k → key_word l.bytes k ≡ 0)
