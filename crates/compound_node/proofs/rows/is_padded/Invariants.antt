-- The places so far are unused.
use Rattle.std.proofs.Common.{◌≡◌, ℕ, ◌<◌, ◌≤◌, get_or}
use Rattle.compound_node.proofs.rows.is_padded.Given as goal

abbrev pub invariant-loop-i : goal.invariant-loop-i
invariant-loop-i l = (k : ℕ) → l.count ≤ k → k < l.i → get_or l.padded_rows k 0 ≡ 4294967295
