-- The keys agree on the bytes that were passed.
use Rattle.std.proofs.Common.{◌≡◌, take}
use Rattle.key_bits.proofs.mismatch_of_bytes.Given as goal

abbrev pub invariant-loop-i : goal.invariant-loop-i
invariant-loop-i l = take l.i l.xs ≡ take l.i l.ys
