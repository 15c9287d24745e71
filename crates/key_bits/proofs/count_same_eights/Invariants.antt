-- Both begin with the same eights, as many as were passed.
use Rattle.std.proofs.Common.{◌≡◌, ◌*◌, take}
use Rattle.key_bits.proofs.count_same_eights.Given as goal

abbrev pub invariant-loop-j : goal.invariant-loop-j
invariant-loop-j l = take (8 * l.j) l.xs ≡ take (8 * l.j) l.ys
