-- What fits of all pairs fits of those that are left.
use Rattle.std.proofs.Common.{◌≡◌, length}
use Rattle.packed_pairs.specs.Parts.{fitting}
use Rattle.packed_pairs.proofs.pairs.Pairs.fit.Given as goal

abbrev pub invariant-loop-self : goal.invariant-loop-self
invariant-loop-self l = fitting l.room l.self ≡ fitting l.room l.initial.self

abbrev pub decreases-loop-self : goal.decreases-loop-self
decreases-loop-self l = length l.self
