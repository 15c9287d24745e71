-- All bytes behind those that are left are 255.
use Rattle.std.specs.Prelude.{◌≡◌, ℕ, ◌++◌, length, replicate}
use Rattle.key_ranges.proofs.next_key.Given as goal

abbrev pub invariant-loop-last : goal.invariant-loop-last
invariant-loop-last l = (n : ℕ) × (l.key ≡ l.rest ++ replicate n 255)

abbrev pub decreases-loop-last : goal.decreases-loop-last
decreases-loop-last l = length l.rest
