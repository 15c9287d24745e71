-- The digits that are counted, and those that are left.
use Rattle.hot_scripts.proofs.Common.{◌≡◌, ◌+◌, length, decimal}
use Rattle.hot_scripts.proofs.digits.count_digits.Given as goal

abbrev pub invariant-loop-left : goal.invariant-loop-left
invariant-loop-left l = l.count + length (decimal l.left) ≡ length (decimal l.fn.number)

abbrev pub decreases-loop-left : goal.decreases-loop-left
decreases-loop-left l = l.left
