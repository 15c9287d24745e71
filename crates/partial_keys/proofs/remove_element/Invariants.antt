-- The elements so far have moved.
use Rattle.std.proofs.Common.{◌≡◌}
use Rattle.partial_keys.proofs.Taking.{left_to}
use Rattle.partial_keys.proofs.remove_element.Given as goal

abbrev pub invariant-loop-i : goal.invariant-loop-i
invariant-loop-i g l = l.items ≡ left_to l.initial.items l.at l.i
