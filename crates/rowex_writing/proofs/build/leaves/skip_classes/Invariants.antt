-- What was passed by ends at or below the last leaf record.
use Rattle.std.proofs.Common.{◌-◌, ◌≤◌}
use Rattle.rowex_writing.proofs.build.leaves.skip_classes.Given as goal

abbrev pub invariant-loop-from : goal.invariant-loop-from
invariant-loop-from l = (l.fn.first ≤ l.from) × (l.from ≤ l.layout.leaves)

abbrev pub decreases-loop-from : goal.decreases-loop-from
decreases-loop-from l = l.layout.leaves - l.from
