-- The greatest height of the entries behind.
use Rattle.bulk_load.proofs.Common.{◌≡◌, drop, greatest_height}
use Rattle.bulk_load.specs.Tips.{entries_in_tips}
use Rattle.bulk_load.proofs.tips.height_over.Given as goal

abbrev pub invariant-loop-i : goal.invariant-loop-i
invariant-loop-i l = l.greatest ≡ greatest_height (entries_in_tips (drop l.i l.tips))
