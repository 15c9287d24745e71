-- The entries so far.
use Rattle.std.proofs.Common.{◌≡◌, take}
use Rattle.bulk_load.specs.Tips.{entries_in_tips}
use Rattle.bulk_load.proofs.tips.list_entries.Given as goal

abbrev pub invariant-loop-i : goal.invariant-loop-i
invariant-loop-i l = l.entries.items ≡ entries_in_tips (take l.i l.tips)
