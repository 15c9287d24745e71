-- Fewer notes or changes are left.
use Rattle.std.proofs.Common.{length, ◌+◌}
use Rattle.plain_index.proofs.histories.+tell_own_changes.Given as goal

abbrev pub decreases-tell_own_changes : goal.decreases-tell_own_changes
decreases-tell_own_changes l = length l.front.now + length l.notes.now
