-- Fewer notes are left.
use Rattle.std.proofs.Common.{length}
use Rattle.plain_index.proofs.histories.+places_rise_from.Given as goal

abbrev pub decreases-places_rise_from : goal.decreases-places_rise_from
decreases-places_rise_from l = length l.notes.now
