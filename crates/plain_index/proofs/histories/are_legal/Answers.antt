-- Both sides of the test are the definition's.
use Rattle.plain_index.proofs.Common.{rules}
use Rattle.plain_index.proofs.histories.are_legal.Goals as goal

pub returns-then-places_rise_from : goal.returns-then-places_rise_from
returns-then-places_rise_from c = search rules

pub returns-else-places_rise_from : goal.returns-else-places_rise_from
returns-else-places_rise_from c = search rules
