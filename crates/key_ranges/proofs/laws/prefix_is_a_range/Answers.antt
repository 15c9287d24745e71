-- The law.
use Rattle.key_ranges.proofs.Ranges.{prefix_is_range}
use Rattle.key_ranges.proofs.laws.prefix_is_a_range.Goals as goal

pub returns : goal.returns
returns c = prefix_is_range
