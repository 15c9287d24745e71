-- The law counts_add_up.
use Rattle.hot_index.proofs.KeyCounts.Counted.{counts_add_up}
use Rattle.hot_index.proofs.laws.counts_add_up.Goals as goal

pub returns : goal.returns
returns c = counts_add_up
