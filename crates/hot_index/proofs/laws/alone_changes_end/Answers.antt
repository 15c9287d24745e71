-- The law alone_changes_end.
use Rattle.hot_index.proofs.Enough.{alone_changes_end}
use Rattle.hot_index.proofs.laws.alone_changes_end.Goals as goal

pub returns : goal.returns
returns g c = alone_changes_end g.G.Gate.becomes
