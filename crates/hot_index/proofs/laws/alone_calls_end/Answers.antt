-- The law alone_calls_end.
use Rattle.hot_index.proofs.Unhindered.{alone_calls_end}
use Rattle.hot_index.proofs.laws.alone_calls_end.Goals as goal

pub returns : goal.returns
returns g c = alone_calls_end g.G.Gate.becomes
