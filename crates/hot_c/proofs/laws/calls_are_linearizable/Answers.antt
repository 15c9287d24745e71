-- The law calls_are_linearizable.
use Rattle.hot_c.proofs.Histories.{calls_are_linearizable}
use Rattle.hot_c.proofs.laws.calls_are_linearizable.Goals as goal

pub returns : goal.returns
returns c = calls_are_linearizable
