use Rattle.rowex_core.proofs.Statements.Promises.{hindsight}
use Rattle.rowex_core.proofs.laws.hindsight.Goals as goal

pub returns : goal.returns
returns c = hindsight
