use Rattle.rowex_core.proofs.Statements.Promises.{locks_apart}
use Rattle.rowex_core.proofs.laws.locks_stay_apart.Goals as goal

pub returns : goal.returns
returns c = locks_apart
