use Rattle.rowex_core.proofs.Statements.Promises.{opening_is_lawful}
use Rattle.rowex_core.proofs.laws.opening_is_lawful.Goals as goal

pub returns : goal.returns
returns c = opening_is_lawful
