-- The law a_get_returns.
use Rattle.index_laws.proofs.laws.Shown.{a_get_returns}
use Rattle.index_laws.proofs.laws.a_get_returns.Goals as goal

pub returns : goal.returns
returns c = a_get_returns
