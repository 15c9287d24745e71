-- The law a_get_returns_by_contracts_alone.
use Rattle.index_laws.proofs.laws.Shown.{a_get_is_traced}
use Rattle.index_laws.proofs.laws.a_get_returns_by_contracts_alone.Goals as goal

pub returns : goal.returns
returns c = a_get_is_traced
