-- The law a_root_load_has_its_moment.
use Rattle.index_laws.proofs.Traced.Loading.{loads_are_moments}
use Rattle.index_laws.proofs.laws.a_root_load_has_its_moment.Goals as goal

pub returns : goal.returns
returns c = loads_are_moments
