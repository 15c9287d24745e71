-- The law a_root_load_shows_earlier_changes.
use Rattle.index_laws.proofs.Traced.{loads_see_all}
use Rattle.index_laws.proofs.laws.a_root_load_shows_earlier_changes.Goals as goal

pub returns : goal.returns
returns c = loads_see_all
