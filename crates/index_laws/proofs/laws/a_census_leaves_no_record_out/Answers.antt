-- The law a_census_leaves_no_record_out.
use Rattle.index_laws.proofs.LeftOut.{count_leaves_none_out}
use Rattle.index_laws.proofs.laws.a_census_leaves_no_record_out.Goals as goal

pub returns : goal.returns
returns g c = count_leaves_none_out g.G.Gate.becomes
