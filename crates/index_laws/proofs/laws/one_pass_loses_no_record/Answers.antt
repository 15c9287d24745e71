-- The law one_pass_loses_no_record.
use Rattle.index_laws.proofs.Resting.{one_pass_loses_none}
use Rattle.index_laws.proofs.laws.one_pass_loses_no_record.Goals as goal

pub returns : goal.returns
returns g c = one_pass_loses_none g.G.Gate.becomes
