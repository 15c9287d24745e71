use Rattle.rowex_core.proofs.Sharing.Owning.{knows_all}
use Rattle.rowex_core.proofs.laws.pass_knows_all_it_has.Goals as goal

pub returns : goal.returns
returns c = knows_all
