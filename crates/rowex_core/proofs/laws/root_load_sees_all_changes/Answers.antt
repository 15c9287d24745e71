use Rattle.rowex_core.proofs.Knowing.Keeping.{sees_all}
use Rattle.rowex_core.proofs.laws.root_load_sees_all_changes.Goals as goal

pub returns : goal.returns
returns c = sees_all
