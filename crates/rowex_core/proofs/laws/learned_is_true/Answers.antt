use Rattle.rowex_core.proofs.Knowing.{learns}
use Rattle.rowex_core.proofs.laws.learned_is_true.Goals as goal

pub returns : goal.returns
returns c = learns
