use Rattle.rowex_core.proofs.Knowing.Keeping.{keeps}
use Rattle.rowex_core.proofs.laws.steps_keep_what_others_know.Goals as goal

pub returns : goal.returns
returns c = keeps
