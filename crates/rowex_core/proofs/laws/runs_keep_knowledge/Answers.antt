use Rattle.rowex_core.proofs.Runs.{runs_keep}
use Rattle.rowex_core.proofs.laws.runs_keep_knowledge.Goals as goal

pub returns : goal.returns
returns c = runs_keep
