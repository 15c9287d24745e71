use Rattle.rowex_core.proofs.Runs.{runs_stay_lawful}
use Rattle.rowex_core.proofs.laws.runs_stay_lawful.Goals as goal

pub returns : goal.returns
returns c = runs_stay_lawful
