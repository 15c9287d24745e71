use Rattle.rowex_core.proofs.Cores.{stays_lawful}
use Rattle.rowex_core.proofs.laws.steps_stay_lawful.Goals as goal

pub returns : goal.returns
returns c = stays_lawful
