use Rattle.versions.proofs.Steps.{step_lawful}
use Rattle.versions.proofs.laws.steps_stay_lawful.Goals as goal

pub returns : goal.returns
returns c = step_lawful
