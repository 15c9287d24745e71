use Rattle.versions.proofs.Steps.{opening_core}
use Rattle.versions.proofs.laws.opening_is_lawful.Goals as goal

pub returns : goal.returns
returns c = opening_core
