use Rattle.versions.proofs.State.{hindsight}
use Rattle.versions.proofs.laws.hindsight.Goals as goal

pub returns : goal.returns
returns c = hindsight
