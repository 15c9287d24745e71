use Rattle.versions.proofs.Steps.{core_reach}
use Rattle.versions.proofs.laws.reach_is_kept.Goals as goal

pub returns : goal.returns
returns c = core_reach
