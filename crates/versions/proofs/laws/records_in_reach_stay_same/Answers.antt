use Rattle.versions.proofs.Steps.{core_steady}
use Rattle.versions.proofs.laws.records_in_reach_stay_same.Goals as goal

pub returns : goal.returns
returns c = core_steady
