-- The law runs_keep_reach.
use Rattle.epochs.proofs.Reach.{runs_keep_reach}
use Rattle.epochs.proofs.laws.runs_keep_reach.Goals as goal

pub returns : goal.returns
returns g c = runs_keep_reach g.G.Gate.becomes
