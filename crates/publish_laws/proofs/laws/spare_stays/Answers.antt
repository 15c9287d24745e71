use Rattle.publish_laws.proofs.Lone.{runs_spare}
use Rattle.publish_laws.proofs.laws.spare_stays.Goals as goal

pub returns : goal.returns
returns g c = λ table acts a b plain run. runs_spare table g.G.Gate.becomes acts a b plain run
