use Rattle.publish_laws.proofs.Insertions.{pull_up}
use Rattle.publish_laws.proofs.laws.pull_up_may_be_published.Goals as goal

pub returns : goal.returns
returns c = pull_up
