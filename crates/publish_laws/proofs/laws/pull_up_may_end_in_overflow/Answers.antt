use Rattle.publish_laws.proofs.Insertions.{pull_up_overflow}
use Rattle.publish_laws.proofs.laws.pull_up_may_end_in_overflow.Goals as goal

pub returns : goal.returns
returns c = pull_up_overflow
