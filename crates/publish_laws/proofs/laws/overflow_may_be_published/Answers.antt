use Rattle.publish_laws.proofs.Insertions.{overflow}
use Rattle.publish_laws.proofs.laws.overflow_may_be_published.Goals as goal

pub returns : goal.returns
returns c = overflow
