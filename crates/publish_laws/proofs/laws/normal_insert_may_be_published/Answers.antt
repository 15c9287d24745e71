use Rattle.publish_laws.proofs.Insertions.{normal_insert}
use Rattle.publish_laws.proofs.laws.normal_insert_may_be_published.Goals as goal

pub returns : goal.returns
returns c = normal_insert
