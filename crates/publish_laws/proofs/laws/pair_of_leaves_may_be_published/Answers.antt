use Rattle.publish_laws.proofs.Insertions.Inserting.{pair}
use Rattle.publish_laws.proofs.laws.pair_of_leaves_may_be_published.Goals as goal

pub returns : goal.returns
returns c = pair
