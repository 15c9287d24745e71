use Rattle.publish_laws.proofs.Insertions.{stays_as_it_is}
use Rattle.publish_laws.proofs.laws.overflow_may_keep_node_whole.Goals as goal

pub returns : goal.returns
returns c = stays_as_it_is
