use Rattle.publish_laws.proofs.Ending.{end_unlocks}
use Rattle.publish_laws.proofs.laws.end_may_unlock_node.Goals as goal

pub returns : goal.returns
returns c = end_unlocks
