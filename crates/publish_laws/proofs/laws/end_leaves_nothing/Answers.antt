use Rattle.publish_laws.proofs.Ending.{end_rests}
use Rattle.publish_laws.proofs.laws.end_leaves_nothing.Goals as goal

pub returns : goal.returns
returns c = end_rests
