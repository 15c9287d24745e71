use Rattle.publish_laws.proofs.Ending.{settles}
use Rattle.publish_laws.proofs.laws.finished_end_leaves_nothing.Goals as goal

pub returns : goal.returns
returns c = settles
