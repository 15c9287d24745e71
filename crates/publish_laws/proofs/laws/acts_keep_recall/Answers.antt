use Rattle.publish_laws.proofs.Acts.{act_goes_on}
use Rattle.publish_laws.proofs.laws.acts_keep_recall.Goals as goal

pub returns : goal.returns
returns c = act_goes_on
