use Rattle.publish_laws.proofs.Cases.{remove_the_last}
use Rattle.publish_laws.proofs.laws.last_removal_may_be_published.Goals as goal

pub returns : goal.returns
returns c = remove_the_last
