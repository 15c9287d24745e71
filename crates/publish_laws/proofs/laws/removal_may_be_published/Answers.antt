use Rattle.publish_laws.proofs.Cases.{remove}
use Rattle.publish_laws.proofs.laws.removal_may_be_published.Goals as goal

pub returns : goal.returns
returns c = remove
