use Rattle.publish_laws.proofs.Cases.Merging.{beside_may_lock}
use Rattle.publish_laws.proofs.laws.lock_holder_may_lock_sibling.Goals as goal

pub returns : goal.returns
returns c = beside_may_lock
