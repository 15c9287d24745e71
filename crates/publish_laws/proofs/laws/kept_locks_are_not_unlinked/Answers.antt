use Rattle.publish_laws.proofs.Ending.{kept_apart}
use Rattle.publish_laws.proofs.laws.kept_locks_are_not_unlinked.Goals as goal

pub returns : goal.returns
returns c = kept_apart
