use Rattle.publish_laws.proofs.Cases.Merging.{merge}
use Rattle.publish_laws.proofs.laws.merge_may_be_published.Goals as goal

pub returns : goal.returns
returns c = merge
