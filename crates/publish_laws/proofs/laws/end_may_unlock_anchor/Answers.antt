use Rattle.publish_laws.proofs.Ending.{end_unlocks_anchor}
use Rattle.publish_laws.proofs.laws.end_may_unlock_anchor.Goals as goal

pub returns : goal.returns
returns c = end_unlocks_anchor
