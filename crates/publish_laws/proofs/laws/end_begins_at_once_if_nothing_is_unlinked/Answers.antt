use Rattle.publish_laws.proofs.Ending.{ends_at_once}
use Rattle.publish_laws.proofs.laws.end_begins_at_once_if_nothing_is_unlinked.Goals as goal

pub returns : goal.returns
returns c = ends_at_once
