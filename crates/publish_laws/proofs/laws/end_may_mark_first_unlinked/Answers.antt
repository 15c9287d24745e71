use Rattle.publish_laws.proofs.Ending.{end_marks}
use Rattle.publish_laws.proofs.laws.end_may_mark_first_unlinked.Goals as goal

pub returns : goal.returns
returns c = end_marks
