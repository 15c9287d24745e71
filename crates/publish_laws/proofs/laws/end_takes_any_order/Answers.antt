use Rattle.publish_laws.proofs.Ending.{end_in_any_order}
use Rattle.publish_laws.proofs.laws.end_takes_any_order.Goals as goal

pub returns : goal.returns
returns c = end_in_any_order
