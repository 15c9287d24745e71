use Rattle.rowex_core.proofs.Statements.Promises.{publish_is_a_step}
use Rattle.rowex_core.proofs.laws.publish_is_map_step.Goals as goal

pub returns : goal.returns
returns c = publish_is_a_step
