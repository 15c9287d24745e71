-- The law calls_stand_in_order_of_steps.
use Rattle.index_laws.proofs.Traced.{ended_before_loaded}
use Rattle.index_laws.proofs.laws.calls_stand_in_order_of_steps.Goals as goal

pub returns : goal.returns
returns c = ended_before_loaded
