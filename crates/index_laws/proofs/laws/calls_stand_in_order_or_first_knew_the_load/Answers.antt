-- The law calls_stand_in_order_or_first_knew_the_load.
use Rattle.index_laws.proofs.Traced.{ended_or_loaded_before}
use Rattle.index_laws.proofs.laws.calls_stand_in_order_or_first_knew_the_load.Goals as goal

pub returns : goal.returns
returns c = ended_or_loaded_before
