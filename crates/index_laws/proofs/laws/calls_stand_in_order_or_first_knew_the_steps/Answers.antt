-- The law calls_stand_in_order_or_first_knew_the_steps.
use Rattle.index_laws.proofs.Traced.{ended_or_shown_before}
use Rattle.index_laws.proofs.laws.calls_stand_in_order_or_first_knew_the_steps.Goals as goal

pub returns : goal.returns
returns c = ended_or_shown_before
