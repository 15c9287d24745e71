-- The law is a lemma on the weave.
use Rattle.plain_index.proofs.Orders.InOrder.{weave-in_order}
use Rattle.plain_index.proofs.laws.weave_keeps_calls.Goals as goal

pub returns : goal.returns
returns c = weave-in_order
