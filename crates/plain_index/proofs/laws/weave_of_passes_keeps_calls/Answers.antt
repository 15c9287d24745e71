-- The laws are lemmas on the weave.
use Rattle.plain_index.proofs.Orders.{woven-in_order, woven-in_order_two}
use Rattle.plain_index.proofs.laws.weave_of_passes_keeps_calls.Goals as goal

pub returns : goal.returns
returns c = record { any = woven-in_order; two = woven-in_order_two }
