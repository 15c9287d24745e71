-- The law exchanged_leaf_replaces_value.
use Rattle.tries.proofs.Content.Maps.{exchange_replaces}
use Rattle.tries.proofs.laws.exchanged_leaf_replaces_value.Goals as goal

pub returns : goal.returns
returns c = exchange_replaces
