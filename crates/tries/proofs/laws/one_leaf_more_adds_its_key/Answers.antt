-- The law one_leaf_more_adds_its_key.
use Rattle.tries.proofs.Content.Maps.{adding_inserts}
use Rattle.tries.proofs.laws.one_leaf_more_adds_its_key.Goals as goal

pub returns : goal.returns
returns c = adding_inserts
