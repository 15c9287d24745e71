-- The law one_leaf_less_removes_its_key.
use Rattle.tries.proofs.Content.Maps.{taking_removes}
use Rattle.tries.proofs.laws.one_leaf_less_removes_its_key.Goals as goal

pub returns : goal.returns
returns c = taking_removes
