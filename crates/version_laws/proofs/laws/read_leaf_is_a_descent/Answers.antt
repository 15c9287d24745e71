use Rattle.version_laws.proofs.Ways.{way_of_leaf}
use Rattle.version_laws.proofs.laws.read_leaf_is_a_descent.Goals as goal

pub returns : goal.returns
returns c = way_of_leaf
