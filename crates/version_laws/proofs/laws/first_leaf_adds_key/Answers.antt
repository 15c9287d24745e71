use Rattle.version_laws.proofs.Statements.Leaves.{first_root}
use Rattle.version_laws.proofs.laws.first_leaf_adds_key.Goals as goal

pub returns : goal.returns
returns c = first_root
