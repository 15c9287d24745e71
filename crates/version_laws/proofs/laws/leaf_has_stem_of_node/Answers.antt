use Rattle.version_laws.proofs.Ways.{way_ends}
use Rattle.version_laws.proofs.laws.leaf_has_stem_of_node.Goals as goal

pub returns : goal.returns
returns c = way_ends
