use Rattle.version_laws.proofs.Scan.Loads.{loads_leaf}
use Rattle.version_laws.proofs.laws.loads_tell_leaf.Goals as goal

pub returns : goal.returns
returns c = loads_leaf
