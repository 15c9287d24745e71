use Rattle.version_laws.proofs.Ways.{rooted_same}
use Rattle.version_laws.proofs.laws.root_loads_agree.Goals as goal

pub returns : goal.returns
returns c = rooted_same
