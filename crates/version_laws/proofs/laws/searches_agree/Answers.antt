use Rattle.version_laws.proofs.Ways.{found_same}
use Rattle.version_laws.proofs.laws.searches_agree.Goals as goal

pub returns : goal.returns
returns c = found_same
