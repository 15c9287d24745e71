use Rattle.version_laws.proofs.Ways.{way_is_below}
use Rattle.version_laws.proofs.laws.descent_tells_way_below.Goals as goal

pub returns : goal.returns
returns c = way_is_below
