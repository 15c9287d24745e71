use Rattle.publish_laws.proofs.Sure.{descent_finds}
use Rattle.publish_laws.proofs.laws.descent_from_lock_tells_way_below.Goals as goal

pub returns : goal.returns
returns c = descent_finds
