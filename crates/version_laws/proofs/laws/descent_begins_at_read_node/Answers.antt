use Rattle.version_laws.proofs.Ways.{way_begins}
use Rattle.version_laws.proofs.laws.descent_begins_at_read_node.Goals as goal

pub returns : goal.returns
returns c = way_begins
