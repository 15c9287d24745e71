use Rattle.version_laws.proofs.Ways.{one_body}
use Rattle.version_laws.proofs.laws.node_met_twice_is_equal.Goals as goal

pub returns : goal.returns
returns c = one_body
