use Rattle.version_laws.proofs.Statements.Leaves.{pair_at_spot}
use Rattle.version_laws.proofs.laws.pair_at_spot_adds_key.Goals as goal

pub returns : goal.returns
returns c = pair_at_spot
