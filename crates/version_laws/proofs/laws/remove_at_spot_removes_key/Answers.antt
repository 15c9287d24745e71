use Rattle.version_laws.proofs.Rise.Taking.{remove_at_spot}
use Rattle.version_laws.proofs.laws.remove_at_spot_removes_key.Goals as goal

pub returns : goal.returns
returns c = remove_at_spot
