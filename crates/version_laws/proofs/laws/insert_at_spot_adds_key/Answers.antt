use Rattle.version_laws.proofs.Rise.{insert_at_spot}
use Rattle.version_laws.proofs.laws.insert_at_spot_adds_key.Goals as goal

pub returns : goal.returns
returns c = insert_at_spot
