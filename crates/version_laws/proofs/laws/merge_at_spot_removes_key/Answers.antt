use Rattle.version_laws.proofs.Rise.Merging.{merge_at_spot}
use Rattle.version_laws.proofs.laws.merge_at_spot_removes_key.Goals as goal

pub returns : goal.returns
returns c = merge_at_spot
