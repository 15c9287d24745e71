use Rattle.version_laws.proofs.Rise.Taking.{remove_only}
use Rattle.version_laws.proofs.laws.last_removal_leaves_index_empty.Goals as goal

pub returns : goal.returns
returns c = remove_only
