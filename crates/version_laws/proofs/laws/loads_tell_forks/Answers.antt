use Rattle.version_laws.proofs.Scan.Loads.{loads_shape}
use Rattle.version_laws.proofs.laws.loads_tell_forks.Goals as goal

pub returns : goal.returns
returns c = loads_shape
