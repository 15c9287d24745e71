use Rattle.version_laws.proofs.Scan.Loads.{loads_root}
use Rattle.version_laws.proofs.laws.load_tells_root.Goals as goal

pub returns : goal.returns
returns c = loads_root
