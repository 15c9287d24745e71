use Rattle.version_laws.proofs.Scan.Loads.{loads_place}
use Rattle.version_laws.proofs.laws.load_tells_entry.Goals as goal

pub returns : goal.returns
returns c = loads_place
