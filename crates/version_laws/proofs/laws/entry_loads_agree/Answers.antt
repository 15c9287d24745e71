use Rattle.version_laws.proofs.Ways.{placed_same}
use Rattle.version_laws.proofs.laws.entry_loads_agree.Goals as goal

pub returns : goal.returns
returns c = placed_same
