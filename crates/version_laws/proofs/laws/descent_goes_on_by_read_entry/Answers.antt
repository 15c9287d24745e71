use Rattle.version_laws.proofs.Ways.{way_goes_on}
use Rattle.version_laws.proofs.laws.descent_goes_on_by_read_entry.Goals as goal

pub returns : goal.returns
returns c = way_goes_on
