use Rattle.version_laws.proofs.Ways.{still_grows}
use Rattle.version_laws.proofs.laws.unchanged_search_stays_known.Goals as goal

pub returns : goal.returns
returns c = still_grows
