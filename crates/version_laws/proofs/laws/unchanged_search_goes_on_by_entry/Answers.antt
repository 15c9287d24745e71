use Rattle.version_laws.proofs.Ways.{still_placed}
use Rattle.version_laws.proofs.laws.unchanged_search_goes_on_by_entry.Goals as goal

pub returns : goal.returns
returns c = still_placed
