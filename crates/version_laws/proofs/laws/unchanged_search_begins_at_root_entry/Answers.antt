use Rattle.version_laws.proofs.Ways.{still_rooted}
use Rattle.version_laws.proofs.laws.unchanged_search_begins_at_root_entry.Goals as goal

pub returns : goal.returns
returns c = still_rooted
