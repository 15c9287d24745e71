use Rattle.rowex_core.proofs.Statements.Promises.{entries_in_reach}
use Rattle.rowex_core.proofs.laws.entries_in_reach_are_of_last_version.Goals as goal

pub returns : goal.returns
returns c = entries_in_reach
