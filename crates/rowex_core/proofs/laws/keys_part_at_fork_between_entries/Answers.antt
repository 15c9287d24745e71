use Rattle.rowex_core.proofs.Statements.Promises.{parting}
use Rattle.rowex_core.proofs.laws.keys_part_at_fork_between_entries.Goals as goal

pub returns : goal.returns
returns c = parting
