-- The law untaken_records_are_free.
use Rattle.rowex_table.proofs.Committed.{never_taken}
use Rattle.rowex_table.proofs.laws.untaken_records_are_free.Goals as goal

pub returns : goal.returns
returns c = never_taken
