-- The law uncommitted_records_are_free.
use Rattle.rowex_table.proofs.Committed.{uncommitted_are_free}
use Rattle.rowex_table.proofs.laws.uncommitted_records_are_free.Goals as goal

pub returns : goal.returns
returns c = uncommitted_are_free
