-- The event of this step.
use Rattle.std.specs.Prelude.{Some}
use Rattle.rowex_table.specs.Runs.{silent}
use Rattle.rowex_table.proofs.table.HotTable.advance.Given as goal

abbrev pub ghosts-compare_exchange_at : goal.ghosts-compare_exchange_at
ghosts-compare_exchange_at g a = record { layout = Some a.self.now.layout; act = a.act; said = silent }
