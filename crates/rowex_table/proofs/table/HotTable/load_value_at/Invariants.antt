-- The event of this step.
use Rattle.std.specs.Prelude.{Some}
use Rattle.rowex_table.specs.Runs.{silent}
use Rattle.rowex_table.proofs.table.HotTable.load_value_at.Given as goal

abbrev pub ghosts-load_word_at : goal.ghosts-load_word_at
ghosts-load_word_at g a = record { layout = Some a.self.now.layout; act = a.act; said = silent }
