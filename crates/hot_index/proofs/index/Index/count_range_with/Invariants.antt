-- A count adds no note.
use Rattle.rowex_table.specs.Runs.{silent}
use Rattle.hot_index.proofs.index.Index.count_range_with.Given as goal

abbrev pub ghost-unpin : goal.ghost-unpin
ghost-unpin g a = silent
