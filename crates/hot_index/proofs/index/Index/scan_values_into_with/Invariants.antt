-- A scan adds no note.
use Rattle.rowex_table.specs.Runs.{silent}
use Rattle.hot_index.proofs.index.Index.scan_values_into_with.Given as goal

abbrev pub ghost-unpin : goal.ghost-unpin
ghost-unpin g a = silent
