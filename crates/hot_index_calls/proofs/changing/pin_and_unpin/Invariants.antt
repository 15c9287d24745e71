-- No note comes with the step.
use Rattle.rowex_table.specs.Runs.{silent}
use Rattle.hot_index_calls.proofs.changing.pin_and_unpin.Given as goal

abbrev pub ghost-unpin : goal.ghost-unpin
ghost-unpin g a = silent
