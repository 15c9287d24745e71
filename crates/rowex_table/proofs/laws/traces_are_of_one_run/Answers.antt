-- The law traces_are_of_one_run.
use Rattle.rowex_table.proofs.Runs.Linking.{traces_are_of_one_run}
use Rattle.rowex_table.proofs.laws.traces_are_of_one_run.Goals as goal

pub returns : goal.returns
returns c = traces_are_of_one_run
