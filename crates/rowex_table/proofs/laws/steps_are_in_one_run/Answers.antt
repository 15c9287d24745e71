-- The law steps_are_in_one_run.
use Rattle.rowex_table.proofs.Runs.Linking.{steps_are_in_one_run}
use Rattle.rowex_table.proofs.laws.steps_are_in_one_run.Goals as goal

pub returns : goal.returns
returns g c = steps_are_in_one_run g.G.Gate.becomes
