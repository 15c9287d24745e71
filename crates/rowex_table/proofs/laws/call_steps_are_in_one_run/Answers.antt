-- The law call_steps_are_in_one_run.
use Rattle.rowex_table.proofs.Runs.Linking.{call_steps_are_in_one_run}
use Rattle.rowex_table.proofs.laws.call_steps_are_in_one_run.Goals as goal

pub returns : goal.returns
returns g c = call_steps_are_in_one_run g.G.Gate.becomes
