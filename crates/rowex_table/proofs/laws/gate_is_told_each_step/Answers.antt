-- The law gate_is_told_each_step.
use Rattle.rowex_table.proofs.Runs.{gate_is_told_each_step}
use Rattle.rowex_table.proofs.laws.gate_is_told_each_step.Goals as goal

pub returns : goal.returns
returns g c = gate_is_told_each_step g.G.Gate.becomes
