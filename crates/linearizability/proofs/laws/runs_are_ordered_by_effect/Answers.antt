use Rattle.linearizability.proofs.Configurations.Completing.{ordered_by_effect}
use Rattle.linearizability.proofs.laws.runs_are_ordered_by_effect.Goals as goal

pub returns : goal.returns
returns c = ordered_by_effect
