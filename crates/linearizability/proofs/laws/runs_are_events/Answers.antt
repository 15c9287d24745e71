use Rattle.linearizability.proofs.Configurations.{runs_are_events}
use Rattle.linearizability.proofs.laws.runs_are_events.Goals as goal

pub returns : goal.returns
returns c = runs_are_events
