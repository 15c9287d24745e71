use Rattle.linearizability.proofs.Configurations.Completing.{linearizable}
use Rattle.linearizability.proofs.laws.runs_are_linearizable.Goals as goal

pub returns : goal.returns
returns c = linearizable
