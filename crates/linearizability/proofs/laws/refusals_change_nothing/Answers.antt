use Rattle.linearizability.proofs.laws.Asking.{refused_change_nothing}
use Rattle.linearizability.proofs.laws.refusals_change_nothing.Goals as goal

pub returns : goal.returns
returns c = refused_change_nothing
