use Rattle.linearizability.proofs.laws.Asking.{answered_calls_change_as_asked}
use Rattle.linearizability.proofs.laws.answered_calls_change_as_asked.Goals as goal

pub returns : goal.returns
returns c = answered_calls_change_as_asked
