-- The law calls_of_one_run_are_an_execution.
use Rattle.index_laws.proofs.Joined.{one_run_is_an_execution}
use Rattle.index_laws.proofs.laws.calls_of_one_run_are_an_execution.Goals as goal

pub returns : goal.returns
returns c = one_run_is_an_execution
