-- The law contracts_make_an_execution.
use Rattle.index_laws.proofs.Traced.{traced_are_executions}
use Rattle.index_laws.proofs.laws.contracts_make_an_execution.Goals as goal

pub returns : goal.returns
returns c = traced_are_executions
