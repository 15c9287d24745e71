-- The law ended_calls_respond_or_are_refused.
use Rattle.index_laws.proofs.Executions.{responses}
use Rattle.index_laws.proofs.laws.ended_calls_respond_or_are_refused.Goals as goal

pub returns : goal.returns
returns c = responses
