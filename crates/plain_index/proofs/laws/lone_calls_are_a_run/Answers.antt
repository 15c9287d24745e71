-- The law is a lemma on the calls of one pass.
use Rattle.finite_map.proofs.Calls.Alone.{alone-run}
use Rattle.plain_index.proofs.laws.lone_calls_are_a_run.Goals as goal

pub returns : goal.returns
returns c = alone-run
