-- The law allowed_steps_are_legal.
use Rattle.index_laws.proofs.Steps.{steps_follow}
use Rattle.index_laws.proofs.laws.allowed_steps_are_legal.Goals as goal

pub returns : goal.returns
returns c = steps_follow
