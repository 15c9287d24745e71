-- The law allowed_steps_are_steps_of_the_run.
use Rattle.index_laws.proofs.Steps.{steps_are_moments}
use Rattle.index_laws.proofs.laws.allowed_steps_are_steps_of_the_run.Goals as goal

pub returns : goal.returns
returns c = steps_are_moments
