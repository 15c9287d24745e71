-- The law silent_steps_are_of_a_call.
use Rattle.index_laws.proofs.Joined.{silent_steps_end}
use Rattle.index_laws.proofs.laws.silent_steps_are_of_a_call.Goals as goal

pub returns : goal.returns
returns c = silent_steps_end
