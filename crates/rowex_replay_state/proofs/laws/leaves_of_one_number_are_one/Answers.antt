use Rattle.rowex_replay_state.proofs.laws.Leaves.{leaves_are_one}
use Rattle.rowex_replay_state.proofs.laws.leaves_of_one_number_are_one.Goals as goal

pub returns : goal.returns
returns c = leaves_are_one
