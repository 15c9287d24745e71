use Rattle.versions.proofs.State.{state_parting}
use Rattle.versions.proofs.laws.keys_part_at_fork_between_slots.Goals as goal

pub returns : goal.returns
returns c = state_parting
