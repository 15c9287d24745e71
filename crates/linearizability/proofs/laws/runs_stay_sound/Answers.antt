use Rattle.linearizability.proofs.Configurations.{runs_stay_sound}
use Rattle.linearizability.proofs.laws.runs_stay_sound.Goals as goal

pub returns : goal.returns
returns c = runs_stay_sound
