-- The law loaded_passes_have_ended_in_one_run.
use Rattle.index_laws.proofs.Joined.{loaded_have_ended}
use Rattle.index_laws.proofs.laws.loaded_passes_have_ended_in_one_run.Goals as goal

pub returns : goal.returns
returns c = loaded_have_ended
