-- The law shown_passes_have_ended_in_one_run.
use Rattle.index_laws.proofs.Joined.{shown_have_ended}
use Rattle.index_laws.proofs.laws.shown_passes_have_ended_in_one_run.Goals as goal

pub returns : goal.returns
returns c = shown_have_ended
