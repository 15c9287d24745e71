-- The law met_passes_are_of_one_run.
use Rattle.index_laws.proofs.Traced.{met_are_of_one_run}
use Rattle.index_laws.proofs.laws.met_passes_are_of_one_run.Goals as goal

pub returns : goal.returns
returns c = met_are_of_one_run
