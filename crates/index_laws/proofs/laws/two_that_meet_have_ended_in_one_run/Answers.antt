-- The law two_that_meet_have_ended_in_one_run.
use Rattle.index_laws.proofs.Joined.{two_that_meet_have_ended}
use Rattle.index_laws.proofs.laws.two_that_meet_have_ended_in_one_run.Goals as goal

pub returns : goal.returns
returns c = two_that_meet_have_ended
