-- The law given_is_out_of_reach.
use Rattle.epochs.proofs.Reach.{given_is_out_of_reach}
use Rattle.epochs.proofs.laws.given_is_out_of_reach.Goals as goal

pub returns : goal.returns
returns c = given_is_out_of_reach
