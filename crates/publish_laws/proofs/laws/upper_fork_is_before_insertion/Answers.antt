use Rattle.publish_laws.proofs.Rises.{above_goes_on}
use Rattle.publish_laws.proofs.laws.upper_fork_is_before_insertion.Goals as goal

pub returns : goal.returns
returns c = above_goes_on
