use Rattle.version_laws.proofs.Statements.Upwards.{upper_goes_on}
use Rattle.version_laws.proofs.laws.first_fork_is_before_insertion.Goals as goal

pub returns : goal.returns
returns c = upper_goes_on
