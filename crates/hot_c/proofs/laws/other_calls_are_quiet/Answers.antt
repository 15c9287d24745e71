-- The law other_calls_are_quiet.
use Rattle.hot_c.proofs.Histories.Quiet.{quiet_calls}
use Rattle.hot_c.proofs.laws.other_calls_are_quiet.Goals as goal

pub returns : goal.returns
returns c = quiet_calls
