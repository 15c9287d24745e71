-- Each lane is one of the sixteen.
use Rattle.partial_keys.proofs.Windows.{twice_at}
use Rattle.partial_keys.proofs.gathering.repeat_lanes.Goals as goal

pub returns : goal.returns
returns c i low = twice_at c.args.lanes c.fits-lanes.0 i low
