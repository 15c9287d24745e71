-- Why `complying_lanes` meets its contract.
use Rattle.partial_keys.proofs.mark_complying.Goals as goal
use Rattle.partial_keys.proofs.Rows.Lanes.{lanes_comply}

pub returns : goal.returns
returns c = lanes_comply c.args.lanes c.args.dense c.fits-lanes.0 c.ranges.dense.fits c.fits-lanes.1
