-- The last lane is that of no position.
use Rattle.partial_keys.proofs.Windows.{lanes_joined}
use Rattle.partial_keys.proofs.gathering.lanes_of.Goals as goal

pub returns : goal.returns
returns c = lanes_joined c.args.positions.now c.told-positions
