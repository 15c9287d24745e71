-- The two masks part each lane at the column.
use Rattle.compound_node.proofs.rows.Spreading.{lanes_spread}
use Rattle.compound_node.proofs.rows.spread_lanes.Goals as goal

pub returns : goal.returns
returns c = lanes_spread c.args.rows c.args.column c.fits-rows.0 c.fits-rows.1 c.requires
