-- Two masks part each lane round the column.
use Rattle.compound_node.proofs.rows.Closing.{lanes_closed}
use Rattle.compound_node.proofs.rows.close_lanes.Goals as goal

pub returns : goal.returns
returns c = lanes_closed c.args.rows c.args.column c.fits-rows.0 c.fits-rows.1 c.requires
