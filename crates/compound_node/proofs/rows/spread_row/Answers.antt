-- The two masks part the row at the column.
use Rattle.compound_node.proofs.rows.Spreading.{spread_is}
use Rattle.compound_node.proofs.rows.spread_row.Goals as goal

pub returns : goal.returns
returns c = spread_is c.args.row c.args.column c.ranges.row.fits c.requires
