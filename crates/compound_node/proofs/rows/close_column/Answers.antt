-- Two masks part the row round the column.
use Rattle.compound_node.proofs.rows.Closing.{close_is}
use Rattle.compound_node.proofs.rows.close_column.Goals as goal

pub returns : goal.returns
returns c = close_is c.args.row c.args.column c.ranges.row.fits c.requires
