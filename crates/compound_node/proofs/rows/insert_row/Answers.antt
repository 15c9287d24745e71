-- The lanes from the place on move up, and the row takes the place.
use Rattle.compound_node.proofs.rows.Shifting.{row_put}
use Rattle.compound_node.proofs.rows.insert_row.Goals as goal

pub returns : goal.returns
returns c = row_put c.args.rows c.fits-rows.0 c.args.slot c.args.row c.requires
