-- The rows behind lose the bit and move down over the row.
use Rattle.compound_node.proofs.Lowering.{row_out}
use Rattle.compound_node.proofs.rows.remove_row.Goals as goal

pub returns : goal.returns
returns c =
    row_out c.args.rows c.fits-rows.0 c.args.count c.args.slot c.first_row_without-end.result c.bit_lost_without_row-bit.result c.requires.in_range c.requires.room c.requires.unused c.bit_lost_without_row-bit.ensures
    c.first_row_without-end.ensures.range.0 c.first_row_without-end.ensures.range.1 c.first_row_without-end.ensures.having c.first_row_without-end.ensures.stops c.lower_rows.result c.lower_rows.ensures.whole c.lower_rows.ensures.each
