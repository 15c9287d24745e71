-- One row more lost the column.
use Rattle.compound_node.proofs.Common.{ap, arith, get_or, set, ◌∙◌, get_or_default, map_over_more, closed_row}
use Rattle.compound_node.proofs.rows.close_column_of_rows.Goals as goal

pub loop-row-preserved : goal.loop-row-preserved
loop-row-preserved c =
    ap (set c.loop-row.rows c.loop-row.row-index) c.close_column.ensures
    ∙ map_over_more (closed_row c.args.column) c.args.rows.now c.loop-row.rows c.loop-row.row-index (get_or c.loop-row.rows c.loop-row.row-index 0) (omega arith) c.loop-row.invariant
    (get_or_default c.loop-row.rows c.loop-row.row-index 0 _ (omega arith))
