-- One row more is spread.
use Rattle.compound_node.proofs.Common.{ap, arith, get_or, set, ◌∙◌, get_or_default, map_over_more, spread_row}
use Rattle.compound_node.proofs.rows.spread_rows.Goals as goal

pub loop-i-preserved : goal.loop-i-preserved
loop-i-preserved c =
    ap (set c.loop-i.rows c.loop-i.i) c.spread_row.ensures
    ∙ map_over_more (spread_row c.args.column) c.args.rows.now c.loop-i.rows c.loop-i.i (get_or c.loop-i.rows c.loop-i.i 0) (omega arith) c.loop-i.invariant
    (get_or_default c.loop-i.rows c.loop-i.i 0 _ (omega arith))
