-- One row more is joined.
use Rattle.compound_node.proofs.Common.{◌-◌, get_or, ap, ◌∙◌, arith, or_all_step}
use Rattle.std.specs.Prelude.{bit_or}
use Rattle.compound_node.proofs.rows.or_rows.Goals as goal

pub loop-i-preserved : goal.loop-i-preserved
loop-i-preserved c = ap (λ m. bit_or m (get_or c.args.rows.now (c.loop-i.i - 1) 0)) c.loop-i.invariant ∙ or_all_step c.args.rows.now c.loop-i.i (omega arith) (omega arith)
