-- Each further position is a column afterwards.
use Rattle.compound_node.proofs.Common.{◌∷◌, ap, arith, get_or, length, subst, sym, take, ◌∙◌, take_all, take_more}
use Rattle.compound_node.proofs.joining.Widening.{below_at, length-widened, widened_more, widened_none}
use Rattle.compound_node.specs.Joining.{IsWidened}
use Rattle.compound_node.proofs.joining.ensure_columns.Goals as goal

pub loop-other-init : goal.loop-other-init
loop-other-init c = record {
  widened = λ count. widened_more count _ c.args.columns.now c.args.rows.now c.args.columns.now c.args.rows.now c.args.position c.requires.small (λ off. omega (arith, c.requires.room))
      (widened_none count c.args.columns.now c.args.rows.now) c.ensure_column_of_lanes-lanes.new.columns c.ensure_column_of_lanes-lanes.result c.ensure_column_of_lanes-lanes.ensures.columns c.ensure_column_of_lanes-lanes.ensures.rows;
  few = omega (arith, length-widened c.args.position c.args.columns.now c.ensure_column_of_lanes-lanes.new.columns c.ensure_column_of_lanes-lanes.ensures.columns);
}

pub ensure_column_of_lanes-lanes-requires-in-loop-other-clause-small : goal.ensure_column_of_lanes-lanes-requires-in-loop-other-clause-small
ensure_column_of_lanes-lanes-requires-in-loop-other-clause-small c =
    below_at 65535 c.as_slice-other-items.result.now (rw c.as_slice-other-items.ensures.positions c.as_slice-other-items.ensures.columns.below) c.loop-other.other-index c.loop-other-test.true

pub loop-other-preserved : goal.loop-other-preserved
loop-other-preserved c =
    let next = get_or c.as_slice-other-items.result.now c.loop-other.other-index 0 in
    let step = c.ensure_column_of_lanes-lanes-in-loop-other in
    record {
      widened = λ count. subst (λ ps. IsWidened count ps c.args.columns.now c.args.rows.now step.new.columns step.result)
          (sym (ap (λ ps. c.args.position ∷ ps) (take_more c.as_slice-other-items.result.now c.loop-other.other-index 0 c.loop-other-test.true)))
          (widened_more count (c.args.position ∷ take c.loop-other.other-index c.as_slice-other-items.result.now) c.args.columns.now c.args.rows.now c.loop-other.columns c.loop-other.lanes next
          (below_at 65535 c.as_slice-other-items.result.now (rw c.as_slice-other-items.ensures.positions c.as_slice-other-items.ensures.columns.below) c.loop-other.other-index c.loop-other-test.true)
          (λ off. omega (arith, c.requires.room, c.loop-other.invariant.few, ap length c.as_slice-other-items.ensures.positions)) (c.loop-other.invariant.widened count)
          step.new.columns step.result step.ensures.columns step.ensures.rows);
      few = omega (arith, c.loop-other.invariant.few, length-widened next c.loop-other.columns step.new.columns step.ensures.columns);
    }

pub returns : goal.returns
returns c = λ count.
    let items = c.as_slice-other-items.result.now in
    let all = take_all c.loop-other.other-index items (omega (arith, c.loop-other-test.false)) ∙ c.as_slice-other-items.ensures.positions in
    subst (λ ps. IsWidened count (c.args.position ∷ ps) c.args.columns.now c.args.rows.now c.loop-other.columns c.loop-other.lanes) all (c.loop-other.invariant.widened count)
