-- One position more rises, or does not.
use Rattle.compound_node.proofs.Common.{arith, false≢true, drop_more}
use Rattle.compound_node.proofs.heads.are_columns.Goals as goal
use Rattle.compound_node.proofs.heads.are_columns.Goals.{then-position-least-via-then-position-least, then-position-least-via-else-position-least+then-position}

pub returns-then-position-least : goal.returns-then-position-least
returns-then-position-least c = (
  λ t. absurd (false≢true t),
  λ is.
      let left = rw (drop_more c.args.positions.now c.loop-position.position-index 0 c.loop-position-test.true) at (c.loop-position.invariant.rest is.rise is.below) in
      elim c.then-position-least.branch [
        | then-position-least-via-then-position-least w ↦ absurd (omega (arith, left.0.0, w.if-position-least.true))
        | then-position-least-via-else-position-least+then-position w ↦ absurd (omega (arith, left.1.0, w.if-position.true))
      ],
)

pub loop-position-preserved : goal.loop-position-preserved
loop-position-preserved c = record {
  rest = λ rise below.
      let left = rw (drop_more c.args.positions.now c.loop-position.position-index 0 c.loop-position-test.true) at (c.loop-position.invariant.rest rise below) in
      (left.0.1, left.1.1);
  whole = λ rise below. c.loop-position.invariant.whole
      (rw (drop_more c.args.positions.now c.loop-position.position-index 0 c.loop-position-test.true) (omega (arith, c.if-position-least.false), rise))
      (rw (drop_more c.args.positions.now c.loop-position.position-index 0 c.loop-position-test.true) (omega (arith, c.if-position.false, (c.type_inv.positions c.loop-position.position-index).fits), below));
}
