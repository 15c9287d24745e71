-- The numbers are the same up to the first that differ.
use Rattle.std.proofs.Common.{below_more, arith}
use Rattle.rowex_replay_state.proofs.Changed.{same_number, other_number}
use Rattle.rowex_replay_state.proofs.changes.count_same_first_items.Goals as goal

pub loop-i-preserved : goal.loop-i-preserved
loop-i-preserved c =
    below_more _ _ c.loop-i.invariant
    (same_number c.args.before.now c.args.after.now c.loop-i.i c.index-before-i.result c.index-after-i.result (omega (arith, c.loop-i-test.true, c.min-common.ensures)) (omega (arith, c.loop-i-test.true, c.min-common.ensures)) c.if-before-i.false)

pub returns-then-before-i-clause-apart : goal.returns-then-before-i-clause-apart
returns-then-before-i-clause-apart c = other_number c.args.before.now c.args.after.now c.loop-i.i c.index-before-i.result c.index-after-i.result c.if-before-i.true
