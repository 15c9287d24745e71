-- The deed is that of a way with so many nodes.
use Rattle.std.proofs.Common.{◌≡◌, ◌<◌, arith, length}
use Rattle.rowex_writing.proofs.plan.Plans.{taking_below, taking_none, taking_top}
use Rattle.rowex_writing.proofs.plan.plan_removal.Goals as goal

pub returns-then-len-eq0 : goal.returns-then-len-eq0
returns-then-len-eq0 c =
    let none : length c.args.way.now ≡ 0 = omega (arith, c.if-len-eq0.true) in rw (none, taking_none c.args.way.now none) c.change_plan.ensures

pub returns-then-len-eq1 : goal.returns-then-len-eq1
returns-then-len-eq1 c =
    let one : length c.args.way.now ≡ 1 = omega (arith, c.if-len-eq1.true) in rw (one, taking_top c.args.way.now one) c.change_plan-then-len-eq1.ensures

pub returns : goal.returns
returns c =
    let some : 1 < length c.args.way.now = omega (arith, c.if-len-eq0.false, c.if-len-eq1.false) in rw (taking_below c.args.way.now some) c.change_plan-2.ensures
