-- The section is left, or was not open.
use Rattle.hot_c.proofs.sectioning.Sectioning.{left, not_left}
use Rattle.hot_c.proofs.sectioning.hot_leave_section.Goals as goal

pub returns-then-leave : goal.returns-then-leave
returns-then-leave c = left c.args.handle.now.cell.opened c.lend.result.now c.leave.new.self c.lend.ensures.value c.leave.ensures.keeps c.leave.result c.if-leave.true c.leave.ensures.outside c.leave.ensures.left

pub returns-else-leave : goal.returns-else-leave
returns-else-leave c = not_left c.args.handle.now.cell.opened c.lend.result.now c.leave.new.self c.lend.ensures.value c.leave.ensures.keeps c.leave.result c.if-leave.false c.leave.ensures.outside c.leave.ensures.left
