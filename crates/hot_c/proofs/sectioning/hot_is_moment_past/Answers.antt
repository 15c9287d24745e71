-- The moment is past, or what may hold it is known.
use Rattle.hot_c.proofs.sectioning.Sectioning.{past, not_past}
use Rattle.hot_c.proofs.sectioning.hot_is_moment_past.Goals as goal

pub returns-then-is_past : goal.returns-then-is_past
returns-then-is_past c = past c.args.handle.now.cell.opened c.lend.result.now c.is_past.new.self c.lend.ensures.value c.is_past.ensures.keeps c.args.moment c.is_past.ensures.looks (c.is_past.ensures.past c.if-is_past.true)

pub returns-else-is_past : goal.returns-else-is_past
returns-else-is_past c = not_past c.args.handle.now.cell.opened c.lend.result.now c.is_past.new.self c.lend.ensures.value c.is_past.ensures.keeps c.args.moment c.is_past.ensures.looks (c.is_past.ensures.held c.if-is_past.false)
