-- The section is entered, or was open.
use Rattle.hot_c.proofs.sectioning.Sectioning.{entered, not_entered}
use Rattle.hot_c.proofs.sectioning.hot_enter_section.Goals as goal

pub returns-then-enter : goal.returns-then-enter
returns-then-enter c = entered c.args.handle.now.cell.opened c.lend.result.now c.enter.new.self c.lend.ensures.value c.enter.ensures.keeps c.enter.result c.if-enter.true c.enter.ensures.inside c.enter.ensures.entered

pub returns-else-enter : goal.returns-else-enter
returns-else-enter c = not_entered c.args.handle.now.cell.opened c.lend.result.now c.enter.new.self c.lend.ensures.value c.enter.ensures.keeps c.enter.result c.if-enter.false c.enter.ensures.inside c.enter.ensures.entered
