-- The next section was opened, or none.
use Rattle.hot_c.proofs.sectioning.Sectioning.{none_kept, none_of, none_opened, opened_next, some_of}
use Rattle.hot_c.proofs.sectioning.hot_open_section.Goals as goal

pub returns-in-Ok-Some-clause-opened : goal.returns-in-Ok-Some-clause-opened
returns-in-Ok-Some-clause-opened c was has none =
    opened_next c.args.keeper.now.cell.opened c.lend.result.now c.open_next.new.self c.lend.ensures.value c.open.new.self.cell.opened c.in-Ok-Some.opened.value c.open.ensures
    (some_of _ _ c.in-Ok-Some.field-0 c.in-Ok-Some.opened c.in-Ok-Some.field-0-is c.in-Ok-Some.ensures.opened) was has

pub returns-in-Ok-None-clause-opened : goal.returns-in-Ok-None-clause-opened
returns-in-Ok-None-clause-opened c was has none =
    let kept = none_of _ _ c.in-Ok-None.field-0 c.in-Ok-None.field-0-is c.in-Ok-None.ensures.opened in
    none_kept c.args.keeper.now.cell.opened c.lend.result.now c.open_next.new.self c.lend.ensures.value c.args.handle.now.cell.opened none kept.0 kept.1 was has

pub returns-in-Err-clause-opened : goal.returns-in-Err-clause-opened
returns-in-Err-clause-opened c was has none =
    none_opened c.args.keeper.now.cell.opened c.lend.result.now c.open_next.new.self c.lend.ensures.value c.args.handle.now.cell.opened none c.in-Err.ensures.refused was has
