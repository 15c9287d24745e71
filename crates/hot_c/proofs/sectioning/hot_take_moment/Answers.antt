-- The moment has been taken.
use Rattle.hot_c.proofs.sectioning.Sectioning.{took}
use Rattle.hot_c.proofs.sectioning.hot_take_moment.Goals as goal

pub returns : goal.returns
returns c = took c.args.handle.now.cell.opened c.lend.result.now c.take_moment.new.self c.lend.ensures.value c.take_moment.ensures.keeps c.args.moment.now c.take_moment.result c.take_moment.ensures.taken
