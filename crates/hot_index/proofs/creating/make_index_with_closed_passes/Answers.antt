-- The layout is as asked, but for the node record that is kept.
use Rattle.std.proofs.Common.{subst, sym}
use Rattle.hot_index.specs.Kept.{HasOneKept}
use Rattle.hot_index.proofs.creating.make_index_with_closed_passes.Goals as goal

pub returns-in-Ok-make_index-clause-layout : goal.returns-in-Ok-make_index-clause-layout
returns-in-Ok-make_index-clause-layout c = (c.in-Ok.asked, c.in-Ok.is, subst (HasOneKept c.in-Ok.asked) (sym c.in-Ok-make_index.ensures.layout) c.keep_one_node.ensures)
