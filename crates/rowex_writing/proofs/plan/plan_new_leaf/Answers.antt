-- The plan of the last node with leaves alone is that of the new leaf.
use Rattle.rowex_writing.proofs.plan.Plans.{new_leaf_at}
use Rattle.rowex_writing.proofs.plan.plan_new_leaf.Goals as goal

pub returns-then-way-level-le1 : goal.returns-then-way-level-le1
returns-then-way-level-le1 c = λ first upto.
    new_leaf_at c.args.way.now c.args.position c.last_level_before-level.result first upto c.plan_in_lowest_node.result c.last_level_before-level.ensures (c.plan_in_lowest_node.ensures first upto)
