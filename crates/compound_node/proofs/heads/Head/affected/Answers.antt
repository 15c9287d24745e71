-- The run of rows is the affected range.
use Rattle.compound_node.proofs.Common.{ap, arith, length, subst, sym, ◌∙◌, ◌≡◌, IsRunEnd, IsRunStart, front_below}
use Rattle.compound_node.proofs.Lawful.{length-leaves}
use Rattle.compound_node.proofs.heads.Ranges.{IsRange, range_of_head}
use Rattle.compound_node.specs.Nodes.{HeadView, IsLawfulNode, NodeView, head_of}
use Rattle.compound_node.proofs.heads.Head.affected.Goals as goal
use Rattle.compound_node.proofs.heads.Head.affected.Goals.{After-last_of_run}

pub first_of_run-requires-clause-in_range : goal.first_of_run-requires-clause-in_range
first_of_run-requires-clause-in_range c = omega (arith, c.requires, ap length c.rows-rows.ensures)

pub last_of_run-requires-clause-in_range : goal.last_of_run-requires-clause-in_range
last_of_run-requires-clause-in_range c = omega (arith, c.requires, ap length c.rows-rows.ensures)

pub overflow_cast-result-2 : goal.overflow_cast-result-2
overflow_cast-result-2 c =
    let rows : length c.rows-rows.result.now ≡ c.self.inside.count =
    ap length c.rows-rows.ensures ∙ (sym (ap (λ (h : HeadView). length h.rows) c.self.view_is) ∙ c.self.invariant.counted) in
    let room = c.self.invariant.lawful.room in
    record { fits = omega (arith, rows, c.last_of_run.ensures.in_range, length-leaves c.self.inside.count, room) }

-- what the calls answered, in each node of the head
range : (c : After-last_of_run) (node : NodeView) → IsLawfulNode node → head_of node ≡ c.args.self.now → IsRange node c.args.position c.args.slot c.first_of_run.result c.last_of_run.result
range c = range_of_head c.args.self.now c.args.position c.args.slot c.count_columns_below-columns.result c.first_of_run.result c.last_of_run.result c.requires
    (c.count_columns_below-columns.ensures.value ∙ ap (λ (h : HeadView). front_below c.args.position h.columns) c.self.view_is)
    (subst (λ rows. IsRunStart rows c.count_columns_below-columns.result c.args.slot c.first_of_run.result) c.rows-rows.ensures c.first_of_run.ensures)
    (subst (λ rows. IsRunEnd rows c.count_columns_below-columns.result c.args.slot c.last_of_run.result) c.rows-rows.ensures c.last_of_run.ensures)

pub returns-clause-range : goal.returns-clause-range
returns-clause-range c = λ node lawful same. (range c node lawful same).range

pub returns-clause-from : goal.returns-clause-from
returns-clause-from c = λ node lawful same. (range c node lawful same).from

pub returns-clause-upto : goal.returns-clause-upto
returns-clause-upto c = λ node lawful same. (range c node lawful same).upto
