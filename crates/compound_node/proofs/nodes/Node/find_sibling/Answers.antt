-- The rows round the place tell it.
use Rattle.std.proofs.Common.{◌≡◌, Some, ap, arith, get_or, subst, ◌∙◌}
use Rattle.compound_node.specs.Beside.{AreRowsRound, IsBesideIn}
use Rattle.compound_node.specs.Nodes.{IsLawfulNode, NodeView}
use Rattle.compound_node.proofs.nodes.Node.find_sibling.Goals as goal
use Rattle.compound_node.proofs.nodes.Node.find_sibling.Goals.{After-columns-columns, After-find_sibling, After-self}

lawful_self : (c : After-self) → IsLawfulNode c.args.self.now
lawful_self c = subst IsLawfulNode c.self.view_is c.self.invariant

pub overflow_add-slot : goal.overflow_add-slot
overflow_add-slot c = omega (arith, (lawful_self (goal.at.overflow_add-slot c).After-self).room)

pub overflow_add-slot-2 : goal.overflow_add-slot-2
overflow_add-slot-2 c = omega (arith, (lawful_self (goal.at.overflow_add-slot-2 c).After-self).room)

pub find_sibling-requires : goal.find_sibling-requires
find_sibling-requires c = omega (arith, (lawful_self (goal.at.find_sibling-requires c).After-self).room)

round : (c : After-find_sibling) → AreRowsRound c.args.self.now.rows c.args.slot c.row-before.result c.row-own.result c.row-after.result c.row-after_next.result
round c = record {
  before_is = c.row-before.ensures ∙ ap (λ k. get_or c.args.self.now.rows k 4294967295) c.saturating_sub.ensures;
  own_is = c.row-own.ensures;
  after_is = c.row-after.ensures;
  second_is = c.row-after_next.ensures;
}

told : (c : After-find_sibling) → IsBesideIn c.args.self.now c.args.slot c.find_sibling.result
told c = c.find_sibling.ensures c.args.self.now (subst IsLawfulNode c.self.view_is c.self.invariant) c.requires (round c)

columns_are : (c : After-columns-columns) → c.columns-columns.result.now ≡ c.args.self.now.columns
columns_are c = c.columns-columns.ensures ∙ ap (λ (v : NodeView). v.columns) c.self.view_is

pub position-requires : goal.position-requires
position-requires c =
    let at = goal.at.position-requires c in
    rw (columns_are at.After-columns-columns) (subst (IsBesideIn c.args.self.now c.args.slot) c.in-Some.is (told at.After-find_sibling)).in_range

pub returns-in-Some : goal.returns-in-Some
returns-in-Some c =
    let at = goal.at.returns-in-Some c in
    ap (λ p. Some (c.in-Some.sibling, p)) (c.position.ensures ∙ ap (λ cs. get_or cs c.in-Some.column 0) (columns_are at.After-columns-columns))
    ∙ (subst (IsBesideIn c.args.self.now c.args.slot) c.in-Some.is (told at.After-find_sibling)).is

pub returns-in-None : goal.returns-in-None
returns-in-None c = (subst (IsBesideIn c.args.self.now c.args.slot) c.in-None.is (told (goal.at.returns-in-None c).After-find_sibling)).is
