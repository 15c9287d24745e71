-- The head's range is the node's.
use Rattle.compound_node.proofs.Common.{ap, arith, length, refl, subst, ℕ, ◌+◌, ◌<◌, ◌↔◌, ◌≡◌, ◌≤◌, affected_count, affected_first}
use Rattle.compound_node.proofs.Lawful.{same_count}
use Rattle.compound_node.specs.Nodes.{AgreeBefore, NodeView, piece}
use Rattle.compound_node.proofs.nodes.Node.affected.Goals as goal

pub affected-requires : goal.affected-requires
affected-requires c =
    let entries : length c.self.inside.entries.items ≡ length c.args.self.now.entries = ap (λ (v : NodeView). length v.entries) c.self.view_is in
    omega (arith, c.requires, same_count _ c.self.invariant)

pub returns-clause-range : goal.returns-clause-range
returns-clause-range c = subst (λ node. (k : ℕ) → k < length node.entries → AgreeBefore node c.args.position c.args.slot k ↔ ((c.affected.result.0 ≤ k) × (k ≤ c.affected.result.1))) c.self.view_is (c.affected.ensures.range _ c.self.invariant refl)

pub returns-clause-from : goal.returns-clause-from
returns-clause-from c = subst (λ node. affected_first c.args.position c.args.slot (piece node) ≡ c.affected.result.0) c.self.view_is (c.affected.ensures.from _ c.self.invariant refl)

pub returns-clause-upto : goal.returns-clause-upto
returns-clause-upto c = subst (λ node. affected_count c.args.position c.args.slot (piece node) + c.affected.result.0 ≡ c.affected.result.1 + 1) c.self.view_is (c.affected.ensures.upto _ c.self.invariant refl)
