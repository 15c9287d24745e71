-- There are as many rows as entries.
use Rattle.std.proofs.Common.{ap, arith, length, ◌∙◌, ◌≡◌}
use Rattle.compound_node.proofs.Lawful.{same_count}
use Rattle.compound_node.specs.Nodes.{NodeView}
use Rattle.compound_node.proofs.nodes.Node.search.Goals as goal

pub returns-clause-in_range : goal.returns-clause-in_range
returns-clause-in_range c =
    let count : length c.self.inside.head.rows ≡ length c.args.self.now.entries = same_count _ c.self.invariant ∙ ap (λ (v : NodeView). length v.entries) c.self.view_is in
    omega (arith, c.search.ensures.in_range, count)
