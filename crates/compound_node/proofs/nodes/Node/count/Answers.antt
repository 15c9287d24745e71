-- There are as many rows as entries.
use Rattle.std.proofs.Common.{ap, length, ◌∙◌}
use Rattle.compound_node.proofs.Lawful.{same_count}
use Rattle.compound_node.specs.Nodes.{NodeView}
use Rattle.compound_node.proofs.nodes.Node.count.Goals as goal

pub returns-clause-count : goal.returns-clause-count
returns-clause-count c = c.count.ensures.count ∙ same_count _ c.self.invariant ∙ ap (λ (v : NodeView). length v.entries) c.self.view_is
