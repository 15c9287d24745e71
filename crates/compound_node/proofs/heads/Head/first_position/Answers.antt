-- The first column is the root fork's position.
use Rattle.std.proofs.Common.{ap, get_or, ◌∙◌}
use Rattle.compound_node.specs.Nodes.{HeadView}
use Rattle.compound_node.proofs.Roots.{first_below, root_of_head}
use Rattle.compound_node.proofs.heads.Head.first_position.Goals as goal

pub returns-clause-column : goal.returns-clause-column
returns-clause-column c = c.first.ensures ∙ ap (λ (h : HeadView). get_or h.columns 0 0) c.self.view_is

pub returns-clause-root : goal.returns-clause-root
returns-clause-root c = root_of_head c.args.self.now c.first.result (c.first.ensures ∙ ap (λ (h : HeadView). get_or h.columns 0 0) c.self.view_is)

pub returns-clause-below : goal.returns-clause-below
returns-clause-below c = rw c.first.ensures (first_below c.self.inside.columns c.self.invariant.lawful.positions.below)
