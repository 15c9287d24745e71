-- The unused places are filled.
use Rattle.compound_node.proofs.Common.{ap, ◌∙◌, with_unused}
use Rattle.compound_node.specs.Nodes.{HeadView}
use Rattle.compound_node.proofs.heads.Head.padded_rows.Goals as goal

pub returns : goal.returns
returns c = c.self.invariant.padded ∙ ap (λ (h : HeadView). with_unused h.rows) c.self.view_is
