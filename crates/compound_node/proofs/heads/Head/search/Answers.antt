-- The highest complying row is where the forks lead.
use Rattle.compound_node.proofs.Common.{ap, get_or, length, refl, subst, sym, ◌<◌, ◌∙◌, first_is_zero}
use Rattle.compound_node.proofs.Lawful.{head_leads, head_leads-fits}
use Rattle.compound_node.specs.Nodes.{HeadView}
use Rattle.key_bits.specs.Bits.{bit_of}
use Rattle.compound_node.proofs.heads.Head.search.Goals as goal

pub search_lanes-requires : goal.search_lanes-requires
search_lanes-requires c = ap (λ xs. get_or xs 0 0) c.self.invariant.padded ∙ first_is_zero _ _ _ _ c.self.invariant.lawful.shows

pub returns-clause-leads : goal.returns-clause-leads
returns-clause-leads c = λ node lawful same.
    head_leads _ c.self.inside.padded_rows (bit_of c.args.key.now) c.extract.result c.search_lanes.result c.self.invariant.padded c.extract.ensures c.search_lanes.ensures.highest node lawful (same ∙ sym c.self.view_is)

pub returns-clause-in_range : goal.returns-clause-in_range
returns-clause-in_range c = subst (λ (v : HeadView). c.search_lanes.result < length v.rows) c.self.view_is
    (head_leads-fits _ c.self.inside.padded_rows (bit_of c.args.key.now) c.extract.result c.search_lanes.result c.self.invariant.padded c.extract.ensures c.search_lanes.ensures.highest _ c.self.invariant.lawful refl)
