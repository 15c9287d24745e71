-- The node with another entry is lawful, and shows it at its place.
use Rattle.compound_node.proofs.Common.{ap, length, set, subst, sym, ◌<◌, ◌∙◌, ◌≡◌, length-set, refill, replaced}
use Rattle.compound_node.proofs.Editing.{refill_same}
use Rattle.compound_node.proofs.Lawful.{piece-replaced, replaced_lawful}
use Rattle.compound_node.specs.Nodes.{IsLawfulNode, NodeView, StandsBelow, node_of, piece}
use Rattle.compound_node.proofs.nodes.Node.set_entry.Goals as goal
use Rattle.compound_node.proofs.nodes.Node.set_entry.Goals.{After-self-1}

-- the entries after
items : (c : After-self-1) → refill (length c.self.inside.entries.items) c.self.inside.entries.items (set c.deref_mut.result.now c.args.slot c.args.entry) ≡ set c.self.inside.entries.items c.args.slot c.args.entry
items c =
    let xs = c.self.inside.entries.items in
    ap (λ ws. refill (length xs) xs (set ws c.args.slot c.args.entry)) c.deref_mut.ensures.value ∙ refill_same xs (set xs c.args.slot c.args.entry) (length-set xs c.args.slot c.args.entry)

-- the node after is lawful
lawful : (c : After-self-1) → IsLawfulNode (node_of c.self.inside.head (refill (length c.self.inside.entries.items) c.self.inside.entries.items (set c.deref_mut.result.now c.args.slot c.args.entry)))
lawful c = rw (items c)
    (replaced_lawful (node_of c.self.inside.head c.self.inside.entries.items) c.self.invariant c.args.slot c.args.entry
    (subst (λ (v : NodeView). StandsBelow v.height c.args.entry) (sym c.self.view_is) c.requires.stands))

pub invariant_of-self : goal.invariant_of-self
invariant_of-self c = lawful c

pub returns-clause-lawful : goal.returns-clause-lawful
returns-clause-lawful c = lawful c

pub returns-clause-piece : goal.returns-clause-piece
returns-clause-piece c =
    let node : NodeView = node_of c.self.inside.head c.self.inside.entries.items in
    let here : c.args.slot < length c.self.inside.entries.items = subst (λ (v : NodeView). c.args.slot < length v.entries) (sym c.self.view_is) c.requires.in_range in
    rw (items c) (piece-replaced node c.self.invariant c.args.slot c.args.entry here ∙ ap (λ (v : NodeView). replaced c.args.slot c.args.entry (piece v)) c.self.view_is)
