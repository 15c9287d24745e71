-- The node that is named gets the entry.
use Rattle.plain_trie_records.proofs.Common.{◌≡◌, inl, inr, ap, sym, ◌∙◌, arith, slice_get, slice_set, slice_get_within, replaced, size, NodeView, piece, size-piece}
use Rattle.std.specs.Prelude.{Some}
use Rattle.plain_trie_records.proofs.rising.Rising.{replaced_named}
use Rattle.plain_trie_records.proofs.Heights.{heights_set}
use Rattle.plain_trie_records.proofs.Store.Searching.{read_at}
use Rattle.plain_trie_records.proofs.Risen.{set_same, set_other}
use Rattle.plain_trie_records.proofs.rising.replace_entry.Goals as goal

pub prove-unreachable-requires : goal.prove-unreachable-requires
prove-unreachable-requires c =
    let o = c.requires in
    let v = c.index-node.result.now in
    let same : v ≡ o.0 = read_at c.args.nodes.now.items c.args.number o.0 v o.1 c.index-node.ensures in
    let e : size (piece v) ≡ size (piece o.0) = ap (λ (w : NodeView). size (piece w)) same in
    omega (arith, o.2, size-piece v c.count.ensures.lawful, c.count.ensures.count)

pub replace-node-requires-clause-stands : goal.replace-node-requires-clause-stands
replace-node-requires-clause-stands c =
    let o = c.requires in
    let v = c.index-node.result.now in
    let same : v ≡ o.0 = read_at c.args.nodes.now.items c.args.number o.0 v o.1 c.index-node.ensures in
    (o.3.0, let e = ap (λ (w : NodeView). w.height) same in omega (arith, o.3.1))

pub put_node-requires : goal.put_node-requires
put_node-requires c =
    let o = c.requires in
    omega (arith, slice_get_within c.args.nodes.now.items c.args.number o.0 o.1, c.args.nodes.now.ok.0)

pub returns-clause-shows : goal.returns-clause-shows
returns-clause-shows c = λ old at.
    let v = c.index-node.result.now in
    let w = c.replace-node.result in
    let same : v ≡ old = read_at c.args.nodes.now.items c.args.number old v at c.index-node.ensures in
    let stands : slice_get c.put_node.new.nodes.items c.args.number ≡ Some w =
    rw c.put_node.ensures.nodes (set_same c.args.nodes.now.items c.args.number w (slice_get_within c.args.nodes.now.items c.args.number old at)) in
    let high : w.height ≡ old.height = ap (λ (u : NodeView). u.height) c.replace-node.ensures.fields ∙ ap (λ (u : NodeView). u.height) same in
    let shows : piece w ≡ replaced c.args.slot c.args.entry (piece old) = c.replace-node.ensures.piece ∙ ap (λ (u : NodeView). replaced c.args.slot c.args.entry (piece u)) same in
    rw c.put_node.ensures.entry (replaced_named c.put_node.new.nodes.items c.args.number c.args.slot c.args.entry old w stands c.replace-node.ensures.lawful high shows)

pub returns-clause-others : goal.returns-clause-others
returns-clause-others c = λ m v ne at. rw c.put_node.ensures.nodes (set_other c.args.nodes.now.items c.args.number m c.replace-node.result v ne at)

pub returns-clause-heights : goal.returns-clause-heights
returns-clause-heights c =
    let o = c.requires in
    let v = c.index-node.result.now in
    let same : v ≡ o.0 = read_at c.args.nodes.now.items c.args.number o.0 v o.1 c.index-node.ensures in
    rw c.put_node.ensures.nodes (heights_set c.args.nodes.now.items c.args.number v c.replace-node.result (o.1 ∙ ap Some (sym same)) (inl (inr (c.args.slot, c.args.entry, c.replace-node.ensures.fields))))

pub returns-clause-fields : goal.returns-clause-fields
returns-clause-fields c = λ old at.
    let v = c.index-node.result.now in
    let same : v ≡ old = read_at c.args.nodes.now.items c.args.number old v at c.index-node.ensures in
    let is : c.replace-node.result ≡ record old { entries = slice_set old.entries c.args.slot c.args.entry } =
    c.replace-node.ensures.fields ∙ ap (λ (u : NodeView). let w : NodeView = record u { entries = slice_set u.entries c.args.slot c.args.entry } in w) same in
    rw c.put_node.ensures.nodes (set_same c.args.nodes.now.items c.args.number c.replace-node.result (slice_get_within c.args.nodes.now.items c.args.number old at) ∙ ap Some is)
