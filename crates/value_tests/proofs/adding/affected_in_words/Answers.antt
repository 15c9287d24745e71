-- The words are those of the node's head, which has the slot.
use Rattle.std.proofs.Common.{◌≡◌, ◌∙◌, ap, arith, length, refl, sym}
use Rattle.std.proofs.lemmas.List.{length-take-le}
use Rattle.compound_node.proofs.Lawful.{same_count}
use Rattle.compound_node.specs.Nodes.{HeadView, head_of}
use Rattle.record_words.proofs.Nodes.{head_part, length-node_words, same_head}
use Rattle.value_tests.proofs.adding.affected_in_words.Goals as goal

pub slice_bounds-affected_slots-end : goal.slice_bounds-affected_slots-end
slice_bounds-affected_slots-end c =
    let long : length c.pack_node-words.result ≡ 57 = ap length c.pack_node-words.ensures.words ∙ length-node_words c.args.node.now in
    sym (length-take-le 25 c.pack_node-words.result (omega arith))

pub affected_slots-requires-clause-long : goal.affected_slots-requires-clause-long
affected_slots-requires-clause-long c =
    let long : length c.pack_node-words.result ≡ 57 = ap length c.pack_node-words.ensures.words ∙ length-node_words c.args.node.now in
    length-take-le 25 c.pack_node-words.result (omega arith)

pub affected_slots-requires-clause-spelling : goal.affected_slots-requires-clause-spelling
affected_slots-requires-clause-spelling c =
    let node = c.args.node.now in let packed = c.pack_node-words.ensures in
    (head_of node, (node, packed.fits.lawful, refl), head_part node c.pack_node-words.result (sym packed.words))

pub affected_slots-requires-clause-in_range : goal.affected_slots-requires-clause-in_range
affected_slots-requires-clause-in_range c = λ other lawful same.
    let node = c.args.node.now in let packed = c.pack_node-words.ensures in
    let heads = same_head other node lawful packed.fits.lawful (same ∙ sym (head_part node c.pack_node-words.result (sym packed.words))) in
    omega (arith, c.requires, ap (λ (v : HeadView). length v.rows) heads, same_count other lawful, same_count node packed.fits.lawful)
