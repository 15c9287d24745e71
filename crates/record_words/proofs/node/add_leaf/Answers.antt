-- The head's words are those of the head with the fork, and the leaf's word stands among those of the other entries.
use Rattle.record_words.proofs.Common.{rules, arith, length, refl, ◌≡◌, ◌+◌, ◌∙◌, forked_head, IsBuiltFrom, NodeView, head_of, node_of, piece, Leaf, grown}
use Rattle.std.proofs.Common.{insert}
use Rattle.std.specs.Prelude.{if◌then◌else◌}
use Rattle.record_words.proofs.node.Forking.{grown_leaf}
use Rattle.record_words.proofs.Growing.{has_words, place_within, words_grown}
use Rattle.record_words.proofs.Reading.{entries_counted}
use Rattle.record_words.proofs.node.add_leaf.Goals as goal
use Rattle.record_words.proofs.node.add_leaf.Goals.{then-bit, else-bit}

pub insert_element-requires-clause-in_range : goal.insert_element-requires-clause-in_range
insert_element-requires-clause-in_range c =
    let (node, g) = c.requires.growing in
    let counted = c.read_numbers.ensures.parts.0 ∙ entries_counted node c.args.words.now g.has g.spells in
    let within = place_within g c.requires.below c.args.bit in
    let at : c.if-bit.at ≡ (if c.args.bit then c.args.last + 1 else c.args.first) =
    elim c.if-bit.branch [ then-bit w ↦ rw w.if-bit.true w.at-is | else-bit w ↦ rw w.if-bit.false w.at-is ] in
    omega (arith, counted, within, at)

pub insert_element-requires-clause-room : goal.insert_element-requires-clause-room
insert_element-requires-clause-room c =
    let (node, g) = c.requires.growing in
    let counted = c.read_numbers.ensures.parts.0 ∙ entries_counted node c.args.words.now g.has g.spells in
    let long : length c.add_fork.new.words ≡ 57 = search rules in
    omega (arith, counted, long, g.takes.1)

pub returns : goal.returns
returns c = λ node g.
    let at : c.if-bit.at ≡ (if c.args.bit then c.args.last + 1 else c.args.first) =
    elim c.if-bit.branch [ then-bit w ↦ rw w.if-bit.true w.at-is | else-bit w ↦ rw w.if-bit.false w.at-is ] in
    let after : NodeView = node_of (forked_head 1 c.args.position c.args.first c.args.last c.args.bit (head_of node)) (insert node.entries (if c.args.bit then c.args.last + 1 else c.args.first) (Leaf c.args.leaf)) in
    let built : IsBuiltFrom after (grown c.args.position c.args.bit (Leaf c.args.leaf) c.args.first (piece node)) = grown_leaf g c.requires.below c.args.bit c.args.leaf in
    let few = place_within g c.requires.below c.args.bit in
    record {
      node = after;
      has = has_words node after _ c.args.leaf few refl g.has.entries c.ranges.leaf.fits built.lawful;
      spells = words_grown node after _ c.args.leaf few refl g.takes.1 c.args.words.now c.add_fork.new.words c.insert_element.new.items _ c.if-bit.at c.pack_entry.result g.spells
          (c.add_fork.ensures node g) (c.read_numbers.ensures.parts.0 ∙ entries_counted node c.args.words.now g.has g.spells) at c.pack_entry.ensures (rw c.entries_end-end.ensures at c.insert_element.ensures);
      built = built;
    }
