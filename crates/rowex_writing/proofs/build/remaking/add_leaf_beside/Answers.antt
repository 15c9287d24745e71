-- The words become those of the node with the leaf.
use Rattle.rowex_writing.proofs.Common.{◌≡◌, ◌+◌, ◌∙◌, ℕ, List, ap, arith, length, refl, subst, sym, take, HeadView, NodeView, head_of, piece, same_count, affected_count, affected_first, InNodesOf, SpellBuilt, head_part, same_head}
use Rattle.compound_node.specs.declared.entries.Entry.TheVariants.{Leaf}
use Rattle.rowex_writing.specs.build.Remaking.{AwaitsLeaf, subtrie_with_leaf}
use Rattle.rowex_writing.specs.plan.Planned.{AffectsJust}
use Rattle.rowex_writing.specs.declared.build.remaking.NewLeaf.{NewLeaf}
use Rattle.rowex_writing.proofs.build.remaking.Remaking.{fits_leaf, growing_leaf, just_affected, leads_within, leaf_subtrie}
use Rattle.rowex_writing.proofs.build.remaking.add_leaf_beside.Goals as goal

-- the affected entries, which the words of the head tell
affects : (words : List ℕ) (node : NodeView) (new : NewLeaf) (first last : ℕ) → AwaitsLeaf words node new → InNodesOf (take 25 words) (λ v. affected_first new.position new.slot (piece v) ≡ first) →
    InNodesOf (take 25 words) (λ v. affected_count new.position new.slot (piece v) + first ≡ last + 1) → AffectsJust new.key.now new.position first last (piece node)
affects words node new first last takes from upto =
    let head = head_part node words takes.is.spells in just_affected takes.leads (from node takes.is.has.lawful head) (upto node takes.is.has.lawful head)

pub affected_slots-first-requires-clause-spelling : goal.affected_slots-first-requires-clause-spelling
affected_slots-first-requires-clause-spelling c = let (node, takes, can) = c.requires.takes in (head_of node, (node, takes.is.has.lawful, refl), head_part node c.args.words.now takes.is.spells)

pub affected_slots-first-requires-clause-in_range : goal.affected_slots-first-requires-clause-in_range
affected_slots-first-requires-clause-in_range c = λ other lawful same.
    let (node, takes, can) = c.requires.takes in
    let heads = same_head node other takes.is.has.lawful lawful (head_part node c.args.words.now takes.is.spells ∙ sym same) in
    omega (arith, leads_within c.args.new.now.key.now node takes.is.has.lawful takes.leads, ap (λ (v : HeadView). length v.rows) heads, same_count node takes.is.has.lawful, same_count other lawful)

pub add_leaf-requires-clause-growing : goal.add_leaf-requires-clause-growing
add_leaf-requires-clause-growing c = let (node, takes, can) = c.requires.takes in (node, growing_leaf c.args.words.now node c.args.new.now _ _ takes (affects c.args.words.now node c.args.new.now _ _ takes c.affected_slots-first.ensures.from c.affected_slots-first.ensures.upto) can)

pub add_leaf-requires-clause-below : goal.add_leaf-requires-clause-below
add_leaf-requires-clause-below c =
    let (node, takes, can) = c.requires.takes in
    let h = (fits_leaf c.args.new.now.number takes.is.has.lawful (affects c.args.words.now node c.args.new.now _ _ takes c.affected_slots-first.ensures.from c.affected_slots-first.ensures.upto) takes.tree).position in omega arith

pub returns : goal.returns
returns c = λ node takes can.
    let affected = affects c.args.words.now node c.args.new.now _ _ takes c.affected_slots-first.ensures.from c.affected_slots-first.ensures.upto in
    subst (SpellBuilt c.add_leaf.new.words) (leaf_subtrie (Leaf c.args.new.now.number) affected c.bit-bit.ensures)
    (c.add_leaf.ensures node (growing_leaf c.args.words.now node c.args.new.now _ _ takes affected can))
