-- The position affects the range, and the subtrie of the tree tells the rest.
use Rattle.rowex_writing.proofs.Common.{subst, arith, piece, subtrie_grown, IsCutOf, Two}
use Rattle.compound_node.specs.declared.entries.Entry.TheVariants.{Leaf}
use Rattle.rowex_writing.proofs.build.remaking.Remaking.{fits_leaf, grown_low, just_affected, leads_within, leaf_low, leaf_subtrie}
use Rattle.rowex_writing.proofs.build.remaking.cut_with_leaf.Goals as goal

pub affected-first-requires : goal.affected-first-requires
affected-first-requires c = leads_within c.args.new.now.key.now c.args.node.now c.count.ensures.lawful c.requires.leads

pub grow_full-requires-clause-range : goal.grow_full-requires-clause-range
grow_full-requires-clause-range c = (fits_leaf c.args.new.now.number c.count.ensures.lawful (just_affected c.requires.leads c.affected-first.ensures.from c.affected-first.ensures.upto) c.requires.tree).range

pub grow_full-requires-clause-position : goal.grow_full-requires-clause-position
grow_full-requires-clause-position c = let h = (fits_leaf c.args.new.now.number c.count.ensures.lawful (just_affected c.requires.leads c.affected-first.ensures.from c.affected-first.ensures.upto) c.requires.tree).position in omega arith

pub returns-clause-shows : goal.returns-clause-shows
returns-clause-shows c = subst (IsCutOf c.args.node.now c.grow_full.result) (leaf_subtrie (Leaf c.args.new.now.number) (just_affected c.requires.leads c.affected-first.ensures.from c.affected-first.ensures.upto) c.bit-bit.ensures) c.grow_full.ensures.shows

pub returns-clause-low : goal.returns-clause-low
returns-clause-low c =
    grown_low c.args.node.now (Two c.grow_full.result) (subtrie_grown c.args.new.now.position c.args.new.now.key.now (Leaf c.args.new.now.number) (piece c.args.node.now)) c.args.node.now.height (returns-clause-shows c)
    (leaf_low c.args.new.now.key.now c.args.new.now.position c.args.new.now.number c.args.node.now c.count.ensures.lawful)
