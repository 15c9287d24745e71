-- The position affects the range, and the subtrie of the tree tells the rest.
use Rattle.rowex_writing.proofs.Common.{subst, arith, IsBuiltFrom, piece, subtrie_grown}
use Rattle.compound_node.specs.declared.entries.Entry.TheVariants.{Leaf}
use Rattle.rowex_writing.proofs.build.remaking.Remaking.{built_low, fits_leaf, just_affected, leads_within, leaf_low, leaf_subtrie}
use Rattle.rowex_writing.proofs.build.remaking.add_leaf.Goals as goal

pub affected-first-requires : goal.affected-first-requires
affected-first-requires c = leads_within c.args.new.now.key.now c.args.node.now c.count.ensures.lawful c.requires.leads

pub add_entry-requires-clause-range : goal.add_entry-requires-clause-range
add_entry-requires-clause-range c = (fits_leaf c.args.new.now.number c.count.ensures.lawful (just_affected c.requires.leads c.affected-first.ensures.from c.affected-first.ensures.upto) c.requires.tree).range

pub add_entry-requires-clause-below : goal.add_entry-requires-clause-below
add_entry-requires-clause-below c = let h = (fits_leaf c.args.new.now.number c.count.ensures.lawful (just_affected c.requires.leads c.affected-first.ensures.from c.affected-first.ensures.upto) c.requires.tree).position in omega arith

pub returns-clause-shows : goal.returns-clause-shows
returns-clause-shows c = subst (IsBuiltFrom c.add_entry.new.self) (leaf_subtrie (Leaf c.args.new.now.number) (just_affected c.requires.leads c.affected-first.ensures.from c.affected-first.ensures.upto) c.bit-bit.ensures) c.add_entry.ensures

pub returns-clause-low : goal.returns-clause-low
returns-clause-low c =
    built_low c.add_entry.new.self (subtrie_grown c.args.new.now.position c.args.new.now.key.now (Leaf c.args.new.now.number) (piece c.args.node.now)) c.args.node.now.height (returns-clause-shows c)
    (leaf_low c.args.new.now.key.now c.args.new.now.position c.args.new.now.number c.args.node.now c.count.ensures.lawful)
