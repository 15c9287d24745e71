-- The fork's tree tells what it owes.
use Rattle.rowex_writing.proofs.Common.{◌≡◌, true, false, ◌∙◌, sym, subst, arith, IsBuiltFrom, Place, subtrie_forked, bit}
use Rattle.compound_node.specs.declared.entries.Entry.TheVariants.{Leaf}
use Rattle.rowex_writing.proofs.build.remaking.Remaking.{pair_is_lawful}
use Rattle.rowex_writing.proofs.build.remaking.pair_with_leaf.Goals as goal

pub pair-requires-clause-below : goal.pair-requires-clause-below
pair-requires-clause-below c = let h = (pair_is_lawful (bit c.args.key.now c.args.position) c.args.position (Leaf c.args.leaf) c.args.old c.requires).0 in omega arith

pub pair-requires-clause-zero : goal.pair-requires-clause-zero
pair-requires-clause-zero c = (pair_is_lawful (bit c.args.key.now c.args.position) c.args.position (Leaf c.args.leaf) c.args.old c.requires).1

pub pair-requires-else-bit-clause-below : goal.pair-requires-else-bit-clause-below
pair-requires-else-bit-clause-below c = let h = (pair_is_lawful (bit c.args.key.now c.args.position) c.args.position (Leaf c.args.leaf) c.args.old c.requires).0 in omega arith

pub pair-requires-else-bit-clause-one : goal.pair-requires-else-bit-clause-one
pair-requires-else-bit-clause-one c = (pair_is_lawful (bit c.args.key.now c.args.position) c.args.position (Leaf c.args.leaf) c.args.old c.requires).1

pub returns-then-bit : goal.returns-then-bit
unfolding bit
returns-then-bit c =
    let one : true ≡ bit c.args.key.now c.args.position = sym c.if-bit.true ∙ c.bit.ensures in
    subst (λ u. IsBuiltFrom c.pair.result (subtrie_forked u c.args.position (Leaf c.args.leaf) (Place c.args.old))) one c.pair.ensures

pub returns-else-bit : goal.returns-else-bit
unfolding bit
returns-else-bit c =
    let zero : false ≡ bit c.args.key.now c.args.position = sym c.if-bit.false ∙ c.bit.ensures in
    subst (λ u. IsBuiltFrom c.pair-else-bit.result (subtrie_forked u c.args.position (Leaf c.args.leaf) (Place c.args.old))) zero c.pair-else-bit.ensures
