-- The words are the node's, and the entry can stand in it.
use Rattle.std.proofs.Common.{arith, sym, ◌∙◌}
use Rattle.value_tests.proofs.merges.close_fork_at.Goals as goal

pub close_fork-left-requires : goal.close_fork-left-requires
close_fork-left-requires g c = (
  c.args.node.now,
  record {
    has = c.pack_node-words.ensures.fits;
    spells = sym c.pack_node-words.ensures.words;
    in_range = omega (arith, c.count-count.ensures.count, c.if-at-count.false);
    position = c.in-Some.field-0-1;
    is_beside = sym c.find_sibling.ensures ∙ c.in-Some.is;
    stands = rw c.child_entry.ensures ((omega arith, omega arith), omega (arith, c.height-height.ensures, c.if-height-ne2.false));
  },
)
