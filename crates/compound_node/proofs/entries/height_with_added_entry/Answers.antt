-- A height above that of a child fits 16 bits.
use Rattle.std.proofs.Common.{arith}
use Rattle.compound_node.proofs.Heights.{greatest_height-fits}
use Rattle.compound_node.proofs.entries.height_with_added_entry.Goals as goal

pub overflow_add-result : goal.overflow_add-result
overflow_add-result c = omega (arith, greatest_height-fits c.args.entries.now c.requires.children, c.requires.leaves c.if-height-eq1.true, c.height.ensures)
