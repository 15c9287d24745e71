-- Two words of a leaf were touched, or seven of a node.
use Rattle.std.proofs.Common.{arith}
use Rattle.rowex_reading.proofs.Touching.{touched_on}
use Rattle.rowex_reading.proofs.together.touch_record.Goals as goal

pub returns-in-Leaf : goal.returns-in-Leaf
returns-in-Leaf c = (2, omega arith, touched_on 1 1 _ _ _ c.touch.ensures c.touch-in-Leaf.ensures)

pub returns-in-Node : goal.returns-in-Node
returns-in-Node c = (7, omega arith, touched_on 3 4 _ _ _ (touched_on 2 1 _ _ _ (touched_on 1 1 _ _ _ c.touch-in-Node.ensures c.touch-in-Node-2.ensures) c.touch-in-Node-3.ensures) c.touch_entries.ensures)
