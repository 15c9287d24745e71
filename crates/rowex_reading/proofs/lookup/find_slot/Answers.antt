-- The head that was read leads the key to the slot.
use Rattle.rowex_reading.proofs.Common.{ap, PathNode}
use Rattle.rowex_reading.specs.Seen.{shape_of}
use Rattle.rowex_reading.proofs.lookup.find_slot.Goals as goal

pub returns-clause-place : goal.returns-clause-place
returns-clause-place g c = λ m h led. let (head, seen, is) = c.search_node.ensures.step m h led in (shape_of head, seen.shaped, ap (λ (s : PathNode). s.slot) is)
