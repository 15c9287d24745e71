-- The slot is that of the next entry, and a step leads to the one behind.
use Rattle.rowex_scanning.proofs.direction.Directed.{slot_next}
use Rattle.rowex_scanning.proofs.direction.Slots.next_slot.Goals as goal

pub returns : goal.returns
returns c d count gap i low are = (
  are.next low,
  record {
    small = are.small;
    step = are.step;
    next = λ come. slot_next d count gap i _ _ are.small.0 are.small.1 (are.next low) are.step come;
  },
)
