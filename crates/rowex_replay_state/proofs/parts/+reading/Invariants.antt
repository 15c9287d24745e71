-- A half has more steps to go than its cut, a cut more than each of its sides, and an entry more than the node that it leads to.
use Rattle.rowex_replay_state.proofs.Common.{◌+◌, ◌*◌, max, Place}
use Rattle.rowex_replay_state.proofs.parts.Steps.{steps, half_steps}
use Rattle.rowex_replay_state.proofs.parts.+reading.Given as goal

abbrev pub decreases-read_entry : goal.decreases-read_entry
decreases-read_entry l = 2 * steps (Place l.entry)

abbrev pub decreases-read_cut : goal.decreases-read_cut
decreases-read_cut l = 2 * (1 + max (half_steps l.cut.zero) (half_steps l.cut.one))

abbrev pub decreases-read_half : goal.decreases-read_half
decreases-read_half l = 2 * half_steps l.half + 1
