-- The state is that of no event, and no event is a legal run.
use Rattle.std.proofs.Common.{refl}
use Rattle.rowex_replay.proofs.replay.Replay.new.Goals as goal

pub invariant_of-result : goal.invariant_of-result
invariant_of-result c = rw c.new-2.ensures (record { legal = ∣ refl ∣₁; at = c.in_ok-state.ensures })
