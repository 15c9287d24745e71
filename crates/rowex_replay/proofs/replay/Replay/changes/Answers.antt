-- The state is that of the run's core.
use Rattle.std.proofs.Common.{sym}
use Rattle.rowex_replay.proofs.replay.Replay.changes.Goals as goal

pub returns : goal.returns
returns c = rw (sym c.self.view_is) (c.changes.ensures _ c.self.invariant.at)
