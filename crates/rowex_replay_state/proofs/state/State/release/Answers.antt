-- The held record is free then.
use Rattle.std.proofs.Common.{sym}
use Rattle.rowex_replay_state.proofs.RecordSteps.{releases}
use Rattle.rowex_replay_state.proofs.state.State.release.Goals as goal

pub returns : goal.returns
returns c = rw (sym c.self.view_is, c.set_fate.ensures) (releases _ c.args.pass c.args.rec (c.is_held.ensures.0 c.if-not-is_held.false))
