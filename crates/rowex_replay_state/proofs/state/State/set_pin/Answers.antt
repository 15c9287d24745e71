-- The pass is pinned by the epoch of its round.
use Rattle.std.proofs.Common.{sym}
use Rattle.rowex_replay_state.proofs.EpochSteps.{pins, pass_in}
use Rattle.rowex_replay_state.proofs.state.State.set_pin.Goals as goal

pub returns : goal.returns
returns c =
    let may = c.may_pin.ensures.0 c.if-not-may_pin.false in
    rw (sym c.self.view_is, c.set_item.ensures)
    (pins _ c.args.pass c.args.word c.pass_state-own.result (pass_in _ _ c.self.view_is _ _ c.pass_state-own.ensures) may.0 may.1 may.2)
