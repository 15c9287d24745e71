-- The pass was pinned.
use Rattle.std.proofs.Common.{sym, arith}
use Rattle.rowex_replay_state.proofs.EpochSteps.{unpins, pass_in, some_from}
use Rattle.rowex_replay_state.proofs.state.State.clear_pin.Goals as goal

pub returns : goal.returns
returns c = rw (sym c.self.view_is, c.set_item.ensures)
    (unpins _ c.args.pass c.pass_state-own.result (pass_in _ _ c.self.view_is _ _ c.pass_state-own.ensures) (some_from c.pass_state-own.result.pin (let a = c.is_none.ensures in let b = c.if-is_none.false in grind arith)))
