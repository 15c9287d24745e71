-- The pin is taken into the round.
use Rattle.std.proofs.Common.{sym, ◌∙◌}
use Rattle.rowex_replay_state.proofs.EpochSteps.{pin_loads, pass_in}
use Rattle.rowex_replay_state.proofs.state.State.load_pin.Goals as goal

pub returns : goal.returns
returns c = rw (sym c.self.view_is, c.set_item.ensures, c.see_pin-seen.ensures)
    (pin_loads _ c.args.pass c.args.of c.args.word c.pass_state.result c.in-Some.other (pass_in _ _ c.self.view_is _ _ c.pass_state.ensures) (pass_in _ _ c.self.view_is _ _ (sym c.find_pass_state.ensures ∙ c.in-Some.is)) (c.if-word-unwrap_or.false ∙ c.unwrap_or.ensures))
