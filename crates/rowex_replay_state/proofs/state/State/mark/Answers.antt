-- The pass has unlinked the record, before it loaded the epoch.
use Rattle.std.proofs.Common.{sym, ◌∙◌, ap, Some}
use Rattle.rowex_replay_state.specs.declared.fate.Fate.TheVariants.{Unlinked}
use Rattle.rowex_replay_state.proofs.EpochSteps.{pass_in}
use Rattle.rowex_replay_state.proofs.state.Retiring.{marks}
use Rattle.rowex_replay_state.proofs.state.State.mark.Goals as goal

pub returns : goal.returns
returns c = rw (sym c.self.view_is, c.set_fate_and_unlock.ensures)
    (marks _ c.args.pass c.args.rec c.args.epoch c.in-Some-Unlinked.since c.in-Some-Unlinked.last c.pass_state-own.result (pass_in _ _ c.self.view_is _ _ c.pass_state-own.ensures)
    (sym c.fate.ensures ∙ c.in-Some-Unlinked.is ∙ ap Some (c.in-Some-Unlinked.field-0-is ∙ ap (Unlinked c.in-Some-Unlinked.since c.in-Some-Unlinked.last) c.if-by-pass.false)) c.if-own-epoch.false c.if-own-last.false)
