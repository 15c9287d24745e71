-- The words spell a value.
use Rattle.std.proofs.Common.{sym}
use Rattle.rowex_replay_state.proofs.RecordSteps.{readies}
use Rattle.rowex_replay_state.proofs.state.State.ready.Goals as goal

pub returns : goal.returns
returns c = rw (sym c.self.view_is, c.set_fate.ensures) (readies _ c.args.pass c.args.rec (c.is_held.ensures.0 c.if-not-is_held.false) (c.has_valid_words.ensures.0 c.if-not-has_valid_words.false))
