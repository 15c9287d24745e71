-- The words of the held record get the word.
use Rattle.std.proofs.Common.{sym}
use Rattle.rowex_replay_state.proofs.RecordSteps.{fills}
use Rattle.rowex_replay_state.proofs.state.State.fill.Goals as goal

pub returns : goal.returns
returns c = rw (sym c.self.view_is) (fills _ c.args.pass c.args.rec c.args.offset c.args.word c.set_word.new.self (c.is_held.ensures.0 c.if-not-is_held.false) (c.is_offset.ensures.0 c.if-not-is_offset.false).0 (rw c.layout.ensures at (c.is_offset.ensures.0 c.if-not-is_offset.false).1) c.ranges.word.fits
    (λ words e. rw e at c.set_word.ensures))
