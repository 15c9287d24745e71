-- The word stands in the record.
use Rattle.std.proofs.Common.{sym}
use Rattle.rowex_replay_state.proofs.LoadSteps.{fixed_loaded}
use Rattle.rowex_replay_state.proofs.state.State.load_fixed.Goals as goal

pub returns : goal.returns
returns c =
    let place = rw c.layout.ensures at (c.is_offset_of_fixed_word.ensures.0 c.if-not-is_offset_of_fixed_word.false) in
    rw (sym c.self.view_is) (fixed_loaded c.has_word.result _ c.args.pass c.args.rec c.args.offset c.args.word ((λ t. (place.0, place.1, c.has_word.ensures.0 t)), (λ (at, there, has). c.has_word.ensures.1 has)))
