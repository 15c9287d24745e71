-- The word is the state's.
use Rattle.std.proofs.Common.{sym}
use Rattle.rowex_replay_state.proofs.LoadSteps.{state_loaded}
use Rattle.rowex_replay_state.proofs.state.State.load_state.Goals as goal

pub returns : goal.returns
returns c = rw (sym c.self.view_is) (state_loaded c.has_state_word.result _ c.args.pass c.args.rec c.args.word c.has_state_word.ensures)
