-- The rows so far.
use Rattle.rowex_replay_state.proofs.node.Heads.{AreRowsBelow}
use Rattle.rowex_replay_state.proofs.fixed.read_rows.Given as goal

abbrev pub invariant-loop-slot : goal.invariant-loop-slot
invariant-loop-slot l = AreRowsBelow l.words l.numbers l.rows l.slot
