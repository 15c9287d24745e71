-- The columns so far.
use Rattle.rowex_replay_state.proofs.Common.{◌≡◌, length, take, AreNumbersOf, InNodesOf}
use Rattle.rowex_replay_state.proofs.fixed.read_columns.Given as goal

abbrev pub invariant-loop-column : goal.invariant-loop-column
invariant-loop-column l = (length l.columns.items ≡ l.column) × InNodesOf l.words (λ node. AreNumbersOf l.numbers node → l.columns.items ≡ take l.column node.columns)
