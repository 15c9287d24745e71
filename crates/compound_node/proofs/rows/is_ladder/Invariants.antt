-- The rows so far each come next.
use Rattle.std.proofs.Common.{ℕ, ◌+◌, ◌<◌, get_or}
use Rattle.compound_node.specs.Ladders.{IsNextRow}
use Rattle.compound_node.proofs.rows.is_ladder.Given as goal

abbrev pub invariant-loop-i : goal.invariant-loop-i
invariant-loop-i l = (k : ℕ) → k + 1 < l.i → IsNextRow (get_or l.rows k 0) (get_or l.rows (k + 1) 0)
