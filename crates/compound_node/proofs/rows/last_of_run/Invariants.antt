-- The rows since the found one agree with it.
use Rattle.compound_node.proofs.Common.{◌≡◌, ℕ, ◌<◌, get_or, true, agree_in}
use Rattle.compound_node.proofs.rows.last_of_run.Given as goal

abbrev pub invariant-loop-i : goal.invariant-loop-i
invariant-loop-i l = (k : ℕ) → l.slot < k → k < l.i → agree_in l.columns (get_or l.rows k 0) (get_or l.rows l.slot 0) ≡ true
