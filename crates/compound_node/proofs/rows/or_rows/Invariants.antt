-- The rows behind, joined.
use Rattle.compound_node.proofs.Common.{◌≡◌, drop, or_all}
use Rattle.compound_node.proofs.rows.or_rows.Given as goal

abbrev pub invariant-loop-i : goal.invariant-loop-i
invariant-loop-i l = l.all ≡ or_all (drop l.i l.rows)
