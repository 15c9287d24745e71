-- The rows so far are below the bit.
use Rattle.compound_node.proofs.Common.{◌≡◌, ◌+◌, ◌^◌, drop, front_below}
use Rattle.compound_node.proofs.rows.count_zero_side.Given as goal

abbrev pub invariant-loop-i : goal.invariant-loop-i
invariant-loop-i l = l.i + front_below (2 ^ 31) (drop l.i l.rows) ≡ front_below (2 ^ 31) l.rows
