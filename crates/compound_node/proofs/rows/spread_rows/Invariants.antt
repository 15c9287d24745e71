-- The rows so far, spread.
use Rattle.compound_node.proofs.Common.{◌≡◌, ◌++◌, drop, map, take, spread_row}
use Rattle.compound_node.proofs.rows.spread_rows.Given as goal

abbrev pub invariant-loop-i : goal.invariant-loop-i
invariant-loop-i l = l.rows ≡ map (spread_row l.column) (take l.i l.initial.rows) ++ drop l.i l.initial.rows
