-- The rows so far lost the column.
use Rattle.compound_node.proofs.Common.{◌≡◌, ◌++◌, drop, map, take, closed_row}
use Rattle.compound_node.proofs.rows.close_column_of_rows.Given as goal

abbrev pub invariant-loop-row : goal.invariant-loop-row
invariant-loop-row l = l.rows ≡ map (closed_row l.column) (take l.row-index l.initial.rows) ++ drop l.row-index l.initial.rows
