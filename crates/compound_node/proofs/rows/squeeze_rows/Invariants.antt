-- The rows without those later columns that `used` has not got.
use Rattle.compound_node.proofs.Common.{◌≡◌, map, squeezed_from}
use Rattle.compound_node.proofs.rows.squeeze_rows.Given as goal

abbrev pub invariant-loop-column : goal.invariant-loop-column
invariant-loop-column l = l.rows ≡ map (squeezed_from l.used l.column) l.initial.rows
