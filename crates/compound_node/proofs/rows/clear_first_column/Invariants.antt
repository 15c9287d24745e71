-- The rows so far, cleared.
use Rattle.std.proofs.Common.{◌≡◌, take, map, ◌%◌, ◌^◌}
use Rattle.compound_node.proofs.rows.clear_first_column.Given as goal

abbrev pub invariant-loop-row : goal.invariant-loop-row
invariant-loop-row l = l.out.items ≡ map (λ r. r % 2 ^ 31) (take l.row-index l.rows)
