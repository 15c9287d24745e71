-- The rows of the 1 side so far.
use Rattle.std.proofs.Common.{◌≡◌, ◌++◌, bit_or, map, take}
use Rattle.compound_node.proofs.joining.concatenate_rows.Given as goal

abbrev pub invariant-loop-row : goal.invariant-loop-row
invariant-loop-row l = l.rows.items ≡ l.zero ++ map (λ row. bit_or row l.bit) (take l.row-index l.one)
