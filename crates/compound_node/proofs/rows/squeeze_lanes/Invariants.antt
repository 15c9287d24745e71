-- The rows without those later columns that `used` has not got.
use Rattle.compound_node.proofs.Common.{ℕ, ◌≡◌, length, map, take, All, squeezed_from, IsRowOver}
use Rattle.compound_node.proofs.rows.squeeze_lanes.Given as goal

abbrev pub invariant-loop-column : goal.invariant-loop-column
invariant-loop-column l = record {
  whole : length l.left ≡ 32;
  each : (n : ℕ) → All (IsRowOver l.fn.columns) (take n l.fn.rows) → take n l.left ≡ map (squeezed_from l.fn.used l.column) (take n l.fn.rows);
}
