-- The position and the other columns so far are columns.
use Rattle.std.proofs.Common.{◌+◌, ◌≤◌, ◌∷◌, ℕ, length, take}
use Rattle.compound_node.specs.Joining.{IsWidened}
use Rattle.compound_node.proofs.joining.ensure_columns.Given as goal

abbrev pub invariant-loop-other : goal.invariant-loop-other
invariant-loop-other l = record {
  widened : (count : ℕ) → IsWidened count (l.position ∷ take l.other-index l.other-items) l.fn.columns l.fn.rows l.columns l.lanes;
  few : length l.columns ≤ length l.fn.columns + 1 + l.other-index;
}
