-- What is done and what is left make the whole.
use Rattle.std.proofs.Common.{◌≡◌, ◌+◌, ◌++◌, cond, drop, length}
use Rattle.compound_node.specs.Removal.{cleared_front}
use Rattle.compound_node.proofs.rows.append_cleared_rows.Given as goal

abbrev pub invariant-loop-row : goal.invariant-loop-row
invariant-loop-row l = record {
  items : l.out.items ++ cond l.front (cleared_front l.bit (drop l.row-index l.rows)) (drop l.row-index l.rows) ≡ l.initial.out.items ++ cleared_front l.bit l.rows;
  len : length l.out.items ≡ length l.initial.out.items + l.row-index;
}
