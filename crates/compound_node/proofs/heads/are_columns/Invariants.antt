-- The positions so far rise, and the others must from there.
use Rattle.compound_node.proofs.Common.{drop, AllBelow, Ascends}
use Rattle.compound_node.proofs.heads.are_columns.Given as goal

abbrev pub invariant-loop-position : goal.invariant-loop-position
invariant-loop-position l = record {
  rest : Ascends 0 l.positions → AllBelow 65535 l.positions → Ascends l.least (drop l.position-index l.positions) × AllBelow 65535 (drop l.position-index l.positions);
  whole : Ascends l.least (drop l.position-index l.positions) → AllBelow 65535 (drop l.position-index l.positions) → Ascends 0 l.positions × AllBelow 65535 l.positions;
}
