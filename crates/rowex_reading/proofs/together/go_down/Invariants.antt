-- The searches before the index have gone down a node.
use Rattle.rowex_reading.proofs.together.Together.{HaveGone}
use Rattle.rowex_reading.proofs.together.go_down.Given as goal

abbrev pub invariant-loop-index : goal.invariant-loop-index
invariant-loop-index g l = record {
  gone : HaveGone l.table g.G.Gate.becomes l.keys (l.fn.seat, l.fn.gate) l.fn.tips l.index (l.seat, l.gate) l.tips l.lower;
}
