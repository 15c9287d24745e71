-- The records before the index were found not free.
use Rattle.rowex_writing.proofs.build.Walks.{HasLooked}
use Rattle.rowex_writing.proofs.build.nodes.load_states.Given as goal

abbrev pub invariant-loop-index : goal.invariant-loop-index
invariant-loop-index g l = HasLooked l.table g.G.Gate.becomes l.made l.index (l.fn.seat, l.fn.gate) (l.seat, l.gate)
