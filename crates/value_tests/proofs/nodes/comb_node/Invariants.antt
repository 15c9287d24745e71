use Rattle.value_tests.proofs.Combs.{IsCombUpTo}
use Rattle.value_tests.proofs.nodes.comb_node.Given as goal

abbrev pub invariant-loop-i : goal.invariant-loop-i
invariant-loop-i g l = IsCombUpTo l.positions l.i l.node
