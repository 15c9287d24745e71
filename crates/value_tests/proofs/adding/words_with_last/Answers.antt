-- The last slot is affected alone.
use Rattle.std.proofs.Common.{arith, refl}
use Rattle.value_tests.proofs.Combs.{below_later, last_of_comb}
use Rattle.value_tests.proofs.adding.words_with_last.Goals as goal

pub words_with_leaf-requires-clause-range : goal.words_with_leaf-requires-clause-range
words_with_leaf-requires-clause-range g c =
    let behind = below_later _ _ c.args.positions.now (omega arith) c.comb_node-node.ensures.last in
    rw c.comb_node-node.ensures.shown (last_of_comb c.args.position _ c.args.positions.now refl behind)
