-- Each fork goes on from a comb.
use Rattle.std.proofs.Common.{arith, refl}
use Rattle.value_tests.proofs.Combs.{comb_goes_on, last_is_affected}
use Rattle.value_tests.proofs.nodes.comb_node.Goals as goal

pub add_entry-requires-clause-range : goal.add_entry-requires-clause-range
add_entry-requires-clause-range g c =
    last_is_affected c.args.positions.now c.loop-i.node c.loop-i.i c.loop-i.invariant (omega arith) (omega arith) (omega arith)

pub loop-i-preserved : goal.loop-i-preserved
loop-i-preserved g c =
    comb_goes_on c.args.positions.now c.loop-i.node c.loop-i.i c.loop-i.invariant (omega arith) (omega arith) (omega arith)
    c.add_entry.new.self _ refl c.add_entry.ensures
