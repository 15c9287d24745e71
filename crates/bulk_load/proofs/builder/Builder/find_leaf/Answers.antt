-- Each class has been tried.
use Rattle.std.proofs.Common.{arith}
use Rattle.bulk_load.proofs.Tables.{none_left}
use Rattle.bulk_load.proofs.builder.Builder.find_leaf.Goals as goal

pub returns-clause-none : goal.returns-clause-none
returns-clause-none c = λ has none. none_left c.args.self.now.layout c.args.self.now.words.items c.args.self.now.leaves c.args.words has.1 (λ i few. c.loop-class.invariant i (omega (arith, few)))
