-- The fork's sides are in the order of the bit.
use Rattle.rowex_writing.proofs.Common.{sym, subst, IsBuiltFrom, piece, RisesFrom, fork_of}
use Rattle.rowex_writing.proofs.merging.merge_sides.Goals as goal

pub merge-requires-clause-after : goal.merge-requires-clause-after
merge-requires-clause-after c = subst (λ u. RisesFrom 0 (fork_of u c.args.position (piece c.args.own.now) (piece c.args.other.now))) c.if-bit.true c.requires.after

pub returns-then-bit : goal.returns-then-bit
returns-then-bit c = subst (λ u. IsBuiltFrom c.merge.result (fork_of u c.args.position (piece c.args.own.now) (piece c.args.other.now))) (sym c.if-bit.true) c.merge.ensures

pub merge-requires-else-bit-clause-after : goal.merge-requires-else-bit-clause-after
merge-requires-else-bit-clause-after c = subst (λ u. RisesFrom 0 (fork_of u c.args.position (piece c.args.own.now) (piece c.args.other.now))) c.if-bit.false c.requires.after

pub returns-else-bit : goal.returns-else-bit
returns-else-bit c = subst (λ u. IsBuiltFrom c.merge-else-bit.result (fork_of u c.args.position (piece c.args.own.now) (piece c.args.other.now))) (sym c.if-bit.false) c.merge-else-bit.ensures
