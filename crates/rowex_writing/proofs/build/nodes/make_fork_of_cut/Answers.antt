-- The upper half, and then the lower one.
use Rattle.std.proofs.Common.{◌++◌, refl, arith}
use Rattle.rowex_writing.proofs.build.Walks.{makes_as, makes_failed, makes_then, makes_within}
use Rattle.rowex_writing.proofs.build.nodes.make_fork_of_cut.Goals as goal

pub returns-clause-made : goal.returns-clause-made
returns-clause-made g c = λ news b.
    let (upper, high, next) = c.in_ok-one.ensures.made news b in
    let (lower, low, last) = c.in_ok-zero.ensures.made (upper ++ news) next in (lower ++ (upper ++ news), (lower, upper, refl, low, high, refl), last)

pub returns-in_err-one-clause-makes : goal.returns-in_err-one-clause-makes
returns-in_err-one-clause-makes g c = rw c.from_residual.ensures (makes_failed (makes_within c.in_err-one.ensures.makes (omega arith) (omega arith)))

pub returns-in_err-zero-clause-makes : goal.returns-in_err-zero-clause-makes
returns-in_err-zero-clause-makes g c = rw c.from_residual-in_err-zero.ensures (makes_failed (makes_then c.in_ok-one.ensures.makes c.in_err-zero.ensures.makes (omega arith) (omega arith)))

pub returns-clause-makes : goal.returns-clause-makes
returns-clause-makes g c = makes_as (makes_then c.in_ok-one.ensures.makes c.in_ok-zero.ensures.makes (omega arith) (omega arith))
