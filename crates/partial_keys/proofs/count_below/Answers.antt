-- The lowest bit is that of the first lane that reaches the bound.
use Rattle.std.proofs.Common.{sym, subst, ap, ◌∙◌, ◌<◌, ◌^◌}
use Rattle.partial_keys.proofs.Reaching.{first_reaching, lanes_reach, reach-lt}
use Rattle.partial_keys.proofs.count_below.Goals as goal
use lib.Count.{count_trailing_zeros}

pub overflow_cast-reached : goal.overflow_cast-reached
overflow_cast-reached c = record { fits = subst (λ n. n < 2 ^ 32) (sym (lanes_reach c.args.bound c.args.lanes c.fits-lanes.0)) (reach-lt c.args.bound c.args.lanes c.fits-lanes.0) }

pub returns : goal.returns
returns c = ap (count_trailing_zeros 32) (lanes_reach c.args.bound c.args.lanes c.fits-lanes.0) ∙ first_reaching c.args.bound c.args.lanes c.fits-lanes.0
