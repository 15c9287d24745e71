-- The last pair is the one that a scan downwards to the first key of all finds.
use Rattle.std.proofs.Common.{arith}
use Rattle.hot_c.proofs.ends.Ends.{as_fit}
use Rattle.hot_c.proofs.ends.hot_last.Goals as goal

pub returns : goal.returns
returns c = record { call = as_fit (λ fit. (omega arith, fit)) (λ fit. fit.1) c.find_pair.ensures.call; place = c.find_pair.ensures.place }
