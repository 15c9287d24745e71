-- The first pair is the one that a scan up to the last key of all finds.
use Rattle.std.proofs.Common.{arith}
use Rattle.hot_c.proofs.ends.Ends.{as_fit}
use Rattle.hot_c.proofs.ends.hot_first.Goals as goal

pub returns : goal.returns
returns c = record { call = as_fit (λ fit. (fit, omega arith)) (λ fit. fit.0) c.find_pair.ensures.call; place = c.find_pair.ensures.place }
