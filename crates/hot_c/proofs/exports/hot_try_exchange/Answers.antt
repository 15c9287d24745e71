-- An exchange takes no record.
use Rattle.hot_c.proofs.exports.hot_try_exchange.Goals as goal

pub returns-clause-takes : goal.returns-clause-takes
returns-clause-takes c = let may = c.make_call.ensures.may in (may.nodes (λ may. may), may.leaves (λ may. may), may.held (λ may. may) (λ may. may))
