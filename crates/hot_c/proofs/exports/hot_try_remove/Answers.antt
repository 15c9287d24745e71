-- A removal needs no leaf record.
use Rattle.hot_c.proofs.exports.hot_try_remove.Goals as goal

pub returns-clause-leafless : goal.returns-clause-leafless
returns-clause-leafless c = c.make_call.ensures.may.leaves (λ may. may)
