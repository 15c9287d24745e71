-- A removal of the value needs no leaf record.
use Rattle.hot_c.proofs.exports.hot_try_remove_if.Goals as goal

pub returns-clause-leafless : goal.returns-clause-leafless
returns-clause-leafless c = c.make_call.ensures.may.leaves (λ may. may)
