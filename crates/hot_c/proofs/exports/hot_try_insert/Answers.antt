-- The call that is made is an insertion of the key.
use Rattle.hot_c.proofs.exports.hot_try_insert.Goals as goal

pub returns : goal.returns
returns c = record { call = c.make_call.ensures.call; place = c.make_call.ensures.place }
