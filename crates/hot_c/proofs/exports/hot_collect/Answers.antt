-- The round is made on the handle's pass.
use Rattle.std.proofs.Common.{refl}
use Rattle.hot_c.proofs.exports.hot_collect.Goals as goal

pub returns-clause-round : goal.returns-clause-round
returns-clause-round c = λ some. (refl, record { before = _; after = _; was = c.lend.ensures.value; is = refl; stays = record { index = c.collect-given.ensures.call.index; pass = (c.collect-given.ensures.call.pass, c.collect-given.ensures.made.pass) }; keeps = refl })
