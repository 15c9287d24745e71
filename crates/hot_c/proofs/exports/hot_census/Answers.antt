-- The records are counted on the handle's pass.
use Rattle.std.proofs.Common.{refl}
use Rattle.hot_c.proofs.exports.hot_census.Goals as goal

pub returns-clause-counted : goal.returns-clause-counted
returns-clause-counted c = λ some. (refl, record { before = _; after = _; was = c.lend.ensures.value; is = refl; stays = record { index = c.census-found.ensures.call.index; pass = (c.census-found.ensures.call.pass, c.census-found.result, c.census-found.ensures.made.pass, c.show_counts.ensures) }; keeps = refl })
