-- The handle is open, and keeps the others.
use Rattle.std.proofs.Common.{inl, refl}
use Rattle.hot_c.proofs.exports.hot_create_keeping.Goals as goal

pub returns-in-Ok-clause-made : goal.returns-in-Ok-clause-made
returns-in-Ok-clause-made c = λ closed size. inl (refl, (c.in-Ok.keeper.value, c.open.ensures.opened, rw c.to_stock-records.ensures at c.in-Ok.ensures.made))
