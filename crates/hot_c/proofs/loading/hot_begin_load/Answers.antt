-- The load was opened.
use Rattle.std.proofs.Common.{inl, refl}
use Rattle.hot_c.proofs.loading.hot_begin_load.Goals as goal

pub returns-in-Ok-clause-begun : goal.returns-in-Ok-clause-begun
returns-in-Ok-clause-begun c = λ closed size. inl (refl, (c.in-Ok.begun.value, c.open.ensures, rw c.to_stock-records.ensures at c.in-Ok.ensures.begun))
