-- The count is made on the handle's pass.
use Rattle.std.proofs.Common.{refl}
use Rattle.hot_c.proofs.Statuses.{of_key}
use Rattle.hot_c.proofs.counting.Counting.{counted}
use Rattle.hot_c.proofs.counting.hot_count.Goals as goal

pub returns-clause-call : goal.returns-clause-call
returns-clause-call c = counted c.args.from.now c.args.upto.now _ _ _ _ _ _ _ _ _ c.lend.ensures.value refl
    (of_key c.args.from.now _ _ c.in-Ok-Ok.is-0 c.set_bytes.ensures.fits c.set_bytes.ensures.ok)
    (of_key c.args.upto.now _ _ c.in-Ok-Ok.is-1 c.set_bytes-2.ensures.fits c.set_bytes-2.ensures.ok)
    c.count_range.ensures refl refl
