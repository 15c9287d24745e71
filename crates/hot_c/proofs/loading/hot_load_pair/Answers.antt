-- The pair is given to the load that was lent.
use Rattle.std.proofs.Common.{refl}
use Rattle.hot_c.proofs.Statuses.{of_key}
use Rattle.hot_c.proofs.Loads.{given_pair}
use Rattle.hot_c.proofs.loading.hot_load_pair.Goals as goal

pub returns-in-Ok : goal.returns-in-Ok
returns-in-Ok c =
    let fit = of_key c.args.key.now _ _ c.in-Ok.is c.set_bytes.ensures.fits c.set_bytes.ensures.ok in
    given_pair c.args.key.now _ c.args.value _ _ _ _ _ c.lend.ensures.value refl fit.0 fit.1 c.push_pair.ensures
