-- The call has the key now.
use Rattle.std.proofs.Common.{IsOk, refl, subst, sym}
use Rattle.hot_c.proofs.exports.make_call.Goals as goal

pub returns-in-Ok-clause-call : goal.returns-in-Ok-clause-call
returns-in-Ok-clause-call c =
    let ok : IsOk c.set_key.result = subst IsOk (sym c.in-Ok.is) refl in
    rw (← c.set_key.ensures.ok ok) (c.make_call_on_open_handle.ensures.call c.args.key.now (c.set_key.ensures.fits.0 ok) refl)

pub returns-in-Ok-clause-may : goal.returns-in-Ok-clause-may
returns-in-Ok-clause-may c =
    let ok : IsOk c.set_key.result = subst IsOk (sym c.in-Ok.is) refl in
    rw (← c.set_key.ensures.ok ok) c.make_call_on_open_handle.ensures.may
