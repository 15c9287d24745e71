-- The look-up is made on the handle's pass.
use Rattle.hot_c.proofs.Common.{Ok, ap, length, refl, Get}
use Rattle.hot_c.proofs.Statuses.{answered, of_key, replied}
use Rattle.hot_c.proofs.exports.hot_get.Goals as goal

pub returns-in-Ok-clause-call : goal.returns-in-Ok-clause-call
returns-in-Ok-clause-call c =
    let fit = of_key c.args.key.now _ _ c.in-Ok.is c.set_bytes.ensures.fits c.set_bytes.ensures.ok in
    answered c.args.key.now (Get _) (Get c.args.key.now) _ _ _ _ _ _ _ (Ok c.get.result) c.lend.ensures.value refl
    (replied (length c.args.key.now) _ c.get.result c.write_reply.result _ _ c.get.ensures.call c.get.ensures.made c.write_reply.ensures.status) (ap Get fit.0) fit.1 c.write_reply.ensures.value c.get.ensures.keeps

pub returns-in-Ok-clause-place : goal.returns-in-Ok-clause-place
returns-in-Ok-clause-place c = refl
