-- The scan is made on the handle's pass.
use Rattle.std.proofs.Common.{refl}
use Rattle.hot_c.proofs.Statuses.{of_key}
use Rattle.hot_c.proofs.Orders.{filled, unfilled}
use Rattle.hot_c.proofs.scans.fill_list.Goals as goal

pub returns-in-Ok-clause-ok : goal.returns-in-Ok-clause-ok
returns-in-Ok-clause-ok c = filled c.args.query.now.from.now c.args.query.now.upto.now _ _ _ _ _ _ _ c.lend-opened.ensures.value
    (of_key c.args.query.now.from.now _ _ c.in-Ok-Ok.is-0 c.set_bytes.ensures.fits c.set_bytes.ensures.ok)
    (of_key c.args.query.now.upto.now _ _ c.in-Ok-Ok.is-1 c.set_bytes-2.ensures.fits c.set_bytes-2.ensures.ok)
    c.args.query.now.order _ _ refl c.in-Ok.ensures.call.index c.in-Ok.ensures.call.pass.ok c.in-Ok.ensures.call.pass.read c.len.ensures.count c.len.ensures.short
    c.in-Ok.ensures.keeps

pub returns-in-Err-clause-err : goal.returns-in-Err-clause-err
returns-in-Err-clause-err c = unfilled c.args.query.now.from.now c.args.query.now.upto.now _ _ _ _ _ _ c.scan.new.self c.lend-opened.ensures.value
    (of_key c.args.query.now.from.now _ _ c.in-Ok-Ok.is-0 c.set_bytes.ensures.fits c.set_bytes.ensures.ok)
    (of_key c.args.query.now.upto.now _ _ c.in-Ok-Ok.is-1 c.set_bytes-2.ensures.fits c.set_bytes-2.ensures.ok)
    _ _ refl c.empty_list.ensures c.in-Err.ensures.keeps c.in-Err.ensures.call.index c.in-Err.ensures.call.pass.err
    c.in-Err.ensures.call.pass.memory c.in-Err.ensures.call.pass.read refl
