-- The call is made on the handle's pass.
use Rattle.std.proofs.Common.{length, refl}
use Rattle.hot_c.proofs.Statuses.{answered, for_size, told_may}
use Rattle.hot_c.proofs.exports.make_call_on_open_handle.Goals as goal

pub returns-clause-call : goal.returns-clause-call
returns-clause-call c = λ key fits same.
    let told = c.try_call.ensures.call in
    answered key c.args.call.now c.args.call.now _ _ _ _ _ _ _ told.0 c.lend.ensures.value refl (for_size c.args.size (length key) c.args.call.now c.try_call.result told.0 _ _ same told.1) refl fits told.2 c.try_call.ensures.keeps

pub returns-clause-may : goal.returns-clause-may
returns-clause-may c = let told = c.try_call.ensures.call in told_may c.args.size c.args.call.now c.try_call.result told.0 _ _ _ told.1.pass told.3
