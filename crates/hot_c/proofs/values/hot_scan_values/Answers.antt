-- The scan is made on the handle's pass, and its values stand in the array.
use Rattle.std.proofs.Common.{◌≡◌, ◌++◌, List, ℕ, arith, rules, length, drop, ap, refl, subst}
use Rattle.hot_c.proofs.Statuses.{of_key}
use Rattle.hot_c.proofs.counting.Counting.{values_listed, values_refused}
use Rattle.hot_c.proofs.values.hot_scan_values.Goals as goal

pub write_values-requires : goal.write_values-requires
write_values-requires c = let few = c.in-Ok.ensures.call.pass.ok.few in let same = ap length c.deref.ensures.value in omega (arith, few, same)

pub returns-in-Ok-clause-call : goal.returns-in-Ok-clause-call
returns-in-Ok-clause-call c = values_listed c.args.from.now c.args.upto.now _ _ (length c.args.room.now) _ _ _ _ c.lend-opened.ensures.value refl
    (of_key c.args.from.now _ _ c.in-Ok-Ok.is-0 c.set_bytes.ensures.fits c.set_bytes.ensures.ok)
    (of_key c.args.upto.now _ _ c.in-Ok-Ok.is-1 c.set_bytes-2.ensures.fits c.set_bytes-2.ensures.ok)
    refl _ _ _ refl _ _ c.in-Ok.ensures.call refl
    (record {
      short = c.in-Ok.ensures.call.pass.ok.few;
      written = subst (λ (vs : List ℕ). c.write_values.new.room ≡ vs ++ drop (length vs) c.args.room.now) c.deref.ensures.value c.write_values.ensures;
      count = search rules;
      more = search rules;
    })

pub returns-clause-call : goal.returns-clause-call
returns-clause-call c = values_refused c.args.from.now c.args.upto.now _ _ (length c.args.room.now) _ _ _ _ c.lend-opened.ensures.value refl
    (of_key c.args.from.now _ _ c.in-Ok-Ok.is-0 c.set_bytes.ensures.fits c.set_bytes.ensures.ok)
    (of_key c.args.upto.now _ _ c.in-Ok-Ok.is-1 c.set_bytes-2.ensures.fits c.set_bytes-2.ensures.ok)
    refl _ _ _ refl _ _ c.in-Err.ensures.call refl refl
