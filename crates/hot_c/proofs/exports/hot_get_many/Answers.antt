-- The look-ups are made on the handle's pass, and what they found stands in the array.
use Rattle.hot_c.proofs.Common.{◌≡◌, ◌∙◌, length, map, ap, refl, arith, length-map}
use Rattle.hot_c.specs.Lookups.{are_answered, key_in}
use Rattle.hot_c.proofs.lookups.Lookups.{first_of, looked_up}
use Rattle.hot_c.proofs.exports.hot_get_many.Goals as goal

pub returns-clause-call : goal.returns-clause-call
returns-clause-call c =
    let keys : c.deref.result.now ≡ map key_in c.args.lookups.now = c.deref.ensures.value ∙ c.in-Ok.ensures in
    let many : length c.get_many.new.found ≡ length c.args.lookups.now =
    omega (arith, c.get_many.auto.found, c.deref_mut.ensures.len, c.in-Ok-from_elem.ensures.len, c.len.ensures, ap length c.in-Ok.ensures, length-map c.args.lookups.now key_in) in
    let found : c.deref-2.result.now ≡ c.get_many.new.found = c.deref-2.ensures.value ∙ first_of _ c.get_many.new.found _ (omega (arith, c.get_many.auto.found, c.deref_mut.ensures.len, c.in-Ok-from_elem.ensures.len)) in
    let told : c.write_found_values.new.lookups ≡ are_answered c.args.lookups.now c.deref-2.result.now = c.write_found_values.ensures in
    looked_up _ _ _ _ _ _ _ c.deref.result.now c.get_many.new.found c.lend.ensures.value refl (c.if-not-have_fitting_keys.ensures.0 refl) keys many (record { index = c.get_many.ensures.call.index; pass = (c.get_many.ensures.call.pass, c.get_many.ensures.made.pass) }) refl
    (told ∙ ap (are_answered c.args.lookups.now) found) refl
