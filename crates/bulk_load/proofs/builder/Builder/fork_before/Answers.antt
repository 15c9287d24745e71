-- The keys part where they first differ.
use Rattle.bulk_load.proofs.Common.{◌≡◌, ◌≢◌, ◌<◌, refl, sym, subst, ◌∙◌, rules, Less, Equal, vec_len, key_order, Key}
use Rattle.tries.proofs.Content.Maps.{same_order}
use Rattle.bulk_load.proofs.builder.Pushing.{parted_by}
use Rattle.bulk_load.proofs.builder.Builder.fork_before.Goals as goal

not_above : (k l : Key) → k ≡ l → key_order k l ≢ Less
not_above k l same less = absurd (let e : Equal ≡ Less = sym (same_order l) ∙ subst (λ m. key_order m l ≡ Less) same less in cc)

pub returns-in_default-clause-fault : goal.returns-in_default-clause-fault
returns-in_default-clause-fault c =
    let some : 0 < vec_len c.args.self.now.pieces = search rules in
    (refl, some, not_above c.args.self.now.last c.args.key.now (c.in_default.ensures.none.0 (search rules)))

pub returns-then-bit-clause-parted : goal.returns-then-bit-clause-parted
returns-then-bit-clause-parted c = λ some. parted_by c.in-Some.position c.args.self.now.last c.args.key.now c.in-Some.ensures.first (sym c.bit.ensures ∙ c.if-bit.true)
