-- The mask has a set bit below the place, and the highest such is found.
use Rattle.record_words.proofs.Common.{ℕ, ◌≡◌, ◌+◌, ◌-◌, ◌*◌, ◌/◌, ◌%◌, ◌^◌, ◌<◌, ◌≤◌, ◌∙◌, ap, arith, bit_and, subst, sym, pow_mono, and_mask, leading_top, mod-pow-add, mod_below, pow_pos}
use lib.Count.{count_leading_zeros}
use Rattle.record_words.proofs.search.last_of.Goals as goal

module _ (mask count : ℕ) (some : 1 ≤ count) (few : count ≤ 32) where
  most : 2 ^ count ≤ 2 ^ 32
  most = pow_mono {i = count} {j = 32} few

  masked : bit_and mask (1 * 2 ^ count % 18446744073709551616 - 1) ≡ mask % 2 ^ count
  masked = ap (λ b. bit_and mask (b - 1)) (let m = most in omega (arith, m)) ∙ and_mask mask count

  found : mask % 2 ≡ 1 → count_leading_zeros 64 (mask % 2 ^ count) ≤ 63
  found odd =
      let n : ℕ = count - 1 in
      let e : n + 1 ≡ count = omega (arith, some) in
      let parts : mask % 2 ^ count ≡ (mask / 2 ^ 1 % 2 ^ n) * 2 ^ 1 + mask % 2 ^ 1 = ap (λ k. mask % 2 ^ k) (sym e) ∙ mod-pow-add mask n 1 in
      let below : mask % 2 ^ count < 2 ^ count = mod_below mask (2 ^ count) (pow_pos count) in
      let m = most in
      let top = leading_top 64 (mask % 2 ^ count) (omega (arith, parts, odd)) (omega (arith, below, m)) in
      let place = top.1 in
      omega (arith, place)

pub overflow_sub-result-2 : goal.overflow_sub-result-2
overflow_sub-result-2 c =
    let (some, few) = c.requires.few in
    subst (λ m. count_leading_zeros 64 m ≤ 63) (sym (masked c.args.mask c.args.count some few)) (found c.args.mask c.args.count some few c.requires.some)

pub returns : goal.returns
returns c = let (some, few) = c.requires.few in ap (λ m. 63 - count_leading_zeros 64 m) (masked c.args.mask c.args.count some few)
