-- The mask has one bit, and the zeros above it tell which.
use Rattle.std.proofs.Common.{ℕ, ◌≡◌, ◌≢◌, ◌-◌, ◌%◌, ◌∙◌, arith, refl, sym, ap}
use lib.Count.{count_leading_zeros}
use Rattle.record_words.specs.Kinds.{bit_mask}
use Rattle.record_words.proofs.near.NearLanes.{mask_of_bit}
use Rattle.record_words.proofs.HeadParts.{mask_place}
use Rattle.record_words.proofs.numbers.near_position.Goals as goal

pub returns : goal.returns
returns c = λ p mask some byte.
    let there : p % 9 ≢ 0 = λ none. (let zero_mask : bit_mask p ≡ 0 = rw none refl in omega (arith, mask, zero_mask, some)) in
    let o : ℕ = p % 9 - 1 in
    let above : count_leading_zeros 8 c.args.mask ≡ o = ap (count_leading_zeros 8) (sym mask ∙ mask_of_bit p there) ∙ mask_place o (omega (arith, there)) in
    omega (arith, above, byte, there)
