-- Lanes put together to words, and read of them: all, and one by itself.
use Rattle.record_words.proofs.Common.{ℕ, zero, suc, ◌≡◌, ◌+◌, ◌*◌, ◌/◌, ◌%◌, ◌^◌, ◌<◌, List, arith, get_or, length, sym, ap, subst, ◌∙◌, get_or_narrower}
use lib.Lanes.{Each1, digits_l, number_l}
use Rattle.record_words.specs.Kinds.{lane_words}
use Rattle.record_words.proofs.near.Digits.{IsBase, base_64, digits_of_number, number-lt, number_of_digits}

digits_small : (n x : ℕ) → Each1 (λ d. d < 2 ^ 64) (digits_l (2 ^ 64) n x)
digits_small zero x = tt
digits_small (suc n) x = (omega arith, digits_small n (x / 2 ^ 64))

-- `count` lanes of w bits, m in each of n words
module _ (w m n count : ℕ) (base : IsBase (2 ^ w)) (lanes : List ℕ) (long : length lanes ≡ count) (small : Each1 (λ x. x < 2 ^ w) lanes) (room : (2 ^ w) ^ count ≡ (2 ^ 64) ^ n) where
  -- the words give back the lanes
  pub lanes_back : digits_l (2 ^ w) count (number_l (2 ^ 64) (lane_words w n lanes)) ≡ lanes
  unfolding lane_words
  lanes_back =
      ap (digits_l (2 ^ w) count) (number_of_digits (2 ^ 64) base_64 n (number_l (2 ^ w) lanes) (subst (λ k. number_l (2 ^ w) lanes < k) room (number-lt (2 ^ w) count lanes long small)))
      ∙ digits_of_number (2 ^ w) base count lanes long small

  pub words_small : Each1 (λ x. x < 2 ^ 64) (lane_words w n lanes)
  unfolding lane_words
  words_small = digits_small n (number_l (2 ^ w) lanes)

  -- lane r of word j
  pub lane_at : (j r i : ℕ) → 2 ^ 64 ≡ (2 ^ w) ^ m → r < m → m * j + r ≡ i → i < count → get_or (lane_words w n lanes) j 0 / (2 ^ w) ^ r % 2 ^ w ≡ get_or lanes i 0
  lane_at j r i whole low is inside =
      sym (get_or_narrower (2 ^ 64) m (2 ^ w) count (lane_words w n lanes) j r whole words_small low (omega (arith, is, inside)))
      ∙ (ap (λ k. get_or (digits_l (2 ^ w) count (number_l (2 ^ 64) (lane_words w n lanes))) k 0) is
      ∙ ap (λ xs. get_or xs i 0) lanes_back)
