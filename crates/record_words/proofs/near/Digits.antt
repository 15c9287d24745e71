-- Digits of a number: what is put together of lanes, and taken apart again.
use Rattle.record_words.proofs.Common.{ℕ, zero, suc, ◌≡◌, ◌+◌, ◌*◌, ◌/◌, ◌%◌, ◌^◌, ◌<◌, ◌≤◌, List, [], ◌∷◌, arith, length, refl, ap, ap₂, ◌∙◌, mul-le-mul_left, pow-suc, pow-zero}
use lib.Lanes.{Each1, digits_l, number_l}

-- what division by a base gives
pub record IsBase (p : ℕ) : Type 0 where
  pub low : (x n : ℕ) → x < p → (x + p * n) % p ≡ x
  pub high : (x n : ℕ) → x < p → (x + p * n) / p ≡ n
  pub parts : (x : ℕ) → x % p + p * (x / p) ≡ x
  pub less : (x n : ℕ) → x < p * n → x / p < n

pub base_8 : IsBase (2 ^ 8)
base_8 = record { low = λ x n h. omega arith; high = λ x n h. omega arith; parts = λ x. omega arith; less = λ x n h. omega arith }

pub base_16 : IsBase (2 ^ 16)
base_16 = record { low = λ x n h. omega arith; high = λ x n h. omega arith; parts = λ x. omega arith; less = λ x n h. omega arith }

pub base_64 : IsBase (2 ^ 64)
base_64 = record { low = λ x n h. omega arith; high = λ x n h. omega arith; parts = λ x. omega arith; less = λ x n h. omega arith }

-- numbers below a base make one below its power
pub number-lt : (p n : ℕ) (xs : List ℕ) → length xs ≡ n → Each1 (λ x. x < p) xs → number_l p xs < p ^ n
number-lt p zero [] e h = omega (arith, pow-zero p)
number-lt p zero (x ∷ xs) e h = absurd (omega (arith, e))
number-lt p (suc n) [] e h = absurd (omega (arith, e))
number-lt p (suc n) (x ∷ xs) e h =
    let low = number-lt p n xs (omega (arith, e)) h.1 in
    let more : number_l p xs + 1 ≤ p ^ n = omega (arith, low) in
    omega (arith, h.0, mul-le-mul_left p more, pow-suc p n)

module _ (p : ℕ) (base : IsBase p) where
  -- the digits make the number
  pub number_of_digits : (n x : ℕ) → x < p ^ n → number_l p (digits_l p n x) ≡ x
  number_of_digits zero x h = omega (arith, h, pow-zero p)
  number_of_digits (suc n) x h =
      ap (λ m. x % p + p * m) (number_of_digits n (x / p) (base.less x (p ^ n) (omega (arith, h, pow-suc p n)))) ∙ base.parts x

  -- and a number has the digits that it is made of
  pub digits_of_number : (n : ℕ) (xs : List ℕ) → length xs ≡ n → Each1 (λ x. x < p) xs → digits_l p n (number_l p xs) ≡ xs
  digits_of_number zero [] e h = refl
  digits_of_number zero (x ∷ xs) e h = absurd (omega (arith, e))
  digits_of_number (suc n) [] e h = absurd (omega (arith, e))
  digits_of_number (suc n) (x ∷ xs) e h =
      ap₂ (λ (y : ℕ) (ys : List ℕ). y ∷ ys) (base.low x (number_l p xs) h.0)
      (ap (digits_l p n) (base.high x (number_l p xs) h.0) ∙ digits_of_number n xs (omega (arith, e)) h.1)
