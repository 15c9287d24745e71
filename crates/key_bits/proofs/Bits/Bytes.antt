-- The first bit at which two bytes differ, and the bits of a byte behind a 1.
use Rattle.std.proofs.Common.{◌≡◌, ◌≢◌, cond, ◌||◌, eqb, ℕ, zero, suc, ◌+◌, ◌-◌, ◌*◌, ◌/◌, ◌%◌, ◌^◌, ◌<◌, ◌≤◌, refl, sym, ap, ◌∙◌, arith, ⊎_elim}
use Rattle.std.specs.Prelude.{bit_xor, bit_and}
use Rattle.std.specs.Int.{bit_at}
use Rattle.std.proofs.lemmas.Nat.{pow_pos, le-div, leading_top, shr_high, xor_lt, xor_shr, shr-shr}
use Rattle.std.proofs.lemmas.Nat.Bits.{shr_and_one, bit_at_cat_low, bit_at_cat_high, bit_at_xor, bit_at-lt, bit_at_above, same_from_bits, bit_at-zero}
use Rattle.std.proofs.lemmas.Bool.{cases_lt, ne_eqb}
use Rattle.std.proofs.Math.Nat.{pow-suc, div-mul-le_self}
use Rattle.std.proofs.Math.Numerals.{add-one}
use lib.Count.{count_leading_zeros}
use Rattle.key_bits.specs.Bits.{BytesDifferAt}

same_from_xor : (u v : ℕ) → bit_xor u v ≡ 0 → u ≡ v
same_from_xor u v e = same_from_bits u v (λ i.
    let h : (bit_at u i + bit_at v i) % 2 ≡ 0 = sym (bit_at_xor u v i) ∙ ap (λ n. bit_at n i) e ∙ bit_at-zero i in
    omega (arith, h, bit_at-lt u i, bit_at-lt v i))

nonzero : (u v : ℕ) → u ≢ v → 0 < bit_xor u v
nonzero u v d = ⊎_elim (λ (e : bit_xor u v < 1). absurd (d (same_from_xor u v (omega arith)))) (λ e. omega arith) (cases_lt (bit_xor u v) 1)

div_mono : (m x y : ℕ) → 0 < m → x ≤ y → x / m ≤ y / m
div_mono m x y pos l = le-div (x / m) y m pos (omega (arith, div-mul-le_self x m, l))

pub top_digit : (m j : ℕ) → 2 ^ j ≤ m → m < 2 ^ suc j → m / 2 ^ j ≡ 1
top_digit m j a b =
    let is : m ≡ 1 * 2 ^ j + (m - 2 ^ j) = omega arith in
    let low : m - 2 ^ j < 2 ^ j = omega (arith, pow-suc 2 j) in
    ap (λ n. n / 2 ^ j) is ∙ shr_high 1 j (m - 2 ^ j) low

-- k is the highest bit at which x and y differ
module _ (x y k : ℕ) (low : 2 ^ k ≤ bit_xor x y) (high : bit_xor x y < 2 ^ suc k) where
  differ_at : (bit_at x k + bit_at y k) % 2 ≡ 1
  differ_at = sym (bit_at_xor x y k) ∙ ap (λ n. n % 2) (top_digit (bit_xor x y) k low high)

  agree_at : (i : ℕ) → k < i → bit_at x i ≡ bit_at y i
  agree_at i l =
      let h : (bit_at x i + bit_at y i) % 2 ≡ 0 = sym (bit_at_xor x y i) ∙ bit_at_above (bit_xor x y) (suc k) i high l in
      omega (arith, h, bit_at-lt x i, bit_at-lt y i)

  same_above : x / 2 ^ suc k ≡ y / 2 ^ suc k
  same_above = same_from_xor _ _ (sym (xor_shr x y (suc k)) ∙ (let is : bit_xor x y ≡ 0 * 2 ^ suc k + bit_xor x y = omega arith in ap (λ n. n / 2 ^ suc k) is ∙ shr_high 0 (suc k) (bit_xor x y) high))

  at_top : (z : ℕ) → z / 2 ^ k ≡ 2 * (z / 2 ^ suc k) + bit_at z k
  at_top z = let e : z / 2 ^ k / 2 ≡ z / 2 ^ suc k = rw (← add-one k) (shr-shr z k 1) in omega (arith, e)

  -- the smaller number has 0 there
  smaller : x < y → bit_at x k ≡ 0
  smaller l =
      let le : x / 2 ^ k ≤ y / 2 ^ k = div_mono (2 ^ k) x y (pow_pos k) (omega arith) in
      omega (arith, le, at_top x, at_top y, same_above, differ_at, bit_at-lt x k, bit_at-lt y k)

  larger : y < x → bit_at x k ≡ 1
  larger l =
      let le : y / 2 ^ k ≤ x / 2 ^ k = div_mono (2 ^ k) y x (pow_pos k) (omega arith) in
      omega (arith, le, at_top x, at_top y, same_above, differ_at, bit_at-lt x k, bit_at-lt y k)

-- two bytes that differ, differ first behind as many bits as are 0 in front of their exclusive or
pub leading_zeros-differ : (x y : ℕ) → x < 2 ^ 8 → y < 2 ^ 8 → x ≢ y →
    (count_leading_zeros 8 (bit_xor x y) < 8) × BytesDifferAt x y (count_leading_zeros 8 (bit_xor x y))
leading_zeros-differ x y lx ly d =
    let h : (j : ℕ) × (count_leading_zeros 8 (bit_xor x y) + suc j ≡ 8) × (2 ^ j ≤ bit_xor x y) × (bit_xor x y < 2 ^ suc j) =
    leading_top 8 (bit_xor x y) (nonzero x y d) (xor_lt 8 x y lx ly) in
    let n : ℕ = count_leading_zeros 8 (bit_xor x y) in
    let at : h.0 ≡ 7 - n = omega (arith, h.1) in
    let k : ℕ = h.0 in
    let few : n < 8 = omega (arith, h.1) in
    let found : BytesDifferAt x y n = record {
      differ = rw (← at) (λ e. let o : (bit_at x k + bit_at y k) % 2 ≡ 1 = differ_at x y k h.2 h.3 in absurd (omega (arith, o, e)));
      agree = λ j l. agree_at x y k h.2 h.3 (7 - j) (omega (arith, at));
      less = λ l. rw (← at) (smaller x y k h.2 h.3 l);
      more = λ l. rw (← at) (larger x y k h.2 h.3 l);
    } in (few, found)

pub bytes_differ : (x y : ℕ) → x < 256 → y < 256 → x ≢ y → (n : ℕ) × (n < 8) × BytesDifferAt x y n
bytes_differ x y lx ly d = let at : _ = leading_zeros-differ x y lx ly d in (_, at.0, at.1)

digit : (v : ℕ) → v < 2 → cond (eqb v 1) 1 0 ≡ v
digit zero l = refl
digit (suc zero) l = refl
digit (suc (suc v)) l = absurd (omega arith)

-- a byte behind a 1: the bit at a place of nine
pub nine_bits : (x r : ℕ) → x < 2 ^ 8 → r < 9 → bit_and ((256 + x) / 2 ^ (8 - r)) 1 ≡ cond (eqb r 0 || eqb (bit_at x (8 - r)) 1) 1 0
nine_bits x r lx lr = shr_and_one (256 + x) (8 - r) ∙ ⊎_elim (λ (z : r < 1). let e : r ≡ 0 = omega arith in rw e (bit_at_cat_high 1 8 x 8 lx (omega arith)))
    (λ (z : 1 ≤ r). bit_at_cat_low 1 8 x (8 - r) (omega arith) ∙ rw (ne_eqb r 0 (omega arith)) (sym (digit (bit_at x (8 - r)) (bit_at-lt _ _)))) (cases_lt r 1)
