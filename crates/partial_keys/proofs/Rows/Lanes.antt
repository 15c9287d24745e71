-- Lanes that comply with a dense key, and the highest of the first of them.
use Rattle.partial_keys.proofs.Common.{Bool, Fits, List, [], ◌∷◌, ap, ap₂, arith, bit_and, cond, eqb, false, get_or, length, map, refl, replicate, subst, suc, sym, take, true, w32, zero, ℕ, ⊎_elim, ◌%◌, ◌*◌, ◌+◌, ◌-◌, ◌/◌, ◌<◌, ◌^◌, ◌∙◌, ◌≡◌, ◌≤◌, mul-div-le, mul-div_cancel_left, cases_lt, eq-eqb, eqb-false, eqb-true, ne_eqb, get_or-map, get_or-take, length-map, length-take-le, and-not, and_comm, and_le_r, and_shr, leading_top, mod-pow-add, pow_pos, shr_high, bit_mask_l, bitmask_splat, map-map, mask_l-lt, zip2_splat_left}
use Rattle.std.proofs.Math.Pow.{pow_mono}
use Rattle.partial_keys.specs.Rows.{complies, IsHighest}
use mir.Syntax.{Width}
use mir.Val.{bits, hbits}
use lib.Count.{count_leading_zeros}
use lib.Lanes.{Each1, mask_l, top, zip2}
use Rattle.key_bits.proofs.Bits.Bytes.{top_digit}

-- the lane of w bits has no bit that the dense one lacks
abbrev pub lacks_none : ℕ → ℕ → ℕ → Bool
lacks_none w dense lane = eqb (bit_and (2 ^ w - 1 - dense) lane) 0

pub lanes_lack_none : (w : Width) (xs : List ℕ) (d : ℕ) → length xs ≡ 32 →
    mask_l (map (top (hbits w)) (zip2 (λ a b. cond (eqb a b) (2 ^ bits w - 1) 0) (zip2 bit_and (replicate 32 (2 ^ bits w - 1 - d)) xs) (replicate 32 0))) % 2 ^ 64 ≡ mask_l (map (lacks_none (bits w) d) xs)
lanes_lack_none w xs d long =
    let n : ℕ = 2 ^ bits w - 1 - d in
    let is : zip2 bit_and (replicate 32 n) xs ≡ map (bit_and n) xs = zip2_splat_left bit_and n 32 xs long in
    bitmask_splat w eqb (zip2 bit_and (replicate 32 n) xs) 32 0 (ap length is ∙ (length-map xs (bit_and n) ∙ long)) (omega arith)
    ∙ ap mask_l (ap (map (λ x. eqb x 0)) is ∙ map-map (λ x. eqb x 0) (bit_and n) xs)

-- a lane that lacks none complies
pub lane_complies : (w d x : ℕ) → d < 2 ^ w → x < 2 ^ w → lacks_none w d x ≡ complies d x
lane_complies w d x dense lane = go (eqb (bit_and (2 ^ w - 1 - d) x) 0) refl
  where
    both : bit_and (2 ^ w - 1 - d) x + bit_and d x ≡ x
    both = and-not w d x dense lane

    go : (t : Bool) → eqb (bit_and (2 ^ w - 1 - d) x) 0 ≡ t → eqb (bit_and (2 ^ w - 1 - d) x) 0 ≡ complies d x
    go true e = e ∙ sym (eq-eqb (bit_and d x) x (omega (arith, both, eqb-true _ _ e)))
    go false e = e ∙ sym (ne_eqb (bit_and d x) x (λ same. eqb-false _ _ e (omega (arith, both, same))))

-- and so does the row whose highest bits it has
high_complies : (low d x : ℕ) → complies (d / 2 ^ low) x ≡ complies d (2 ^ low * x)
high_complies low d x = go (eqb (bit_and (d / 2 ^ low) x) x) refl
  where
    row : ℕ
    row = 2 ^ low * x

    high : row / 2 ^ low ≡ x
    high = mul-div_cancel_left x (pow_pos low)

    shifted : bit_and d row / 2 ^ low ≡ bit_and (d / 2 ^ low) x
    shifted = and_shr d row low ∙ ap (bit_and (d / 2 ^ low)) high

    most : bit_and d row ≤ row
    most = and_le_r d row

    go : (t : Bool) → eqb (bit_and (d / 2 ^ low) x) x ≡ t → eqb (bit_and (d / 2 ^ low) x) x ≡ complies d (2 ^ low * x)
    go true e =
        let least : row ≤ bit_and d row = subst (λ y. 2 ^ low * y ≤ bit_and d row) (shifted ∙ eqb-true _ _ e) (mul-div-le (bit_and d row) (2 ^ low)) in
        e ∙ sym (eq-eqb (bit_and d row) row (omega (arith, least, most)))
    go false e = e ∙ sym (ne_eqb (bit_and d row) row (λ same. eqb-false _ _ e (sym shifted ∙ (ap (λ y. y / 2 ^ low) same ∙ high))))

pub lacks_none-complies : (w low d x : ℕ) → d / 2 ^ low < 2 ^ w → x < 2 ^ w → lacks_none w (d / 2 ^ low) x ≡ complies d (2 ^ low * x)
lacks_none-complies w low d x dense lane = lane_complies w (d / 2 ^ low) x dense lane ∙ high_complies low d x

-- ---- the highest set bit below a place
above_top : (m j k : ℕ) → m < 2 ^ j → j ≤ k → m / 2 ^ k ≡ 0
above_top m j k a b = let l : 2 ^ j ≤ 2 ^ k = pow_mono b in
    let is : m ≡ 0 * 2 ^ k + m = omega arith in ap (λ n. n / 2 ^ k) is ∙ shr_high 0 k m (omega arith)

one_from : (b : Bool) (n : ℕ) → n ≡ 1 → n % 2 ≡ cond b 1 0 → b ≡ true
one_from true n e f = refl
one_from false n e f = absurd (omega (arith, e, f))

none_from : (b : Bool) (n : ℕ) → n ≡ 0 → n % 2 ≡ cond b 1 0 → b ≡ false
none_from true n e f = absurd (omega (arith, e, f))
none_from false n e f = refl

-- the lanes below a place alone
mask_take : (bs : List Bool) (n : ℕ) → mask_l bs % 2 ^ n ≡ mask_l (take n bs)
mask_take [] zero = refl
mask_take [] (suc n) = mod_zero (2 ^ suc n)
  where
    mod_zero : (m : ℕ) → 0 % m ≡ 0
    mod_zero zero = refl
    mod_zero (suc m) = omega arith
mask_take (b ∷ bs) zero = omega arith
mask_take (b ∷ bs) (suc n) =
    let m : ℕ = mask_l bs in
    let c : ℕ = cond b 1 0 in
    let bit : c < 2 = bit-lt b in
    ap (λ k. (c + 2 * m) % 2 ^ k) (let e : suc n ≡ n + 1 = omega arith in e)
    ∙ (mod-pow-add (c + 2 * m) n 1
    ∙ (ap₂ (λ x y. (x % 2 ^ n) * 2 + y) (let e : (c + 2 * m) / 2 ≡ m = omega (arith, bit) in e) (let e : (c + 2 * m) % 2 ≡ c = omega (arith, bit) in e)
    ∙ (ap (λ x. x * 2 + c) (mask_take bs n) ∙ omega arith)))
  where
    bit-lt : (x : Bool) → cond x 1 0 < 2
    bit-lt true = omega arith
    bit-lt false = omega arith

-- the highest set bit of the mask of the first lanes
pub top_of_used : (t : ℕ → Bool) (xs : List ℕ) (n : ℕ) → 0 < n → n ≤ length xs → n ≤ 63 → t (get_or xs 0 0) ≡ true → let m = mask_l (map t xs) % 2 ^ n in
    (j : ℕ) × (count_leading_zeros 64 m + suc j ≡ 64) × (j < n) × (t (get_or xs j 0) ≡ true) × ((k : ℕ) → j < k → k < n → t (get_or xs k 0) ≡ false)
top_of_used t xs n some inside few first =
    let m : ℕ = mask_l (map t xs) % 2 ^ n in
    let is : m ≡ mask_l (take n (map t xs)) = mask_take (map t xs) n in
    let below : m < 2 ^ n = under in
    let bit : (i : ℕ) → i < n → m / 2 ^ i % 2 ≡ cond (t (get_or xs i 0)) 1 0 =
    λ i l. ap (λ x. x / 2 ^ i % 2) is ∙ (bit_mask_l (take n (map t xs)) i ∙ ap (λ b. cond b 1 0) (get_or-take n (map t xs) i false l ∙ get_or-map t xs i 0 false (omega (arith, inside)))) in
    let odd : m / 2 ^ 0 % 2 ≡ 1 = bit 0 some ∙ rw first refl in
    let small : m < 2 ^ 64 = let p : 2 ^ n ≤ 2 ^ 63 = pow_mono few in omega (arith, below, p) in
    let h : (j : ℕ) × (count_leading_zeros 64 m + suc j ≡ 64) × (2 ^ j ≤ m) × (m < 2 ^ suc j) = leading_top 64 m (omega (arith, odd)) small in
    let j : ℕ = h.0 in
    let within : j < n = ⊎_elim (λ a. a) (λ a. let b : 2 ^ n ≤ 2 ^ j = pow_mono a in absurd (omega (arith, b, h.2, below))) (cases_lt j n) in (
      j,
      h.1,
      within,
      one_from (t (get_or xs j 0)) (m / 2 ^ j) (top_digit m j h.2 h.3) (bit j within),
      λ k a b. none_from (t (get_or xs k 0)) (m / 2 ^ k) (above_top m (suc j) k h.3 a) (bit k b),
    )
  where
    under : mask_l (map t xs) % 2 ^ n < 2 ^ n
    under =
        let short : mask_l (take n (map t xs)) < 2 ^ length (take n (map t xs)) = mask_l-lt (take n (map t xs)) in
        let long : length (take n (map t xs)) ≡ n = length-take-le n (map t xs) (omega (arith, inside, length-map xs t)) in
        rw (mask_take (map t xs) n) (subst (λ k. mask_l (take n (map t xs)) < 2 ^ k) long short)

-- ---- lanes of 32 bits, which are rows
rows_comply : (d : ℕ) (xs : List ℕ) → d < 2 ^ 32 → Each1 (Fits w32) xs → map (lacks_none 32 d) xs ≡ map (complies d) xs
rows_comply d [] dense fits = refl
rows_comply d (x ∷ xs) dense fits = ap₂ (λ (b : Bool) (bs : List Bool). b ∷ bs) (lane_complies 32 d x dense fits.0.fits) (rows_comply d xs dense fits.1)

pub lanes_comply : (xs : List ℕ) (d : ℕ) → length xs ≡ 32 → d < 2 ^ 32 → Each1 (Fits w32) xs →
    mask_l (map (top 31) (zip2 (λ a b. cond (eqb a b) (2 ^ 32 - 1) 0) (zip2 bit_and (replicate 32 (2 ^ 32 - 1 - d)) xs) (replicate 32 0))) % 2 ^ 64 ≡ mask_l (map (complies d) xs)
lanes_comply xs d long dense fits = lanes_lack_none w32 xs d long ∙ ap mask_l (rows_comply d xs dense fits)

pub highest_of_lanes : (xs : List ℕ) (d m : ℕ) → length xs ≡ 32 → get_or xs 0 0 ≡ 0 → m ≡ mask_l (map (complies d) xs) →
    (count_leading_zeros 64 m ≤ 63) × IsHighest xs d (63 - count_leading_zeros 64 m)
highest_of_lanes xs d m long first is =
    let below : m < 2 ^ 32 = let l : mask_l (map (complies d) xs) < 2 ^ length (map (complies d) xs) = mask_l-lt (map (complies d) xs) in rw is (rw (length-map xs (complies d), long) at l) in
    let all : m ≡ mask_l (map (complies d) xs) % 2 ^ 32 = omega (arith, below, is) in
    let h : (j : ℕ) × (count_leading_zeros 64 m + suc j ≡ 64) × (j < 32) × (complies d (get_or xs j 0) ≡ true) × ((k : ℕ) → j < k → k < 32 → complies d (get_or xs k 0) ≡ false) =
    rw all (top_of_used (complies d) xs 32 (omega arith) (omega (arith, long)) (omega arith) (rw (first, and_comm d 0) refl)) in
    let top_is : count_leading_zeros 64 m + suc h.0 ≡ 64 = h.1 in
    let at : h.0 ≡ 63 - count_leading_zeros 64 m = omega arith in
    let found : IsHighest xs d h.0 = record { in_range = omega (arith, h.2); complying = eqb-true _ _ h.3; none_above = λ k a b. h.4 k a (omega (arith, b)) } in
    (omega (arith, top_is), subst (λ j. IsHighest xs d j) at found)
