-- Near columns read back of their lanes.
use Rattle.record_words.proofs.Common.{ℕ, zero, suc, ◌≡◌, ◌≢◌, ◌+◌, ◌-◌, ◌*◌, ◌/◌, ◌%◌, ◌^◌, ◌<◌, ◌≤◌, ⊎_elim, cond, eqb, List, [], ◌∷◌, map, length, get_or, bit_and, refl, sym, ap, ap₂, ◌∙◌, arith, below_more, lit<, range_with_len, cases_lt, ne_eqb, get_or-map, get_or_default, get_or_past, get_or-range_with_len, Ascends, IsColumns, rise_low}
use borrow.Author.Count.{below_none}
use Rattle.record_words.specs.Kinds.{bit_mask, first_byte, index_lanes, mask_lanes, near_position}
use Rattle.record_words.proofs.OfKinds.{AreNear}
use Rattle.record_words.proofs.Lawful.{small_below}

-- ---- a bit of a byte, and its mask
abbrev pub low_table : List ℕ
low_table = 0 ∷ 8 ∷ 7 ∷ 0 ∷ 6 ∷ 0 ∷ 0 ∷ 0 ∷ 5 ∷ 0 ∷ 0 ∷ 0 ∷ 0 ∷ 0 ∷ 0 ∷ 0 ∷ []

abbrev pub high_table : List ℕ
high_table = 0 ∷ 4 ∷ 3 ∷ 0 ∷ 2 ∷ 0 ∷ 0 ∷ 0 ∷ 1 ∷ 0 ∷ 0 ∷ 0 ∷ 0 ∷ 0 ∷ 0 ∷ 0 ∷ []

abbrev pub bit_read : ℕ → ℕ
bit_read mask = (get_or low_table (bit_and mask 15) 0 + get_or high_table (mask / 2 ^ 4) 0) % 2 ^ 8

-- the mask tells the bit
pub bit_told : (o : ℕ) → o < 8 → (bit_read (2 ^ (8 - (o + 1))) ≡ o + 1) × (2 ^ (8 - (o + 1)) < 2 ^ 8)
bit_told =
    let P : ℕ → Type 0 = λ o. (bit_read (2 ^ (8 - (o + 1))) ≡ o + 1) × (2 ^ (8 - (o + 1)) < 2 ^ 8) in
    below_more P 7 (below_more P 6 (below_more P 5 (below_more P 4 (below_more P 3 (below_more P 2 (below_more P 1 (below_more P 0 (below_none P)
    (refl, omega arith)) (refl, omega arith)) (refl, omega arith)) (refl, omega arith)) (refl, omega arith)) (refl, omega arith)) (refl, omega arith)) (refl, omega arith)

-- what a lane's index and mask say of its position
abbrev pub lane_read : ℕ → ℕ → ℕ → ℕ
lane_read first index mask = cond (eqb mask 0) 65535 ((((index + first) % 2 ^ 16) * 9 % 2 ^ 16 + bit_read mask) % 2 ^ 16)

pub mask_of_bit : (p : ℕ) → p % 9 ≢ 0 → bit_mask p ≡ 2 ^ (8 - ((p % 9 - 1) + 1))
mask_of_bit p there =
    let is : p % 9 ≡ (p % 9 - 1) + 1 = omega (arith, there) in
    ap (λ t. cond t 0 (2 ^ (8 - p % 9))) (ne_eqb (p % 9) 0 there) ∙ ap (λ k. 2 ^ (8 - k)) is

pub mask_some : (p : ℕ) → p % 9 ≢ 0 → 0 < bit_mask p
mask_some p there =
    let o : ℕ = p % 9 - 1 in
    let told = bit_told o (omega (arith, there)) in
    let some : bit_mask p ≢ 0 = λ none. (let zero_bit : bit_read (2 ^ (8 - (o + 1))) ≡ 0 = ap bit_read (sym (mask_of_bit p there) ∙ none) in omega (arith, told.0, zero_bit)) in
    omega (arith, some)

pub used_lane : (first p : ℕ) → first ≤ p / 9 → p < 2 ^ 16 → p % 9 ≢ 0 → lane_read first (p / 9 - first) (bit_mask p) ≡ p
used_lane first p from small there =
    let o : ℕ = p % 9 - 1 in
    let is : o + 1 ≡ p % 9 = omega (arith, there) in
    let told = bit_told o (omega (arith, there)) in
    let mask_is : bit_mask p ≡ 2 ^ (8 - (o + 1)) = mask_of_bit p there in
    let bit : bit_read (bit_mask p) ≡ p % 9 = ap bit_read mask_is ∙ (told.0 ∙ is) in
    let some : bit_mask p ≢ 0 = (let s = mask_some p there in λ none. omega (arith, s, none)) in
    ap (λ t. cond t 65535 ((((p / 9 - first + first) % 2 ^ 16) * 9 % 2 ^ 16 + bit_read (bit_mask p)) % 2 ^ 16)) (ne_eqb (bit_mask p) 0 some)
    ∙ (ap (λ b. (((p / 9 - first + first) % 2 ^ 16) * 9 % 2 ^ 16 + b) % 2 ^ 16) bit ∙ omega (arith, from, small))

pub unused_lane : (first index p : ℕ) → p % 9 ≡ 0 → lane_read first index (bit_mask p) ≡ 65535
unused_lane first index p none = rw none refl

-- ---- all lanes of near columns
-- a lane that is computed from its place
pub lane_is : (f : ℕ → ℕ) (i : ℕ) → i < 16 → get_or (map f (range_with_len 0 16)) i 0 ≡ f i
lane_is f i low = get_or-map f (range_with_len 0 16) i 0 0 low ∙ ap f (get_or-range_with_len 0 16 i 0 low ∙ omega arith)

-- no column is before the first one's byte
pub first_lowest : (columns : List ℕ) (i : ℕ) → Ascends 0 columns → i < length columns → first_byte columns ≤ get_or columns i 0 / 9
first_lowest [] i rise l = absurd (omega (arith, l))
first_lowest (c ∷ cs) zero rise l = omega arith
first_lowest (c ∷ cs) (suc i) rise l = let low = rise_low (c + 1) cs i rise.1 (omega (arith, l)) in omega (arith, low)

module _ (columns : List ℕ) (most : ℕ) (positions : IsColumns columns) (near : AreNear columns most) where
  pub position_read : (i : ℕ) → i < 16 → lane_read (first_byte columns) (get_or (index_lanes columns) i 0) (get_or (mask_lanes columns) i 0) ≡ get_or columns (15 - i) 65535
  position_read i low =
      let p : ℕ = near_position columns i in
      ap₂ (lane_read (first_byte columns)) (lane_is (λ k. near_position columns k / 9 - first_byte columns) i low) (lane_is (λ k. bit_mask (near_position columns k)) i low)
      ∙ ⊎_elim
      (λ (used : 15 - i < length columns).
      let same : p ≡ get_or columns (15 - i) 0 = get_or_default columns (15 - i) (9 * first_byte columns) 0 used in
      let its = near.each (15 - i) used in
      let small = small_below 65535 columns (lit< tt) positions.below (15 - i) in
      used_lane (first_byte columns) p (rw same (first_lowest columns (15 - i) positions.rise used)) (omega (arith, same, small)) (λ none. its.a_bit (ap (λ n. n % 9) (sym same) ∙ none))
      ∙ (same ∙ sym (get_or_default columns (15 - i) 65535 0 used)))
      (λ (past : length columns ≤ 15 - i).
      let none : p ≡ 9 * first_byte columns = get_or_past columns (15 - i) (9 * first_byte columns) past in
      unused_lane (first_byte columns) (p / 9 - first_byte columns) p (omega (arith, none)) ∙ sym (get_or_past columns (15 - i) 65535 past))
      (cases_lt (15 - i) (length columns))
