-- The dense key for near columns: each lane tells its bit of the key, and the lanes are the highest bits of the dense key.
use Rattle.record_words.proofs.Common.{ℕ, zero, suc, ◌≡◌, ◌≢◌, ◌+◌, ◌-◌, ◌*◌, ◌/◌, ◌%◌, ◌^◌, ◌<◌, ◌≤◌, ◌++◌, ⊎_elim, Bool, true, false, cond, ◌&&◌, ◌||◌, not, eqb, List, [], ◌∷◌, length, get_or, map, take, replicate, bit_and, refl, sym, ap, ap₂, subst, ◌∙◌, arith, w8, pow-suc, pow-zero, get_or-append, take-suc, cases_lt, eq-eqb, le-ltb, lt-ltb, ne_eqb, get_or-append_right, get_or-map, get_or-replicate, get_or_default, get_or_past, length-map, length-take-le, take_all, All-get_or, Each1-from_get_or, SwzOk, SwzOk-from_below, bitmask_splat, get_or-swz_l_below, get_or-zip2, length-swz_l, length-zip2, swz_l, bit_at, and_zero_r, bit_of, code, IsKey, with_zeros, code-lt, code-shifted, dense_of, every, every_one, same_bool}
use Rattle.std.proofs.lemmas.List.{get_or-take}
use Rattle.std.specs.Bool.{beq}
use Rattle.record_words.specs.Kinds.{AreNearLanes, bit_mask, first_byte, near_position}
use Rattle.record_words.proofs.near.NearLanes.{first_lowest}
use Rattle.record_words.proofs.OfKinds.{AreNear, KeepsAllButOneEntry, near_of}
use Rattle.record_words.proofs.HeadParts.{index_is, indexes_long, mask_is, masks_long}
use lib.Lanes.{mask_l, top, zip2}

-- ---- lanes as the highest bits, the last one as the highest
mask_snoc : (ms : List Bool) (b : Bool) → mask_l (ms ++ b ∷ []) ≡ mask_l ms + cond b (2 ^ length ms) 0
mask_snoc [] true = omega (arith, pow-zero 2)
mask_snoc [] false = omega arith
mask_snoc (m ∷ ms) true = omega (arith, mask_snoc ms true, pow-suc 2 (length ms))
mask_snoc (m ∷ ms) false = omega (arith, mask_snoc ms false)

none_set : (ms : List Bool) → ((i : ℕ) → i < length ms → get_or ms i false ≡ false) → mask_l ms ≡ 0
none_set [] none = refl
none_set (m ∷ ms) none = rw (none 0 (omega arith)) (let e = none_set ms (λ i l. none (suc i) (omega (arith, l))) in omega (arith, e))

-- lane i of n has bit n - 1 - i of the list; lanes of no bit have none set
pub mask_of_bits : (n : ℕ) (ms bs : List Bool) → length ms ≡ n → length bs ≤ n → ((i : ℕ) → i < n → get_or ms i false ≡ get_or bs (n - 1 - i) false) → mask_l ms ≡ code n bs
mask_of_bits zero [] [] long few each = refl
mask_of_bits zero [] (b ∷ bs) long few each = absurd (omega (arith, few))
mask_of_bits zero (m ∷ ms) bs long few each = absurd (omega (arith, long))
mask_of_bits (suc n) ms [] long few each = none_set ms (λ i l. each i (omega (arith, l, long)) ∙ get_or_past {X = Bool} [] (suc n - 1 - i) false (omega arith))
mask_of_bits (suc n) ms (b ∷ bs) long few each =
    let front : List Bool = take n ms in
    let front_long : length front ≡ n = length-take-le n ms (omega (arith, long)) in
    let last : get_or ms n false ≡ b = each n (omega arith) ∙ ap (λ k. get_or (b ∷ bs) k false) (let e : suc n - 1 - n ≡ 0 = omega arith in e) in
    let whole : ms ≡ front ++ get_or ms n false ∷ [] = sym (take_all (suc n) ms (omega (arith, long))) ∙ take-suc ms n false (omega (arith, long)) in
    let rest : mask_l front ≡ code n bs = mask_of_bits n front bs front_long (omega (arith, few))
    (λ i l. get_or-take n ms i false l ∙ (each i (omega (arith, l)) ∙ ap (λ k. get_or (b ∷ bs) k false) (let e : suc n - 1 - i ≡ suc (n - 1 - i) = omega (arith, l) in e))) in
    let top : cond (get_or ms n false) (2 ^ length front) 0 ≡ cond b (2 ^ n) 0 = ap₂ (λ t k. cond t (2 ^ k) 0) last front_long in
    ap mask_l whole ∙ (mask_snoc front (get_or ms n false) ∙ omega (arith, rest, top))

-- ---- the bit that a lane tells
-- a byte has a bit of a mask exactly if its bit there is 1
abbrev tells : ℕ → ℕ → Bool
tells o byte = beq (not (eqb (bit_and byte (2 ^ (8 - (o + 1)))) 0)) (eqb (bit_at byte (8 - (o + 1))) 1)

byte_tells : (o byte : ℕ) → o < 8 → byte < 256 → not (eqb (bit_and byte (2 ^ (8 - (o + 1)))) 0) ≡ eqb (bit_at byte (8 - (o + 1))) 1
byte_tells o byte low small = same_bool _ _ (every_one (tells o) 256 (every_one (λ k. every (tells k) 256) 8 tt o low) byte small)

module _ (key : List ℕ) (bytes : (k : ℕ) → get_or key k 0 < 256) where
  -- of a near column
  pub column_tells : (first p : ℕ) → KeepsAllButOneEntry first p → p / 9 < 240 → not (eqb (bit_and (get_or (with_zeros key) (p / 9) 0) (bit_mask p)) 0) ≡ bit_of key p
  column_tells first p near inside =
      let o : ℕ = p % 9 - 1 in
      let there : p % 9 ≢ 0 = near.a_bit in
      let place : o + 1 ≡ p % 9 = omega (arith, there) in
      let mask : bit_mask p ≡ 2 ^ (8 - (o + 1)) = ap (λ t. cond t 0 (2 ^ (8 - p % 9))) (ne_eqb (p % 9) 0 there) ∙ ap (λ k. 2 ^ (8 - k)) (sym place) in
      ⊎_elim
      (λ (held : p / 9 < length key).
      ap (λ m. not (eqb (bit_and (get_or (with_zeros key) (p / 9) 0) m) 0)) mask
      ∙ (ap (λ byte. not (eqb (bit_and byte (2 ^ (8 - (o + 1)))) 0)) (get_or-append key _ 0 (p / 9) held)
      ∙ (byte_tells o (get_or key (p / 9) 0) (omega (arith, there)) (bytes (p / 9))
      ∙ (ap (λ k. eqb (bit_at (get_or key (p / 9) 0) (8 - k)) 1) place
      ∙ sym (ap₂ (λ s t. s && (t || eqb (bit_at (get_or key (p / 9) 0) (8 - p % 9)) 1)) (lt-ltb (p / 9) (length key) held) (ne_eqb (p % 9) 0 there))))))
      (λ (past : length key ≤ p / 9).
      let zeros : get_or (with_zeros key) (p / 9) 0 ≡ 0 = get_or-append_right key (replicate (240 - length key) 0) (length key) (p / 9) 0 refl past
      ∙ get_or-replicate {A = ℕ} (240 - length key) (p / 9 - length key) 0 0 (omega (arith, past, inside)) in
      ap (λ byte. not (eqb (bit_and byte (bit_mask p)) 0)) zeros
      ∙ sym (ap (λ s. s && (eqb (p % 9) 0 || eqb (bit_at (get_or key (p / 9) 0) (8 - p % 9)) 1)) (le-ltb (p / 9) (length key) past)))
      (cases_lt (p / 9) (length key))

-- ---- all lanes of near columns
abbrev pub tells_one : ℕ → Bool
tells_one x = not (eqb x 0)

module _ (columns indexes masks key : List ℕ) (first : ℕ) (lanes : AreNearLanes columns indexes masks first) (its : IsKey key) where
  near : AreNear columns 16
  near = near_of columns lanes.has

  abbrev position : ℕ → ℕ
  position i = near_position columns i

  -- the sixteen bytes of a window have that of each lane
  in_window : (i : ℕ) → (first ≤ position i / 9) × (position i / 9 < first + 16)
  in_window i =
      ⊎_elim
      (λ (used : 15 - i < length columns).
      let same : position i ≡ get_or columns (15 - i) 0 = get_or_default columns (15 - i) (9 * first_byte columns) 0 used in
      let low = first_lowest columns (15 - i) lanes.has.positions.rise used in
      let below = (near.each (15 - i) used).below in (
        omega (arith, same, low, lanes.first_is),
        omega (arith, same, below, lanes.first_is),
      ))
      (λ (past : length columns ≤ 15 - i).
      let none : position i ≡ 9 * first_byte columns = get_or_past columns (15 - i) (9 * first_byte columns) past in (
        omega (arith, none, lanes.first_is),
        omega (arith, none, lanes.first_is),
      ))
      (cases_lt (15 - i) (length columns))

  pub window_within : first + 16 ≤ 240
  window_within = omega (arith, near.within, lanes.first_is)

  indexes_16 : length indexes ≡ 16
  indexes_16 = ap (λ (xs : List ℕ). length xs) lanes.indexes_are ∙ indexes_long columns 16 near lanes.has.few

  masks_16 : length masks ≡ 16
  masks_16 = ap (λ (xs : List ℕ). length xs) lanes.masks_are ∙ masks_long columns 16 near lanes.has.few

  index_at : (i : ℕ) → i < 16 → get_or indexes i 0 ≡ position i / 9 - first
  index_at i low = ap (λ (xs : List ℕ). get_or xs i 0) lanes.indexes_are ∙ (index_is columns 16 near lanes.has.few i low ∙ ap (λ f. position i / 9 - f) (sym lanes.first_is))

  mask_at : (i : ℕ) → i < 16 → get_or masks i 0 ≡ bit_mask (position i)
  mask_at i low = ap (λ (xs : List ℕ). get_or xs i 0) lanes.masks_are ∙ mask_is columns 16 near lanes.has.few i low

  pub indexes_ok : SwzOk w8 16 16 0 indexes
  indexes_ok =
      SwzOk-from_below w8 16 1 16 0 indexes refl (omega (arith, indexes_16))
      (Each1-from_get_or (λ j. j < 16) indexes 0 (λ i h. let low : i < 16 = omega (arith, h, indexes_16) in omega (arith, index_at i low, (in_window i).1)))

  module _ (window : List ℕ) (holds : (k : ℕ) → k < 16 → get_or window k 0 ≡ get_or (with_zeros key) (first + k) 0) where
    abbrev there : List ℕ
    there = swz_l w8 16 window 0 indexes

    there_long : length there ≡ 16
    there_long = length-swz_l w8 16 window 0 indexes ∙ indexes_16

    there_is : (i : ℕ) → i < 16 → get_or there i 0 ≡ get_or (with_zeros key) (position i / 9) 0
    there_is i low =
        let w = in_window i in
        let small : get_or indexes i 0 < 16 = omega (arith, index_at i low, w.1) in
        let place : 16 * ((0 + i) / 16) + get_or indexes i 0 ≡ get_or indexes i 0 = omega (arith, low) in
        get_or-swz_l_below w8 16 window 0 indexes i (omega (arith, indexes_16, low)) small
        ∙ (ap (λ k. get_or window k 0) place ∙ (holds (get_or indexes i 0) small ∙ ap (λ k. get_or (with_zeros key) k 0) (omega (arith, index_at i low, w.0))))

    abbrev pub lanes_there : List ℕ
    lanes_there = zip2 bit_and there masks

    lanes_long : length lanes_there ≡ 16
    lanes_long = length-zip2 bit_and there masks (there_long ∙ sym masks_16) ∙ there_long

    lane_is : (i : ℕ) → i < 16 → get_or lanes_there i 0 ≡ bit_and (get_or (with_zeros key) (position i / 9) 0) (bit_mask (position i))
    lane_is i low = get_or-zip2 bit_and there masks i 0 0 0 (omega (arith, there_long, low)) (omega (arith, masks_16, low)) ∙ ap₂ bit_and (there_is i low) (mask_at i low)

    bytes : (k : ℕ) → get_or key k 0 < 256
    bytes k = ⊎_elim (λ inside. All-get_or (λ byte. byte < 256) key k 0 inside its.are_bytes) (λ past. let e = get_or_past key k 0 past in omega (arith, e)) (cases_lt k (length key))

    bits_long : length (map (bit_of key) columns) ≡ length columns
    bits_long = length-map columns (bit_of key)

    lane_tells : (i : ℕ) → i < 16 → get_or (map tells_one lanes_there) i false ≡ get_or (map (bit_of key) columns) (16 - 1 - i) false
    lane_tells i low =
        get_or-map tells_one lanes_there i 0 false (omega (arith, lanes_long, low)) ∙ (ap tells_one (lane_is i low)
        ∙ ⊎_elim
        (λ (used : 15 - i < length columns).
        let same : position i ≡ get_or columns (15 - i) 0 = get_or_default columns (15 - i) (9 * first_byte columns) 0 used in
        let w = in_window i in
        let its_near : KeepsAllButOneEntry (first_byte columns) (position i) = subst (KeepsAllButOneEntry (first_byte columns)) (sym same) (near.each (15 - i) used) in
        column_tells key bytes (first_byte columns) (position i) its_near (omega (arith, w.1, window_within)) ∙ (ap (bit_of key) same ∙ sym (get_or-map (bit_of key) columns (15 - i) 0 false used)))
        (λ (past : length columns ≤ 15 - i).
        let none : position i ≡ 9 * first_byte columns = get_or_past columns (15 - i) (9 * first_byte columns) past in
        let empty : bit_mask (position i) ≡ 0 = ap bit_mask none ∙ ap (λ t. cond t 0 (2 ^ (8 - 9 * first_byte columns % 9))) (eq-eqb (9 * first_byte columns % 9) 0 (omega arith)) in
        ap tells_one (ap (bit_and (get_or (with_zeros key) (position i / 9) 0)) empty ∙ and_zero_r (get_or (with_zeros key) (position i / 9) 0))
        ∙ sym (get_or_past (map (bit_of key) columns) (15 - i) false (omega (arith, bits_long, past))))
        (cases_lt (15 - i) (length columns)))

    mask_16 : mask_l (map tells_one lanes_there) ≡ code 16 (map (bit_of key) columns)
    mask_16 = mask_of_bits 16 (map tells_one lanes_there) (map (bit_of key) columns) (length-map lanes_there tells_one ∙ lanes_long) (omega (arith, bits_long, lanes.has.few)) lane_tells

    abbrev pub told : ℕ
    told = mask_l (map (top 7) (zip2 (λ a b. cond (not (eqb a b)) (2 ^ 8 - 1) 0) lanes_there (replicate 16 0))) % 2 ^ 64

    told_is : told ≡ code 16 (map (bit_of key) columns)
    told_is = bitmask_splat w8 (λ a b. not (eqb a b)) lanes_there 16 0 lanes_long (omega arith) ∙ mask_16

    pub told_fits : told < 2 ^ 32
    told_fits = omega (arith, told_is, code-lt 16 (map (bit_of key) columns))

    pub dense_is : told * 65536 % 2 ^ 32 ≡ dense_of columns (bit_of key)
    dense_is =
        let shifted : code 16 (map (bit_of key) columns) * 2 ^ 16 ≡ code 32 (map (bit_of key) columns) = code-shifted 16 16 32 (map (bit_of key) columns) refl (omega (arith, bits_long, lanes.has.few)) in
        omega (arith, told_is, shifted, code-lt 16 (map (bit_of key) columns))
