-- The lanes of near columns, computed of their positions, and the positions, computed of the lanes.
use Rattle.record_words.proofs.Common.{ℕ, ◌≡◌, ◌+◌, ◌-◌, ◌*◌, ◌/◌, ◌%◌, ◌^◌, ◌<◌, ◌≤◌, ◌++◌, ⊎_elim, Bool, false, cond, eqb, List, [], ◌∷◌, map, length, length-append, get_or, replicate, bit_and, refl, sym, ap, ap₂, subst, ◌∙◌, arith, below_more, lit<, w8, w16, Fits, cases_lt, ne_eqb, ext_get_or, get_or-map, get_or-replicate, get_or_default, get_or_past, length-map, length-replicate, map-id, and_le_r, Each1-from_get_or, Each1-get_or, SwzOk, SwzOk-from_below, get_or-sel_l, get_or-swz_l_below, get_or-zip2, length-sel_l, length-swz_l, length-zip2, pick_l_left, swz_l, tops_compared, zip2_splat}
use borrow.Author.Count.{below_none}
use lib.Lanes.{Each1, pick_l, sel_l, top, zip2}
use Rattle.record_words.specs.Kinds.{HasNearLanes, bit_mask, distance_from, first_byte, index_lanes, mask_lanes, near_position, with_free_to_16}
use Rattle.record_words.specs.declared.near.TheConstants.{BIT_OF_HIGH_MASK, BIT_OF_LOW_MASK, MASKS}
use Rattle.record_words.proofs.Lanes.{splat_at, splat_long}
use Rattle.record_words.proofs.Lawful.{get_or-padded, small_below}
use Rattle.record_words.proofs.near.NearLanes.{bit_read, first_lowest, lane_is, lane_read, position_read}
use Rattle.record_words.proofs.OfKinds.{AreNear, near_of}

-- ---- lanes in the opposite order
abbrev pub upside : List ℕ
upside = 15 ∷ 14 ∷ 13 ∷ 12 ∷ 11 ∷ 10 ∷ 9 ∷ 8 ∷ 7 ∷ 6 ∷ 5 ∷ 4 ∷ 3 ∷ 2 ∷ 1 ∷ 0 ∷ []

place_in_upside : (i : ℕ) → i < 16 → get_or upside i 0 ≡ 15 - i
place_in_upside =
    let P : ℕ → Type 0 = λ i. get_or upside i 0 ≡ 15 - i in
    below_more P 15 (below_more P 14 (below_more P 13 (below_more P 12 (below_more P 11 (below_more P 10 (below_more P 9 (below_more P 8
    (below_more P 7 (below_more P 6 (below_more P 5 (below_more P 4 (below_more P 3 (below_more P 2 (below_more P 1 (below_more P 0 (below_none P)
    refl) refl) refl) refl) refl) refl) refl) refl) refl) refl) refl) refl) refl) refl) refl) refl

pub upside_at : (lanes : List ℕ) (i : ℕ) → length lanes ≡ 16 → i < 16 → get_or (pick_l 0 (lanes ++ lanes) upside) i 0 ≡ get_or lanes (15 - i) 0
upside_at lanes i long low =
    ap (λ (xs : List ℕ). get_or xs i 0) (pick_l_left 0 lanes lanes 16 upside long tt)
    ∙ (get_or-map (λ k. get_or lanes k 0) upside i 0 0 low ∙ ap (λ k. get_or lanes k 0) (place_in_upside i low))

-- ---- lanes that a comparison with a number picks
abbrev pub is_same : ℕ → ℕ → ℕ
is_same a b = cond (eqb a b) (2 ^ 16 - 1) 0

abbrev pub same_tops : List ℕ → ℕ → List Bool
same_tops lanes n = map (top 15) (zip2 is_same lanes (replicate 16 n))

module _ (lanes : List ℕ) (long : length lanes ≡ 16) (n : ℕ) where
  tops_are : same_tops lanes n ≡ map (λ x. eqb x n) lanes
  tops_are = tops_compared w16 eqb lanes (replicate 16 n) ∙ zip2_splat eqb lanes 16 n long

  tops_long : length (same_tops lanes n) ≡ 16
  tops_long = ap length tops_are ∙ (length-map lanes (λ x. eqb x n) ∙ long)

  module _ (yes no : List ℕ) (yes_long : length yes ≡ 16) (no_long : length no ≡ 16) where
    pub length-chosen : length (sel_l (same_tops lanes n) yes no) ≡ 16
    length-chosen = length-sel_l (same_tops lanes n) yes no (tops_long ∙ sym yes_long) (tops_long ∙ sym no_long) ∙ tops_long

    pub chosen_at : (i : ℕ) → i < 16 → get_or (sel_l (same_tops lanes n) yes no) i 0 ≡ cond (eqb (get_or lanes i 0) n) (get_or yes i 0) (get_or no i 0)
    chosen_at i low =
        get_or-sel_l (same_tops lanes n) yes no i 0 (omega (arith, low, tops_long)) (omega (arith, low, yes_long)) (omega (arith, low, no_long))
        ∙ ap (λ b. cond b (get_or yes i 0) (get_or no i 0)) (ap (λ (bs : List Bool). get_or bs i false) tops_are ∙ get_or-map (λ x. eqb x n) lanes i 0 false (omega (arith, low, long)))

-- ---- distances
abbrev pub less16 : ℕ → ℕ → ℕ
less16 a b = (a + (2 ^ 16 - b)) % 2 ^ 16

module _ (positions : List ℕ) (long : length positions ≡ 16) (first : ℕ) (small : 9 * first < 2 ^ 16) where
  abbrev pub differences : List ℕ
  differences = zip2 less16 positions (replicate 16 (9 * first))

  differences_long : length differences ≡ 16
  differences_long = splat_long 16 less16 positions (9 * first) long

  abbrev pub apart : List ℕ
  apart = sel_l (same_tops positions 65535) (replicate 16 0) differences

  pub apart_long : length apart ≡ 16
  apart_long = length-chosen positions long 65535 (replicate 16 0) differences (length-replicate {A = ℕ} 16 0) differences_long

  pub apart_at : (i : ℕ) → i < 16 → get_or apart i 0 ≡ distance_from first (get_or positions i 0)
  apart_at i low =
      chosen_at positions long 65535 (replicate 16 0) differences (length-replicate {A = ℕ} 16 0) differences_long i low
      ∙ ap₂ (λ z d. cond (eqb (get_or positions i 0) 65535) z d) (get_or-replicate {A = ℕ} 16 i 0 0 low)
      (splat_at 16 less16 positions (9 * first) i long low ∙ ap (λ m. (get_or positions i 0 + (2 ^ 16 - m)) % 2 ^ 16) (let e : 9 * first ≡ 9 * first % 2 ^ 16 = omega (arith, small) in e))

-- ---- from distances to lanes
abbrev pub mul16 : ℕ → ℕ → ℕ
mul16 a b = a * b % 2 ^ 16

abbrev pub down : ℕ → ℕ → ℕ
down a b = a / 2 ^ b

ninth : (d : ℕ) → d < 144 → d * 57 % 2 ^ 16 / 2 ^ 9 ≡ d / 9
ninth d low = omega (arith, low)

module _ (ds : List ℕ) (long : length ds ≡ 16) (near : (i : ℕ) → i < 16 → get_or ds i 0 < 144) where
  abbrev pub ninths : List ℕ
  ninths = zip2 down (zip2 mul16 ds (replicate 16 57)) (replicate 16 9)

  products_long : length (zip2 mul16 ds (replicate 16 57)) ≡ 16
  products_long = splat_long 16 mul16 ds 57 long

  pub ninths_long : length ninths ≡ 16
  ninths_long = splat_long 16 down (zip2 mul16 ds (replicate 16 57)) 9 products_long

  pub ninth_at : (i : ℕ) → i < 16 → get_or ninths i 0 ≡ get_or ds i 0 / 9
  ninth_at i low = splat_at 16 down (zip2 mul16 ds (replicate 16 57)) 9 i products_long low ∙ (ap (λ p. down p 9) (splat_at 16 mul16 ds 57 i long low) ∙ ninth (get_or ds i 0) (near i low))

  abbrev pub wholes : List ℕ
  wholes = zip2 mul16 ninths (replicate 16 9)

  abbrev pub rests : List ℕ
  rests = zip2 less16 ds wholes

  wholes_long : length wholes ≡ 16
  wholes_long = splat_long 16 mul16 ninths 9 ninths_long

  pub rests_long : length rests ≡ 16
  rests_long = length-zip2 less16 ds wholes (long ∙ sym wholes_long) ∙ long

  pub rest_at : (i : ℕ) → i < 16 → get_or rests i 0 ≡ get_or ds i 0 % 9
  rest_at i low =
      let d : ℕ = get_or ds i 0 in
      let part : get_or wholes i 0 ≡ d / 9 * 9 % 2 ^ 16 = splat_at 16 mul16 ninths 9 i ninths_long low ∙ ap (λ x. mul16 x 9) (ninth_at i low) in
      get_or-zip2 less16 ds wholes i 0 0 0 (omega (arith, low, long)) (omega (arith, low, wholes_long)) ∙ (ap (less16 d) part ∙ omega (arith, near i low))

  pub ninths_fit : Each1 (Fits w8) ninths
  ninths_fit = Each1-from_get_or (Fits w8) ninths 0
      (λ i h. let low : i < 16 = omega (arith, h, ninths_long) in record { fits = omega (arith, ninth_at i low, near i low) })

  pub rests_fit : Each1 (Fits w8) rests
  rests_fit = Each1-from_get_or (Fits w8) rests 0
      (λ i h. let low : i < 16 = omega (arith, h, rests_long) in record { fits = omega (arith, rest_at i low) })

  pub rests_ok : SwzOk w8 16 16 0 (map (λ a. a) rests)
  rests_ok =
      SwzOk-from_below w8 16 1 16 0 (map (λ a. a) rests) refl (omega (arith, length-map rests (λ a. a), rests_long))
      (subst (Each1 (λ j. j < 16)) (sym (map-id rests))
      (Each1-from_get_or (λ j. j < 16) rests 0 (λ i h. let low : i < 16 = omega (arith, h, rests_long) in omega (arith, rest_at i low))))

mask_in_table : (r : ℕ) → r < 9 → get_or MASKS r 0 ≡ cond (eqb r 0) 0 (2 ^ (8 - r))
mask_in_table =
    let P : ℕ → Type 0 = λ r. get_or MASKS r 0 ≡ cond (eqb r 0) 0 (2 ^ (8 - r)) in
    below_more P 8 (below_more P 7 (below_more P 6 (below_more P 5 (below_more P 4 (below_more P 3 (below_more P 2 (below_more P 1 (below_more P 0 (below_none P)
    refl) refl) refl) refl) refl) refl) refl) refl) refl

-- ---- the lanes of near columns
module _ (columns : List ℕ) (has : HasNearLanes columns) (positions : List ℕ) (same : positions ≡ with_free_to_16 columns) where
  near : AreNear columns 16
  near = near_of columns has

  place_at : (i : ℕ) → i < 16 → get_or positions i 0 ≡ get_or columns i 65535
  place_at i low =
      ap (λ (ps : List ℕ). get_or ps i 0) same ∙ (sym (get_or_default (with_free_to_16 columns) i 65535 0 (omega (arith, low, near.few, length-append columns (replicate (16 - length columns) 65535), length-replicate {A = ℕ} (16 - length columns) 65535)))
      ∙ get_or-padded columns (16 - length columns) 65535 i)

  pub first_place : get_or positions 0 0 / 9 ≡ first_byte columns
  first_place = ap (λ p. p / 9) (place_at 0 (omega arith) ∙ get_or_default columns 0 65535 0 has.positions.some)

  module _ (ds : List ℕ) (long : length ds ≡ 16) (each : (i : ℕ) → i < 16 → get_or ds i 0 ≡ distance_from (first_byte columns) (get_or positions (15 - i) 0)) where
    -- how far the position of a lane is behind the first bit
    distance_is : (i : ℕ) → i < 16 → (get_or ds i 0 + 9 * first_byte columns ≡ near_position columns i) × (get_or ds i 0 < 144)
    distance_is i low =
        let f : ℕ = first_byte columns in
        let at : get_or ds i 0 ≡ distance_from f (get_or columns (15 - i) 65535) = each i low ∙ ap (distance_from f) (place_at (15 - i) (omega arith)) in
        ⊎_elim
        (λ (used : 15 - i < length columns).
        let p : ℕ = get_or columns (15 - i) 0 in
        let p_is : get_or columns (15 - i) 65535 ≡ p = get_or_default columns (15 - i) 65535 0 used in
        let np : near_position columns i ≡ p = get_or_default columns (15 - i) (9 * f) 0 used in
        let small : p < 65535 = small_below 65535 columns (lit< tt) has.positions.below (15 - i) in
        let from = first_lowest columns (15 - i) has.positions.rise used in
        let its = near.each (15 - i) used in
        let d_is : get_or ds i 0 ≡ (p + (2 ^ 16 - 9 * f % 2 ^ 16)) % 2 ^ 16 =
        at ∙ (ap (distance_from f) p_is ∙ ap (λ t. cond t 0 ((p + (2 ^ 16 - 9 * f % 2 ^ 16)) % 2 ^ 16)) (ne_eqb p 65535 (λ e. omega (arith, e, small)))) in
        (omega (arith, d_is, np, small, from), omega (arith, d_is, small, from, its.below)))
        (λ (past : length columns ≤ 15 - i).
        let p_is : get_or columns (15 - i) 65535 ≡ 65535 = get_or_past columns (15 - i) 65535 past in
        let np : near_position columns i ≡ 9 * f = get_or_past columns (15 - i) (9 * f) past in
        let d_is : get_or ds i 0 ≡ 0 = at ∙ ap (distance_from f) p_is in
        (omega (arith, d_is, np), omega (arith, d_is)))
        (cases_lt (15 - i) (length columns))

    pub distance_near : (i : ℕ) → i < 16 → get_or ds i 0 < 144
    distance_near i low = (distance_is i low).1

    pub indexes_made : map (λ a. a) (ninths ds long distance_near) ≡ index_lanes columns
    indexes_made =
        let ns : List ℕ = ninths ds long distance_near in
        map-id ns ∙ ext_get_or 0 ns (index_lanes columns) (ninths_long ds long distance_near)
        (λ i h. let low : i < 16 = omega (arith, h, ninths_long ds long distance_near) in
        let is = (distance_is i low).0 in
        ninth_at ds long distance_near i low ∙ (omega (arith, is) ∙ sym (lane_is (λ k. near_position columns k / 9 - first_byte columns) i low)))

    pub masks_made : swz_l w8 16 MASKS 0 (map (λ a. a) (rests ds long distance_near)) ≡ mask_lanes columns
    masks_made =
        let js : List ℕ = map (λ a. a) (rests ds long distance_near) in
        let is : js ≡ rests ds long distance_near = map-id (rests ds long distance_near) in
        let count : length js ≡ 16 = ap length is ∙ rests_long ds long distance_near in
        ext_get_or 0 (swz_l w8 16 MASKS 0 js) (mask_lanes columns) (length-swz_l w8 16 MASKS 0 js ∙ count)
        (λ i h. (let low : i < 16 = omega (arith, h, length-swz_l w8 16 MASKS 0 js, count) in
        let told = (distance_is i low).0 in
        let at : get_or js i 0 ≡ near_position columns i % 9 = ap (λ (xs : List ℕ). get_or xs i 0) is ∙ (rest_at ds long distance_near i low ∙ omega (arith, told)) in
        get_or-swz_l_below w8 16 MASKS 0 js i (omega (arith, count, low)) (omega (arith, at))
        ∙ (ap (λ k. get_or MASKS k 0) (let e : 16 * ((0 + i) / 16) + get_or js i 0 ≡ near_position columns i % 9 = omega (arith, low, at) in e)
        ∙ (mask_in_table (near_position columns i % 9) (omega arith) ∙ sym (lane_is (λ k. bit_mask (near_position columns k)) i low)))))

-- ---- and back
abbrev pub add8 : ℕ → ℕ → ℕ
add8 a b = (a + b) % 2 ^ 8

abbrev pub add16 : ℕ → ℕ → ℕ
add16 a b = (a + b) % 2 ^ 16

module _ (masks : List ℕ) (long : length masks ≡ 16) (fits : Each1 (Fits w8) masks) where
  abbrev pub lows : List ℕ
  lows = zip2 bit_and masks (replicate 16 15)

  abbrev pub highs : List ℕ
  highs = zip2 down masks (replicate 16 4)

  lows_long : length lows ≡ 16
  lows_long = splat_long 16 bit_and masks 15 long

  highs_long : length highs ≡ 16
  highs_long = splat_long 16 down masks 4 long

  low_at : (i : ℕ) → i < 16 → get_or lows i 0 ≡ bit_and (get_or masks i 0) 15
  low_at i low = splat_at 16 bit_and masks 15 i long low

  high_at : (i : ℕ) → i < 16 → get_or highs i 0 ≡ get_or masks i 0 / 2 ^ 4
  high_at i low = splat_at 16 down masks 4 i long low

  low_below : (i : ℕ) → i < 16 → get_or lows i 0 < 16
  low_below i low = omega (arith, low_at i low, and_le_r (get_or masks i 0) 15)

  high_below : (i : ℕ) → i < 16 → get_or highs i 0 < 16
  high_below i low = let f = Each1-get_or (Fits w8) masks i 0 (omega (arith, low, long)) fits in omega (arith, high_at i low, f.fits)

  pub lows_ok : SwzOk w8 16 16 0 lows
  lows_ok = SwzOk-from_below w8 16 1 16 0 lows refl (omega (arith, lows_long)) (Each1-from_get_or (λ j. j < 16) lows 0 (λ i h. low_below i (omega (arith, h, lows_long))))

  pub highs_ok : SwzOk w8 16 16 0 highs
  highs_ok = SwzOk-from_below w8 16 1 16 0 highs refl (omega (arith, highs_long)) (Each1-from_get_or (λ j. j < 16) highs 0 (λ i h. high_below i (omega (arith, h, highs_long))))

  read_at : (table js : List ℕ) (i : ℕ) → length js ≡ 16 → get_or js i 0 < 16 → i < 16 → get_or (swz_l w8 16 table 0 js) i 0 ≡ get_or table (get_or js i 0) 0
  read_at table js i count small low =
      get_or-swz_l_below w8 16 table 0 js i (omega (arith, count, low)) small ∙ ap (λ k. get_or table k 0) (let e : 16 * ((0 + i) / 16) + get_or js i 0 ≡ get_or js i 0 = omega (arith, low) in e)

  abbrev pub bits_read : List ℕ
  bits_read = zip2 add8 (swz_l w8 16 BIT_OF_LOW_MASK 0 lows) (swz_l w8 16 BIT_OF_HIGH_MASK 0 highs)

  from_low : length (swz_l w8 16 BIT_OF_LOW_MASK 0 lows) ≡ 16
  from_low = length-swz_l w8 16 BIT_OF_LOW_MASK 0 lows ∙ lows_long

  from_high : length (swz_l w8 16 BIT_OF_HIGH_MASK 0 highs) ≡ 16
  from_high = length-swz_l w8 16 BIT_OF_HIGH_MASK 0 highs ∙ highs_long

  bits_long : length bits_read ≡ 16
  bits_long = length-zip2 add8 (swz_l w8 16 BIT_OF_LOW_MASK 0 lows) (swz_l w8 16 BIT_OF_HIGH_MASK 0 highs) (from_low ∙ sym from_high) ∙ from_low

  bits_at : (i : ℕ) → i < 16 → get_or bits_read i 0 ≡ bit_read (get_or masks i 0)
  bits_at i low =
      get_or-zip2 add8 (swz_l w8 16 BIT_OF_LOW_MASK 0 lows) (swz_l w8 16 BIT_OF_HIGH_MASK 0 highs) i 0 0 0 (omega (arith, low, from_low)) (omega (arith, low, from_high))
      ∙ ap₂ add8 (read_at BIT_OF_LOW_MASK lows i lows_long (low_below i low) low ∙ ap (λ k. get_or BIT_OF_LOW_MASK k 0) (low_at i low))
      (read_at BIT_OF_HIGH_MASK highs i highs_long (high_below i low) low ∙ ap (λ k. get_or BIT_OF_HIGH_MASK k 0) (high_at i low))

  module _ (indexes : List ℕ) (indexes_long : length indexes ≡ 16) (first : ℕ) where
    abbrev pub bytes_read : List ℕ
    bytes_read = zip2 add16 (map (λ a. a) indexes) (replicate 16 first)

    abbrev pub places_read : List ℕ
    places_read = zip2 add16 (zip2 mul16 bytes_read (replicate 16 9)) (map (λ a. a) bits_read)

    abbrev pub lanes_read : List ℕ
    lanes_read = sel_l (same_tops (map (λ a. a) masks) 0) (replicate 16 65535) places_read

    indexes_same : map (λ a. a) indexes ≡ indexes
    indexes_same = map-id indexes

    bytes_long : length bytes_read ≡ 16
    bytes_long = splat_long 16 add16 (map (λ a. a) indexes) first (ap length indexes_same ∙ indexes_long)

    byte_at : (i : ℕ) → i < 16 → get_or bytes_read i 0 ≡ (get_or indexes i 0 + first) % 2 ^ 16
    byte_at i low = splat_at 16 add16 (map (λ a. a) indexes) first i (ap length indexes_same ∙ indexes_long) low ∙ ap (λ (xs : List ℕ). add16 (get_or xs i 0) first) indexes_same

    nines_long : length (zip2 mul16 bytes_read (replicate 16 9)) ≡ 16
    nines_long = splat_long 16 mul16 bytes_read 9 bytes_long

    rests_same : map (λ a. a) bits_read ≡ bits_read
    rests_same = map-id bits_read

    places_long : length places_read ≡ 16
    places_long = length-zip2 add16 (zip2 mul16 bytes_read (replicate 16 9)) (map (λ a. a) bits_read) (nines_long ∙ sym (ap length rests_same ∙ bits_long)) ∙ nines_long

    place_read_at : (i : ℕ) → i < 16 → get_or places_read i 0 ≡ (((get_or indexes i 0 + first) % 2 ^ 16) * 9 % 2 ^ 16 + bit_read (get_or masks i 0)) % 2 ^ 16
    place_read_at i low =
        get_or-zip2 add16 (zip2 mul16 bytes_read (replicate 16 9)) (map (λ a. a) bits_read) i 0 0 0 (omega (arith, low, nines_long)) (omega (arith, low, ap length rests_same, bits_long))
        ∙ ap₂ add16
        (splat_at 16 mul16 bytes_read 9 i bytes_long low ∙ ap (λ x. mul16 x 9) (byte_at i low))
        (ap (λ (xs : List ℕ). get_or xs i 0) rests_same ∙ bits_at i low)

    masks_same : map (λ a. a) masks ≡ masks
    masks_same = map-id masks

    masks_long : length (map (λ a. a) masks) ≡ 16
    masks_long = ap length masks_same ∙ long

    pub lanes_read_long : length lanes_read ≡ 16
    lanes_read_long = length-chosen (map (λ a. a) masks) masks_long 0 (replicate 16 65535) places_read (length-replicate {A = ℕ} 16 65535) places_long

    pub lane_read_at : (i : ℕ) → i < 16 → get_or lanes_read i 0 ≡ lane_read first (get_or indexes i 0) (get_or masks i 0)
    lane_read_at i low =
        chosen_at (map (λ a. a) masks) masks_long 0 (replicate 16 65535) places_read (length-replicate {A = ℕ} 16 65535) places_long i low
        ∙ (ap (λ (xs : List ℕ). cond (eqb (get_or xs i 0) 0) (get_or (replicate 16 65535) i 0) (get_or places_read i 0)) masks_same
        ∙ ap₂ (λ y n. cond (eqb (get_or masks i 0) 0) y n) (get_or-replicate {A = ℕ} 16 i 65535 0 low) (place_read_at i low))

    pub positions_made : (columns : List ℕ) → HasNearLanes columns → indexes ≡ index_lanes columns → masks ≡ mask_lanes columns → first ≡ first_byte columns → pick_l 0 (lanes_read ++ lanes_read) upside ≡ with_free_to_16 columns
    positions_made columns has indexes_are masks_are first_is =
        let near = near_of columns has in
        let whole : length (with_free_to_16 columns) ≡ 16 = length-append columns (replicate (16 - length columns) 65535) ∙ omega (arith, near.few, length-replicate {A = ℕ} (16 - length columns) 65535) in
        ext_get_or 0 (pick_l 0 (lanes_read ++ lanes_read) upside) (with_free_to_16 columns) (sym whole)
        (λ i h. let low : i < 16 = h in
        let j : ℕ = 15 - i in
        let back : 15 - j ≡ i = omega (arith, low) in
        upside_at lanes_read i lanes_read_long low
        ∙ (lane_read_at j (omega arith)
        ∙ (rw (first_is, indexes_are, masks_are) (position_read columns 16 has.positions near j (omega arith))
        ∙ (ap (λ k. get_or columns k 65535) back ∙ (sym (get_or-padded columns (16 - length columns) 65535 i) ∙ get_or_default (with_free_to_16 columns) i 65535 0 (omega (arith, low, whole)))))))
