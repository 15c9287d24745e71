-- The rows of near heads as lanes of fewer bits: where a dense key leads by them, and the rows of 32 bits that they stand for.
use Rattle.record_words.proofs.Common.{ℕ, ◌≡◌, ◌-◌, ◌*◌, ◌/◌, ◌%◌, ◌^◌, ◌<◌, ◌≤◌, ⊎_elim, arith, Bool, true, false, bit_and, cond, eqb, List, get_or, length, map, nat_lt, refl, replicate, subst, sym, ap, ap₂, ◌∙◌, w32, and_zero_r, mul_comm, zero-div, range_with_len, cases_lt, eq-eqb, le-ltb, lt-ltb, get_or-map, get_or-replicate, get_or_default, get_or_past, length-map, length-replicate, get_or-map-range_with_len, length-map-range_with_len, bit_mask_l, get_or-sel_l, length-sel_l, tops_compared, zip2_splat, same_count, IsLawfulNode, NodeView, piece, complies, dense_of, with_unused, leads_to, lacks_none, lacks_none-complies, lanes_lack_none}
use mir.Syntax.{Width}
use mir.Val.{bits, hbits}
use lib.Count.{count_leading_zeros}
use lib.Lanes.{mask_l, sel_l, top, zip2}
use Rattle.record_words.specs.Packed.{row_lanes}
use Rattle.record_words.proofs.Lanes.{row_lanes_read, splat_at}
use Rattle.record_words.proofs.Lawful.{row-lt}
use Rattle.record_words.proofs.search.Search.{dense-lt, first_row, leads, row_at_place, row_by_high}
use Rattle.record_words.proofs.near.NearKinds.{high_small, row_lane_is, rows_long}

-- the first lane sets the lowest bit
first_sets : (t : ℕ → Bool) (xs : List ℕ) → 0 < length xs → t (get_or xs 0 0) ≡ true → mask_l (map t xs) % 2 ≡ 1
first_sets t xs some e =
    let bit = bit_mask_l (map t xs) 0 in
    let its : ◌≡◌ {A = ℕ} (cond (get_or (map t xs) 0 false) 1 0) 1 = ap (λ b. cond b 1 0) (get_or-map t xs 0 0 false some ∙ e) in
    omega (arith, bit, its)

module _ (node : NodeView) (lawful : IsLawfulNode node) where
  several : 0 < length node.rows
  several = omega (arith, same_count node lawful, lawful.several)

  room : length node.rows ≤ 32
  room = omega (arith, same_count node lawful, lawful.room)

  -- the highest bits of a row of the node
  high_is : (low k : ℕ) → k < length node.rows → get_or (row_lanes low node.rows) k 0 ≡ get_or node.rows k 0 / 2 ^ low
  high_is low k inside = row_lane_is low node.rows k (omega (arith, inside, room)) ∙ ap (λ r. r / 2 ^ low) (get_or_default node.rows k 4294967295 0 inside)

  first_is_none : get_or node.rows 0 0 ≡ 0
  first_is_none = sym (row_at_place node lawful 0 several) ∙ first_row node lawful

  -- ---- the lanes of so many bits of a head that has no more columns
  module _ (width : Width) (few : length node.columns ≤ bits width) (inside32 : bits width ≤ 32) (lanes : List ℕ) (are : lanes ≡ row_lanes (32 - bits width) node.rows) where
    abbrev w : ℕ
    w = bits width

    -- what the lanes that lack none of the bits of a dense key set
    abbrev complying : ℕ → ℕ
    complying d = mask_l (map (top (hbits width)) (zip2 (λ a b. cond (eqb a b) (2 ^ w - 1) 0) (zip2 bit_and (replicate 32 (2 ^ w - 1 - d)) lanes) (replicate 32 0))) % 2 ^ 64

    lane_is : (k : ℕ) → k < length node.rows → get_or lanes k 0 ≡ get_or node.rows k 0 / 2 ^ (32 - w)
    lane_is k inside = ap (λ (xs : List ℕ). get_or xs k 0) are ∙ high_is (32 - w) k inside

    pub lanes_long : length lanes ≡ 32
    lanes_long = ap (λ (xs : List ℕ). length xs) are ∙ rows_long (32 - w) node.rows

    first_lacks_none : (d : ℕ) → lacks_none w d (get_or lanes 0 0) ≡ true
    first_lacks_none d =
        let zero : get_or lanes 0 0 ≡ 0 = lane_is 0 several ∙ (ap (λ r. r / 2 ^ (32 - w)) first_is_none ∙ zero-div (2 ^ (32 - w))) in
        ap (lacks_none w d) zero ∙ eq-eqb (bit_and (2 ^ w - 1 - d) 0) 0 (and_zero_r (2 ^ w - 1 - d))

    pub lanes_odd : (d : ℕ) → complying d % 2 ≡ 1
    lanes_odd d = ap (λ m. m % 2) (lanes_lack_none width lanes d lanes_long) ∙ first_sets (lacks_none w d) lanes (omega (arith, lanes_long)) (first_lacks_none d)

    pub row_by_lane : (k : ℕ) → k < length node.rows → get_or lanes k 0 * 2 ^ (32 - w) ≡ get_or node.rows k 0
    row_by_lane k inside = ap (λ r. r * 2 ^ (32 - w)) (lane_is k inside) ∙ row_by_high node lawful w few inside32 k inside

    pub lanes_lead : (dense : ℕ) (bit : ℕ → Bool) → dense ≡ dense_of node.columns bit → (count : ℕ) → count ≡ length node.entries →
        63 - count_leading_zeros 64 (complying (dense / 2 ^ (32 - w)) % 2 ^ count) ≡ leads_to bit (piece node)
    lanes_lead dense bit gathered count counted =
        ap (λ m. 63 - count_leading_zeros 64 (m % 2 ^ count)) (lanes_lack_none width lanes (dense / 2 ^ (32 - w)) lanes_long)
        ∙ leads node lawful lanes count (counted ∙ sym (same_count node lawful)) (omega (arith, counted, lawful.room, lanes_long)) (lacks_none w (dense / 2 ^ (32 - w))) (first_lacks_none (dense / 2 ^ (32 - w))) dense bit gathered
        (λ k low. let inside : k < length node.rows = omega (arith, low, counted, same_count node lawful) in
        let small : get_or lanes k 0 < 2 ^ w = subst (λ x. x < 2 ^ w) (sym (lane_is k inside)) (high_small w (get_or node.rows k 0) inside32 (row-lt node lawful k)) in
        lacks_none-complies w (32 - w) dense (get_or lanes k 0) (high_small w dense inside32 (dense-lt node lawful dense bit gathered)) small
        ∙ ap (complies dense) (mul_comm (2 ^ (32 - w)) (get_or lanes k 0) ∙ (row_by_lane k inside ∙ sym (row_at_place node lawful k inside))))

  -- ---- rows of 32 bits
  -- as many lanes as there are entries are the rows, and the others are unused
  pub near_rows_read : (result rows : List ℕ) (count : ℕ) → length result ≡ 32 → count ≡ length node.entries → ((i : ℕ) → i < count → get_or result i 0 ≡ get_or rows i 0) →
      ((i : ℕ) → i < 32 → count ≤ i → get_or result i 0 ≡ 4294967295) → ((i : ℕ) → i < length node.rows → get_or rows i 0 ≡ get_or node.rows i 0) → result ≡ with_unused node.rows
  near_rows_read result rows count whole counted used unused are =
      row_lanes_read node lawful result whole
      (λ i low. ⊎_elim
      (λ (inside : i < length node.rows). used i (omega (arith, inside, counted, same_count node lawful)) ∙ (are i inside ∙ sym (get_or_default node.rows i 4294967295 0 inside)))
      (λ (past : length node.rows ≤ i). unused i low (omega (arith, past, counted, same_count node lawful)) ∙ sym (get_or_past node.rows i 4294967295 past))
      (cases_lt i (length node.rows)))

-- lanes that are moved up
abbrev pub up : ℕ → ℕ → ℕ
up a b = a * 2 ^ b % 2 ^ 32

pub moved_up : (low : ℕ) (xs : List ℕ) (i x : ℕ) → length xs ≡ 32 → i < 32 → get_or xs i 0 * 2 ^ low ≡ x → x < 2 ^ 32 → get_or (zip2 up (map (λ a. a) xs) (replicate 32 low)) i 0 ≡ x
moved_up low xs i x long inside is small =
    splat_at 32 up (map (λ a. a) xs) low i (length-map {A = ℕ} xs (λ a. a) ∙ long) inside
    ∙ (ap (λ y. up y low) (get_or-map (λ a. a) xs i 0 0 (omega (arith, long, inside))) ∙ (ap (λ y. y % 2 ^ 32) is ∙ omega (arith, small)))

-- ---- lanes before a place, and unused ones behind
module _ (rows : List ℕ) (count : ℕ) (long : length rows ≡ 32) where
  abbrev pub before : List Bool
  before = map (top 31) (zip2 (λ a b. cond (nat_lt a b) (2 ^ 32 - 1) 0) (range_with_len 0 32) (replicate 32 count))

  before_is : before ≡ map (λ i. nat_lt i count) (range_with_len 0 32)
  before_is = tops_compared w32 nat_lt (range_with_len 0 32) (replicate 32 count) ∙ zip2_splat nat_lt (range_with_len 0 32) 32 count refl

  before_long : length before ≡ 32
  before_long = ap (λ (bs : List Bool). length bs) before_is ∙ length-map-range_with_len (λ i. nat_lt i count) 0 32

  abbrev pub selected : List ℕ
  selected = sel_l before rows (replicate 32 4294967295)

  pub selected_long : length selected ≡ 32
  selected_long = length-sel_l before rows (replicate 32 4294967295) (before_long ∙ sym long) (before_long ∙ sym (length-replicate {A = ℕ} 32 4294967295)) ∙ before_long

  selected_is : (i : ℕ) → i < 32 → get_or selected i 0 ≡ cond (nat_lt i count) (get_or rows i 0) 4294967295
  selected_is i low =
      get_or-sel_l before rows (replicate 32 4294967295) i 0 (omega (arith, before_long, low)) (omega (arith, long, low)) (omega (arith, length-replicate {A = ℕ} 32 4294967295, low))
      ∙ ap₂ (λ b y. cond b (get_or rows i 0) y)
      (ap (λ (bs : List Bool). get_or bs i false) before_is ∙ get_or-map-range_with_len (λ k. nat_lt k count) 0 32 i i false low (omega arith))
      (get_or-replicate {A = ℕ} 32 i 4294967295 0 low)

  pub selected_used : (i : ℕ) → i < count → get_or selected i 0 ≡ get_or rows i 0
  selected_used i used = ⊎_elim
      (λ (low : i < 32). selected_is i low ∙ ap (λ b. cond b (get_or rows i 0) 4294967295) (lt-ltb i count used))
      (λ (past : 32 ≤ i). get_or_past selected i 0 (omega (arith, selected_long, past)) ∙ sym (get_or_past rows i 0 (omega (arith, long, past))))
      (cases_lt i 32)

  pub selected_unused : (i : ℕ) → i < 32 → count ≤ i → get_or selected i 0 ≡ 4294967295
  selected_unused i low past = selected_is i low ∙ ap (λ b. cond b (get_or rows i 0) 4294967295) (le-ltb i count past)
