-- A row that is taken out of lanes: those behind it move down by one, and the front of them loses a bit.
use Rattle.compound_node.proofs.Common.{Bool, Fits, List, [], ap, ap₂, arith, bit_or, cond, drop, eqb, false, get_or, length, length-append, map, min, nat_lt, not, refl, replicate, subst, suc, sym, take, true, w32, zero, ℕ, ⊎_elim, ◌++◌, ◌+◌, ◌-◌, ◌%◌, ◌^◌, ◌<◌, ◌∙◌, ◌∷◌, ◌≡◌, ◌≢◌, ◌≤◌, cases_lt, eq-eqb, eqb-true, le-ltb, lt-ltb, ne_eqb, not-false, not-true, ext_get_or, get_or-append_right, get_or-drop, get_or-map, get_or-replicate, get_or-take, get_or_append_left, length-drop, length-map, length-replicate, length-take-le, get_or-range_with_len, length-map-range_with_len, length-range_with_len, and-not, and_comm, Each1-get_or, bitmask_splat, get_or-sel_l, get_or-zip2, leading_from_mask_l, length-sel_l, length-zip2, mask_l-lt, trailing_mask_l, bit_at_or, same_from_bits, or_zero_l, or_zero_r, prefix_len, range_with_len, with_unused, or_all}
use Rattle.std.proofs.Common.{bit_and}
use Rattle.std.proofs.lemmas.List.Sums.{prefix_len_passes, prefix_len_stops}
use Rattle.std.specs.Int.Count.{trailing_of_zero}
use Rattle.compound_node.proofs.rows.Clearing.{length-cleared_front}
use Rattle.compound_node.proofs.rows.Shifting.{picked, picked_at}
use Rattle.compound_node.specs.Lowering.{lowered_row}
use Rattle.compound_node.specs.Removal.{bit_after, cleared_front, removed_row}
use lib.Count.{count_trailing_zeros}
use lib.Lanes.{Each1, mask_l, pick_l, sel_l, top, zip2}

-- ---- where the front of the rows with a bit ends
module _ (rows : List ℕ) (long : length rows ≡ 32) (first bit : ℕ) where
  -- 1 before the first one, and then what a row has of the bit
  abbrev pub found : List ℕ
  found = sel_l (picked nat_lt first) (replicate 32 1) (zip2 bit_and rows (replicate 32 bit))

  length-has : length (zip2 bit_and rows (replicate 32 bit)) ≡ 32
  length-has = length-zip2 bit_and rows (replicate 32 bit) long ∙ long

  pub length-found : length found ≡ 32
  length-found = length-sel_l (picked nat_lt first) (replicate 32 1) (zip2 bit_and rows (replicate 32 bit)) refl (sym length-has)

  found_at : (i : ℕ) → i < 32 → get_or found i 0 ≡ cond (nat_lt i first) 1 (bit_and (get_or rows i 0) bit)
  found_at i l =
      get_or-sel_l (picked nat_lt first) (replicate 32 1) (zip2 bit_and rows (replicate 32 bit)) i 0 l l (omega (arith, l, length-has))
      ∙ (ap (λ b. cond b (get_or (replicate 32 1) i 0) (get_or (zip2 bit_and rows (replicate 32 bit)) i 0)) (picked_at nat_lt first i l)
      ∙ ap₂ (cond (nat_lt i first)) (get_or-replicate 32 i 1 0 l)
      (get_or-zip2 bit_and rows (replicate 32 bit) i 0 0 0 (omega (arith, l, long)) l ∙ ap (bit_and (get_or rows i 0)) (get_or-replicate 32 i bit 0 l)))

  abbrev lacks : ℕ → Bool
  lacks x = eqb x 0

  abbrev pub lacking : ℕ
  lacking = mask_l (map (top 31) (zip2 (λ a b. cond (eqb a b) 4294967295 0) found (replicate 32 0))) % 2 ^ 64

  lacking_is : lacking ≡ mask_l (map lacks found)
  lacking_is = bitmask_splat w32 eqb found 32 0 length-found (omega arith)

  pub lacking-lt : lacking < 2 ^ 32
  lacking-lt = let small = mask_l-lt (map lacks found) in omega (arith, lacking_is, (rw (length-map found lacks, length-found) at small))

  abbrev front : ℕ
  front = prefix_len (λ x. not (lacks x)) found

  trailing_is : count_trailing_zeros 32 lacking ≡ front
  trailing_is = ap (count_trailing_zeros 32) lacking_is ∙ ⊎_elim
      (λ (some : 0 < mask_l (map lacks found)). trailing_mask_l lacks 32 found (omega (arith, length-found)) some)
      (λ (none : mask_l (map lacks found) ≤ 0).
      let e : mask_l (map lacks found) ≡ 0 = omega (arith, none) in
      ap (count_trailing_zeros 32) e ∙ (trailing_of_zero 32 ∙ (sym length-found ∙ sym (leading_from_mask_l lacks found e))))
      (cases_lt 0 (mask_l (map lacks found)))

  front_has : (i : ℕ) → i < front → get_or found i 0 ≢ 0
  front_has i low e =
      let passes : not (lacks (get_or found i 0)) ≡ true = prefix_len_passes (λ x. not (lacks x)) found i 0 low in
      omega (arith, ap {B = ℕ} (λ b. cond b 1 0) (sym (not-true (lacks (get_or found i 0)) passes) ∙ eq-eqb (get_or found i 0) 0 e))

  front_stops : front < 32 → get_or found front 0 ≡ 0
  front_stops low = eqb-true (get_or found front 0) 0 (not-false (lacks (get_or found front 0)) (prefix_len_stops (λ x. not (lacks x)) found 0 (omega (arith, low, length-found))))

  front_past : first ≤ 32 → first ≤ front
  front_past inside = ⊎_elim
      (λ (low : front < first).
      let one : get_or found front 0 ≡ 1 = found_at front (omega (arith, low, inside)) ∙ ap (λ b. cond b 1 (bit_and (get_or rows front 0) bit)) (lt-ltb front first low) in
      absurd (omega (arith, one, front_stops (omega (arith, low, inside)))))
      (λ (past : first ≤ front). past)
      (cases_lt front first)

  has_at : (i : ℕ) → i < 32 → first ≤ i → get_or found i 0 ≡ bit_and (get_or rows i 0) bit
  has_at i l past = found_at i l ∙ ap (λ b. cond b 1 (bit_and (get_or rows i 0) bit)) (le-ltb i first past)

  module _ (end result : ℕ) (ordered : first ≤ end) (inside : end ≤ 32) (is : result ≡ min (count_trailing_zeros 32 lacking) end) where
    least : result ≡ min front end
    least = is ∙ ap (λ n. min n end) trailing_is

    pub front_range : (first ≤ result) × (result ≤ end)
    front_range = (omega (arith, least, ordered, front_past (omega (arith, ordered, inside))), omega (arith, least))

    pub front_having : (i : ℕ) → first ≤ i → i < result → bit_and (get_or rows i 0) bit ≢ 0
    front_having i past low e = front_has i (omega (arith, low, least)) (has_at i (omega (arith, low, least, inside)) past ∙ e)

    pub front_end : result < end → bit_and (get_or rows result 0) bit ≡ 0
    front_end low =
        let e : front ≡ result = omega (arith, low, least) in
        sym (has_at result (omega (arith, low, inside)) front_range.0) ∙ subst (λ k. get_or found k 0 ≡ 0) e (front_stops (omega (arith, e, low, inside)))

-- ---- lanes that move down
module _ (rows : List ℕ) (long : length rows ≡ 32) (fit : Each1 (Fits w32) rows) (count at end bit : ℕ) (small : bit < 2 ^ 32) where
  abbrev lost : List ℕ
  lost = sel_l (picked nat_lt end) (replicate 32 bit) (replicate 32 0)

  lost_long : length lost ≡ 32
  lost_long = length-sel_l (picked nat_lt end) (replicate 32 bit) (replicate 32 0) refl refl

  lost_at : (i : ℕ) → i < 32 → get_or lost i 0 ≡ cond (nat_lt i end) bit 0
  lost_at i l =
      get_or-sel_l (picked nat_lt end) (replicate 32 bit) (replicate 32 0) i 0 l l l
      ∙ (ap (λ b. cond b (get_or (replicate 32 bit) i 0) (get_or (replicate 32 0) i 0)) (picked_at nat_lt end i l)
      ∙ ap₂ (cond (nat_lt i end)) (get_or-replicate 32 i bit 0 l) (get_or-replicate 32 i 0 0 l))

  abbrev others : List ℕ
  others = map (λ x. 4294967295 - x) lost

  abbrev left : List ℕ
  left = zip2 bit_and rows others

  left_long : length left ≡ 32
  left_long = length-zip2 bit_and rows others (long ∙ sym (length-map lost (λ x. 4294967295 - x) ∙ lost_long)) ∙ long

  taken_off : (row m : ℕ) → row < 2 ^ 32 → m < 2 ^ 32 → bit_and row (4294967295 - m) ≡ row - bit_and row m
  taken_off row m fits low = omega (arith, and-not 32 m row low fits, and_comm row (4294967295 - m), and_comm row m)

  nothing_off : (row : ℕ) → row < 2 ^ 32 → bit_and row 4294967295 ≡ row
  nothing_off row fits = omega (arith, and-not 32 0 row (omega arith) fits, and_comm row 4294967295)

  cleared_by : (row : ℕ) (b : Bool) → row < 2 ^ 32 → bit_and row (4294967295 - cond b bit 0) ≡ cond b (row - bit_and row bit) row
  cleared_by row true fits = taken_off row bit fits small
  cleared_by row false fits = nothing_off row fits

  left_at : (i : ℕ) → i < 32 → get_or left i 0 ≡ cond (nat_lt i end) (get_or rows i 0 - bit_and (get_or rows i 0) bit) (get_or rows i 0)
  left_at i l =
      get_or-zip2 bit_and rows others i 0 0 0 (omega (arith, l, long)) (omega (arith, l, length-map lost (λ x. 4294967295 - x), lost_long))
      ∙ (ap (bit_and (get_or rows i 0)) (get_or-map (λ x. 4294967295 - x) lost i 0 0 (omega (arith, l, lost_long)) ∙ ap (λ x. 4294967295 - x) (lost_at i l))
      ∙ cleared_by (get_or rows i 0) (nat_lt i end) (Each1-get_or (Fits w32) rows i 0 (omega (arith, l, long)) fit).fits)

  -- each lane is the one behind it
  abbrev down : List ℕ
  down = pick_l 0 (left ++ left) (range_with_len 1 31 ++ 0 ∷ [])

  down_at : (i : ℕ) → i + 1 < 32 → get_or down i 0 ≡ get_or left (i + 1) 0
  down_at i l =
      get_or-map (λ k. get_or (left ++ left) k 0) (range_with_len 1 31 ++ 0 ∷ []) i 0 0 (omega (arith, l))
      ∙ (ap (λ k. get_or (left ++ left) k 0) (get_or_append_left (range_with_len 1 31) (0 ∷ []) 0 i (omega (arith, l)) ∙ (get_or-range_with_len 1 31 i 0 (omega (arith, l)) ∙ omega arith))
      ∙ get_or_append_left left left 0 (i + 1) (omega (arith, l, left_long)))

  abbrev used : List ℕ
  used = sel_l (picked nat_lt (count - 1)) down (replicate 32 4294967295)

  used_long : length used ≡ 32
  used_long = length-sel_l (picked nat_lt (count - 1)) down (replicate 32 4294967295) refl refl

  abbrev pub lowered : List ℕ
  lowered = sel_l (picked nat_lt at) rows used

  pub lowered_long : length lowered ≡ 32
  lowered_long = length-sel_l (picked nat_lt at) rows used (sym long) (sym used_long)

  module _ (few : count ≤ 32) where
    -- a lane that moved, or one that is unused
    used_at : (i : ℕ) → i < 32 → get_or used i 0 ≡ cond (nat_lt i (count - 1)) (cond (nat_lt (i + 1) end) (get_or rows (i + 1) 0 - bit_and (get_or rows (i + 1) 0) bit) (get_or rows (i + 1) 0)) 4294967295
    used_at i l =
        get_or-sel_l (picked nat_lt (count - 1)) down (replicate 32 4294967295) i 0 l l l
        ∙ (ap₂ (λ b x. cond b (get_or down i 0) x) (picked_at nat_lt (count - 1) i l) (get_or-replicate 32 i 4294967295 0 l) ∙ ⊎_elim
        (λ (low : i < count - 1).
        ap (λ b. cond b (get_or down i 0) 4294967295) (lt-ltb i (count - 1) low)
        ∙ (down_at i (omega (arith, low, few)) ∙ (left_at (i + 1) (omega (arith, low, few))
        ∙ ap (λ b. cond b (cond (nat_lt (i + 1) end) (get_or rows (i + 1) 0 - bit_and (get_or rows (i + 1) 0) bit) (get_or rows (i + 1) 0)) 4294967295) (sym (lt-ltb i (count - 1) low)))))
        (λ (past : count - 1 ≤ i).
        ap (λ b. cond b (get_or down i 0) 4294967295) (le-ltb i (count - 1) past)
        ∙ ap (λ b. cond b (cond (nat_lt (i + 1) end) (get_or rows (i + 1) 0 - bit_and (get_or rows (i + 1) 0) bit) (get_or rows (i + 1) 0)) 4294967295) (sym (le-ltb i (count - 1) past)))
        (cases_lt i (count - 1)))

    pub lowered_at : (i : ℕ) → i < 32 → get_or lowered i 0 ≡ lowered_row count at end bit rows i
    lowered_at i l =
        get_or-sel_l (picked nat_lt at) rows used i 0 l (omega (arith, l, long)) (omega (arith, l, used_long))
        ∙ ap₂ (λ b x. cond b (get_or rows i 0) x) (picked_at nat_lt at i l) (used_at i l)

-- ---- the rows without one
same_order : (i k m n : ℕ) → (i < m → k < n) → (m ≤ i → n ≤ k) → nat_lt i m ≡ nat_lt k n
same_order i k m n low past = ⊎_elim
    (λ (l : i < m). lt-ltb i m l ∙ sym (lt-ltb k n (low l)))
    (λ (p : m ≤ i). le-ltb i m p ∙ sym (le-ltb k n (past p)))
    (cases_lt i m)

-- the front loses the bit up to the first row without it
cleared_at : (bit : ℕ) (ys : List ℕ) (m : ℕ) → m ≤ length ys → ((j : ℕ) → j < m → bit_and (get_or ys j 0) bit ≢ 0) → (m < length ys → bit_and (get_or ys m 0) bit ≡ 0) → (i : ℕ) → i < length ys →
    get_or (cleared_front bit ys) i 0 ≡ cond (nat_lt i m) (get_or ys i 0 - bit_and (get_or ys i 0) bit) (get_or ys i 0)
cleared_at bit [] m within having stops i inside = absurd (omega (arith, inside))
cleared_at bit (y ∷ ys) zero within having stops i inside =
    ap (λ b. get_or (cond b (y ∷ ys) ((y - bit_and y bit) ∷ cleared_front bit ys)) i 0) (eq-eqb (bit_and y bit) 0 (stops (omega arith)))
    ∙ ap (λ b. cond b (get_or (y ∷ ys) i 0 - bit_and (get_or (y ∷ ys) i 0) bit) (get_or (y ∷ ys) i 0)) (sym (le-ltb i 0 (omega arith)))
cleared_at bit (y ∷ ys) (suc m) within having stops zero inside =
    ap (λ b. get_or (cond b (y ∷ ys) ((y - bit_and y bit) ∷ cleared_front bit ys)) 0 0) (ne_eqb (bit_and y bit) 0 (having 0 (omega arith)))
    ∙ ap (λ b. cond b (y - bit_and y bit) y) (sym (lt-ltb 0 (suc m) (omega arith)))
cleared_at bit (y ∷ ys) (suc m) within having stops (suc i) inside =
    ap (λ b. get_or (cond b (y ∷ ys) ((y - bit_and y bit) ∷ cleared_front bit ys)) (suc i) 0) (ne_eqb (bit_and y bit) 0 (having 0 (omega arith)))
    ∙ (cleared_at bit ys m (omega (arith, within)) (λ j low. having (suc j) (omega (arith, low))) (λ low. stops (omega (arith, low))) i (omega (arith, inside))
    ∙ ap (λ b. cond b (get_or ys i 0 - bit_and (get_or ys i 0) bit) (get_or ys i 0)) (same_order i (suc i) m (suc m) (λ l. omega (arith, l)) (λ p. omega (arith, p))))

module _ (rows : List ℕ) (long : length rows ≡ 32) (count at end bit : ℕ) (here : at < count) (few : count ≤ 32) (unused : rows ≡ with_unused (take count rows)) (bit_is : bit ≡ bit_after at (take count rows))
    (from : at + 1 ≤ end) (upto : end ≤ count) (having : (i : ℕ) → at + 1 ≤ i → i < end → bit_and (get_or rows i 0) bit ≢ 0) (stops : end < count → bit_and (get_or rows end 0) bit ≡ 0) where
  abbrev first : List ℕ
  first = take count rows

  abbrev rest : List ℕ
  rest = drop (at + 1) first

  abbrev out : List ℕ
  out = removed_row at first ++ 4294967295 ∷ drop count rows

  first_long : length first ≡ count
  first_long = length-take-le count rows (omega (arith, few, long))

  rest_long : length rest + at + 1 ≡ count
  rest_long = omega (arith, length-drop (at + 1) first, first_long, here)

  rest_at : (j : ℕ) → j < length rest → get_or rest j 0 ≡ get_or rows (at + 1 + j) 0
  rest_at j l = get_or-drop (at + 1) first j 0 ∙ get_or-take count rows (at + 1 + j) 0 (omega (arith, l, rest_long))

  front_long : length (take at first) ≡ at
  front_long = length-take-le at first (omega (arith, here, first_long))

  removed_is : removed_row at first ≡ take at first ++ cleared_front bit rest
  removed_is = ap (λ b. take at first ++ cleared_front b rest) (sym bit_is)

  removed_long : length (removed_row at first) ≡ count - 1
  removed_long = ap length removed_is ∙ (length-append (take at first) (cleared_front bit rest) ∙ omega (arith, front_long, length-cleared_front bit rest, rest_long))

  out_long : length out ≡ 32
  out_long = length-append (removed_row at first) (4294967295 ∷ drop count rows) ∙ omega (arith, removed_long, length-drop count rows, long, here, few)

  abbrev low_row : ℕ → ℕ
  low_row i = lowered_row count at end bit rows i

  cleared_is : (i : ℕ) → at ≤ i → i < count - 1 → get_or (cleared_front bit rest) (i - at) 0 ≡ cond (nat_lt (i + 1) end) (get_or rows (i + 1) 0 - bit_and (get_or rows (i + 1) 0) bit) (get_or rows (i + 1) 0)
  cleared_is i past low =
      let j : ℕ = i - at in
      let same : get_or rest j 0 ≡ get_or rows (i + 1) 0 = rest_at j (omega (arith, past, low, rest_long)) ∙ ap (λ k. get_or rows k 0) (let e : at + 1 + j ≡ i + 1 = omega (arith, past) in e) in
      cleared_at bit rest (end - (at + 1)) (omega (arith, upto, rest_long))
      (λ k l e. having (at + 1 + k) (omega arith) (omega (arith, l)) (ap (λ x. bit_and x bit) (sym (rest_at k (omega (arith, l, upto, rest_long)))) ∙ e))
      (λ l. ap (λ x. bit_and x bit) (rest_at (end - (at + 1)) l ∙ ap (λ k. get_or rows k 0) (let e : at + 1 + (end - (at + 1)) ≡ end = omega (arith, from) in e)) ∙ stops (omega (arith, l, rest_long, from)))
      j (omega (arith, past, low, rest_long))
      ∙ (ap (λ b. cond b (get_or rest j 0 - bit_and (get_or rest j 0) bit) (get_or rest j 0)) (same_order j (i + 1) (end - (at + 1)) end (λ l. omega (arith, l, past)) (λ p. omega (arith, p, past, from)))
      ∙ ap (λ x. cond (nat_lt (i + 1) end) (x - bit_and x bit) x) same)

  unused_at : (i : ℕ) → count ≤ i → i < 32 → get_or rows i 0 ≡ 4294967295
  unused_at i past l =
      ap (λ rs. get_or rs i 0) unused
      ∙ (get_or-append_right first (replicate (32 - length first) 4294967295) count i 0 first_long past ∙ get_or-replicate (32 - length first) (i - count) 4294967295 0 (omega (arith, first_long, l, past)))

  in_front : (i : ℕ) → i < at → low_row i ≡ get_or out i 0
  in_front i low =
      ap (λ b. cond b (get_or rows i 0) (cond (nat_lt i (count - 1)) (cond (nat_lt (i + 1) end) (get_or rows (i + 1) 0 - bit_and (get_or rows (i + 1) 0) bit) (get_or rows (i + 1) 0)) 4294967295)) (lt-ltb i at low)
      ∙ sym (get_or_append_left (removed_row at first) (4294967295 ∷ drop count rows) 0 i (omega (arith, low, here, removed_long))
      ∙ (ap (λ rs. get_or rs i 0) removed_is ∙ (get_or_append_left (take at first) (cleared_front bit rest) 0 i (omega (arith, low, front_long))
      ∙ (get_or-take at first i 0 low ∙ get_or-take count rows i 0 (omega (arith, low, here))))))

  in_rest : (i : ℕ) → at ≤ i → i < count - 1 → low_row i ≡ get_or out i 0
  in_rest i past low =
      ap (λ b. cond b (get_or rows i 0) (cond (nat_lt i (count - 1)) (cond (nat_lt (i + 1) end) (get_or rows (i + 1) 0 - bit_and (get_or rows (i + 1) 0) bit) (get_or rows (i + 1) 0)) 4294967295)) (le-ltb i at past)
      ∙ (ap (λ b. cond b (cond (nat_lt (i + 1) end) (get_or rows (i + 1) 0 - bit_and (get_or rows (i + 1) 0) bit) (get_or rows (i + 1) 0)) 4294967295) (lt-ltb i (count - 1) low)
      ∙ sym (get_or_append_left (removed_row at first) (4294967295 ∷ drop count rows) 0 i (omega (arith, low, removed_long))
      ∙ (ap (λ rs. get_or rs i 0) removed_is ∙ (get_or-append_right (take at first) (cleared_front bit rest) at i 0 front_long past ∙ cleared_is i past low))))

  behind_all : (i : ℕ) → count - 1 ≤ i → i < 32 → get_or out i 0 ≡ 4294967295
  behind_all i past l =
      get_or-append_right (removed_row at first) (4294967295 ∷ drop count rows) (count - 1) i 0 removed_long past
      ∙ ⊎_elim
      (λ (last : i < count). ap (λ k. get_or (4294967295 ∷ drop count rows) k 0) (let e : i - (count - 1) ≡ 0 = omega (arith, last, past) in e))
      (λ (more : count ≤ i).
      ap (λ k. get_or (4294967295 ∷ drop count rows) k 0) (let e : i - (count - 1) ≡ suc (i - count) = omega (arith, more, here) in e)
      ∙ (get_or-drop count rows (i - count) 0 ∙ (ap (λ k. get_or rows k 0) (let e : count + (i - count) ≡ i = omega (arith, more) in e) ∙ unused_at i more l)))
      (cases_lt i count)

  in_unused : (i : ℕ) → count - 1 ≤ i → i < 32 → low_row i ≡ get_or out i 0
  in_unused i past l =
      ap (λ b. cond b (get_or rows i 0) (cond (nat_lt i (count - 1)) (cond (nat_lt (i + 1) end) (get_or rows (i + 1) 0 - bit_and (get_or rows (i + 1) 0) bit) (get_or rows (i + 1) 0)) 4294967295)) (le-ltb i at (omega (arith, past, here)))
      ∙ (ap (λ b. cond b (cond (nat_lt (i + 1) end) (get_or rows (i + 1) 0 - bit_and (get_or rows (i + 1) 0) bit) (get_or rows (i + 1) 0)) 4294967295) (le-ltb i (count - 1) past) ∙ sym (behind_all i past l))

  -- what the lanes became is the rows without the one
  pub row_out : (lanes : List ℕ) → length lanes ≡ 32 → ((i : ℕ) → i < 32 → get_or lanes i 0 ≡ lowered_row count at end bit rows i) → lanes ≡ removed_row at (take count rows) ++ 4294967295 ∷ drop count rows
  row_out lanes whole each = ext_get_or 0 lanes out (whole ∙ sym out_long)
      (λ i h.
      let l : i < 32 = omega (arith, h, whole) in
      each i l ∙ ⊎_elim
      (λ (low : i < at). in_front i low)
      (λ (past : at ≤ i). ⊎_elim (λ (low : i < count - 1). in_rest i past low) (λ (behind : count - 1 ≤ i). in_unused i behind l) (cases_lt i (count - 1)))
      (cases_lt i at))

-- ---- all rows joined
or_assoc : (a b c : ℕ) → bit_or (bit_or a b) c ≡ bit_or a (bit_or b c)
or_assoc a b c = same_from_bits (bit_or (bit_or a b) c) (bit_or a (bit_or b c))
    (λ i. omega (arith, bit_at_or (bit_or a b) c i, bit_at_or a b i, bit_at_or a (bit_or b c) i, bit_at_or b c i))

or_swapped : (a b c d : ℕ) → bit_or (bit_or a b) (bit_or c d) ≡ bit_or (bit_or a c) (bit_or b d)
or_swapped a b c d = same_from_bits (bit_or (bit_or a b) (bit_or c d)) (bit_or (bit_or a c) (bit_or b d))
    (λ i. omega (arith, bit_at_or (bit_or a b) (bit_or c d) i, bit_at_or (bit_or a c) (bit_or b d) i, bit_at_or a b i, bit_at_or c d i, bit_at_or a c i, bit_at_or b d i))

or_appended : (xs ys : List ℕ) → or_all (xs ++ ys) ≡ bit_or (or_all xs) (or_all ys)
or_appended [] ys = sym (or_zero_l (or_all ys))
or_appended (x ∷ xs) ys = ap (bit_or x) (or_appended xs ys) ∙ sym (or_assoc x (or_all xs) (or_all ys))

or_zipped : (xs ys : List ℕ) → length xs ≡ length ys → or_all (zip2 bit_or xs ys) ≡ bit_or (or_all xs) (or_all ys)
or_zipped [] [] same = refl
or_zipped [] (y ∷ ys) same = absurd (omega (arith, same))
or_zipped (x ∷ xs) [] same = absurd (omega (arith, same))
or_zipped (x ∷ xs) (y ∷ ys) same = ap (bit_or (bit_or x y)) (or_zipped xs ys (omega (arith, same))) ∙ or_swapped x y (or_all xs) (or_all ys)

or_zeros : (n : ℕ) → or_all (replicate n 0) ≡ 0
or_zeros zero = refl
or_zeros (suc n) = or_zero_l (or_all (replicate n 0)) ∙ or_zeros n

-- some lanes that follow each other
abbrev pub part : ℕ → ℕ → List ℕ → List ℕ
part i n xs = pick_l 0 (xs ++ xs) (range_with_len i n)

part_long : (i n : ℕ) (xs : List ℕ) → length (part i n xs) ≡ n
part_long i n xs = length-map-range_with_len (λ k. get_or (xs ++ xs) k 0) i n

part_at : (i n : ℕ) (xs : List ℕ) → i + n ≤ length xs → (j : ℕ) → j < n → get_or (part i n xs) j 0 ≡ get_or xs (i + j) 0
part_at i n xs room j l =
    get_or-map (λ k. get_or (xs ++ xs) k 0) (range_with_len i n) j 0 0 (omega (arith, l, length-range_with_len i n))
    ∙ (ap (λ k. get_or (xs ++ xs) k 0) (get_or-range_with_len i n j 0 l) ∙ get_or_append_left xs xs 0 (i + j) (omega (arith, l, room)))

-- both halves of the lanes joined
module _ (n : ℕ) (xs : List ℕ) (long : length xs ≡ n + n) where
  abbrev pub halved : List ℕ
  halved = zip2 bit_or (part 0 n xs) (part n n xs)

  same_long : length (part 0 n xs) ≡ length (part n n xs)
  same_long = part_long 0 n xs ∙ sym (part_long n n xs)

  pub halved_long : length halved ≡ n
  halved_long = length-zip2 bit_or (part 0 n xs) (part n n xs) same_long ∙ part_long 0 n xs

  both : part 0 n xs ++ part n n xs ≡ xs
  both = ext_get_or 0 (part 0 n xs ++ part n n xs) xs (length-append (part 0 n xs) (part n n xs) ∙ omega (arith, part_long 0 n xs, part_long n n xs, long))
      (λ i h. let l : i < n + n = omega (arith, h, length-append (part 0 n xs) (part n n xs), part_long 0 n xs, part_long n n xs) in
      ⊎_elim
      (λ (low : i < n). get_or_append_left (part 0 n xs) (part n n xs) 0 i (omega (arith, low, part_long 0 n xs)) ∙ (part_at 0 n xs (omega (arith, long)) i low ∙ ap (λ k. get_or xs k 0) (omega arith)))
      (λ (past : n ≤ i).
      get_or-append_right (part 0 n xs) (part n n xs) n i 0 (part_long 0 n xs) past
      ∙ (part_at n n xs (omega (arith, long)) (i - n) (omega (arith, l, past)) ∙ ap (λ k. get_or xs k 0) (let e : n + (i - n) ≡ i = omega (arith, past) in e)))
      (cases_lt i n))

  or_halved : or_all halved ≡ or_all xs
  or_halved = or_zipped (part 0 n xs) (part n n xs) same_long ∙ (sym (or_appended (part 0 n xs) (part n n xs)) ∙ ap or_all both)

module _ (rows : List ℕ) (long : length rows ≡ 32) (count : ℕ) (few : count ≤ 32) where
  abbrev pub counted : List ℕ
  counted = sel_l (picked nat_lt count) rows (replicate 32 0)

  pub counted_long : length counted ≡ 32
  counted_long = length-sel_l (picked nat_lt count) rows (replicate 32 0) (sym long) refl

  taken_long : length (take count rows) ≡ count
  taken_long = length-take-le count rows (omega (arith, few, long))

  zeros_long : length {A = ℕ} (replicate (32 - count) 0) ≡ 32 - count
  zeros_long = length-replicate {A = ℕ} (32 - count) 0

  counted_is : counted ≡ take count rows ++ replicate (32 - count) 0
  counted_is = ext_get_or 0 counted (take count rows ++ replicate (32 - count) 0)
      (counted_long ∙ sym (length-append (take count rows) (replicate (32 - count) 0) ∙ omega (arith, taken_long, zeros_long, few)))
      (λ i h. let l : i < 32 = omega (arith, h, counted_long) in
      get_or-sel_l (picked nat_lt count) rows (replicate 32 0) i 0 l (omega (arith, l, long)) l
      ∙ (ap₂ (λ b x. cond b (get_or rows i 0) x) (picked_at nat_lt count i l) (get_or-replicate 32 i 0 0 l) ∙ ⊎_elim
      (λ (low : i < count).
      ap (λ b. cond b (get_or rows i 0) 0) (lt-ltb i count low)
      ∙ sym (get_or_append_left (take count rows) (replicate (32 - count) 0) 0 i (omega (arith, low, taken_long)) ∙ get_or-take count rows i 0 low))
      (λ (past : count ≤ i).
      ap (λ b. cond b (get_or rows i 0) 0) (le-ltb i count past)
      ∙ sym (get_or-append_right (take count rows) (replicate (32 - count) 0) count i 0 taken_long past ∙ get_or-replicate (32 - count) (i - count) 0 0 (omega (arith, past, l))))
      (cases_lt i count)))

  or_counted : or_all counted ≡ or_all (take count rows)
  or_counted = ap or_all counted_is ∙ (or_appended (take count rows) (replicate (32 - count) 0) ∙ (ap (bit_or (or_all (take count rows))) (or_zeros (32 - count)) ∙ or_zero_r (or_all (take count rows))))

  pub or_front : or_all (halved 16 counted counted_long) ≡ or_all (take count rows)
  or_front = or_halved 16 counted counted_long ∙ or_counted

-- sixteen lanes
four_joined : (xs : List ℕ) → length xs ≡ 4 → bit_or (bit_or (bit_or (get_or xs 0 0) (get_or xs 1 0)) (get_or xs 2 0)) (get_or xs 3 0) ≡ or_all xs
four_joined (a ∷ (b ∷ (c ∷ (d ∷ [])))) long = or_assoc (bit_or a b) c d ∙ (or_assoc a b (bit_or c d) ∙ ap (λ x. bit_or a (bit_or b (bit_or c x))) (sym (or_zero_r d)))
four_joined [] long = absurd (omega (arith, long))
four_joined (a ∷ []) long = absurd (omega (arith, long))
four_joined (a ∷ (b ∷ [])) long = absurd (omega (arith, long))
four_joined (a ∷ (b ∷ (c ∷ []))) long = absurd (omega (arith, long))
four_joined (a ∷ (b ∷ (c ∷ (d ∷ (e ∷ xs))))) long = absurd (omega (arith, long))

module _ (rows : List ℕ) (long : length rows ≡ 16) where
  abbrev pub four : List ℕ
  four = halved 4 (halved 8 rows long) (halved_long 8 rows long)

  pub or_sixteen : bit_or (bit_or (bit_or (get_or four 0 0) (get_or four 1 0)) (get_or four 2 0)) (get_or four 3 0) ≡ or_all rows
  or_sixteen = four_joined four (halved_long 4 (halved 8 rows long) (halved_long 8 rows long)) ∙ (or_halved 4 (halved 8 rows long) (halved_long 8 rows long) ∙ or_halved 8 rows long)
