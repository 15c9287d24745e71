-- The entries that a position affects, by how many positions and rows are below some number.
use Rattle.record_words.proofs.Common.{ℕ, suc, ◌≡◌, ◌≢◌, ◌+◌, ◌-◌, ◌*◌, ◌/◌, ◌^◌, ◌<◌, ◌≤◌, ◌++◌, inl, inr, List, [], ◌∷◌, arith, cond, count_by, get_or, leb, length, map, min, nat_lt, refl, replicate, sym, ap, ap₂, Bool, subst, ◌∙◌, ⊎_elim, div-mul-le_self, cases_lt, eq-eqb, le-leb, le-ltb, leb-true, lt-ltb, ltb-true, ne_eqb, get_or_append_left, get_or_default, get_or_past, mod_below, pow_pos, shr_high, shr_split, NodeView, IsLawfulNode, piece, rises-ladder, shown-sparse_keys, affected_range_is, same_count, front_below-filled, with_unused, affected_count, affected_first, front_below}
use Rattle.std.proofs.lemmas.List.Sums.{sum_by-cons}
use Rattle.partial_keys.specs.Runs.{IsRunEnd, IsRunStart}
use Rattle.node_tries.proofs.Positions.{front_below-place, IsPlaceOf}
use Rattle.node_tries.proofs.Positions.Tests.{same_bools}
use Rattle.record_words.proofs.Lawful.{get_or-padded, length-with_unused, row-lt}

-- ---- numbers that rise
-- up to the one that stands behind their end
abbrev Rise : ℕ → List ℕ → Type 0
Rise d xs = (i k : ℕ) → i ≤ k → get_or xs i d ≤ get_or xs k d

rise_inside : (d : ℕ) (xs : List ℕ) → ((i k : ℕ) → i ≤ k → k < length xs → get_or xs i 0 ≤ get_or xs k 0) → ((i : ℕ) → get_or xs i 0 ≤ d) → Rise d xs
rise_inside d xs rise most i k le = elim (cases_lt k (length xs)) [
  | inl inside ↦ let a = get_or_default xs i d 0 (omega (arith, le, inside)) in let b = get_or_default xs k d 0 inside in omega (arith, a, b, rise i k le inside)
  | inr past ↦ let b = get_or_past xs k d past in ⊎_elim
      (λ (low : i < length xs). let a = get_or_default xs i d 0 low in omega (arith, a, b, most i))
      (λ (high : length xs ≤ i). let a = get_or_past xs i d high in omega (arith, a, b))
      (cases_lt i (length xs))
]

rise_padded : (d n : ℕ) (xs : List ℕ) → Rise d xs → Rise d (xs ++ replicate n d)
rise_padded d n xs rise i k le = rw (get_or-padded xs n d i, get_or-padded xs n d k) (rise i k le)

none_below : (b d : ℕ) (xs : List ℕ) → ((i : ℕ) → i < length xs → b ≤ get_or xs i d) → count_by (λ x. nat_lt x b) xs ≡ 0
none_below b d [] all = refl
none_below b d (x ∷ xs) all = sum_by-cons (λ y. cond (nat_lt y b) 1 0) x xs ∙ (let e = none_below b d xs (λ i l. all (suc i) (omega (arith, l))) in rw (le-ltb x b (all 0 (omega arith))) (omega (arith, e)))

-- as many are below a number as stand in front of the first that is not
pub count_front : (b d : ℕ) (xs : List ℕ) → Rise d xs → count_by (λ x. nat_lt x b) xs ≡ front_below b xs
count_front b d [] rise = refl
count_front b d (x ∷ xs) rise = sum_by-cons (λ y. cond (nat_lt y b) 1 0) x xs ∙ elim (cases_lt x b) [
  | inl low ↦ rw (lt-ltb x b low) (let e = count_front b d xs (λ i k le. rise (suc i) (suc k) (omega (arith, le))) in omega (arith, e))
  | inr high ↦ let e = none_below b d xs (λ i l. let up = rise 0 (suc i) (omega arith) in omega (arith, up, high)) in rw (le-ltb x b high) (omega (arith, e))
]

-- not above a number is below the next
upto_below : (b x : ℕ) → leb x b ≡ nat_lt x (b + 1)
upto_below b x = same_bools _ _ (λ e. lt-ltb x (b + 1) (let l = leb-true x b e in omega (arith, l))) (λ e. le-leb x b (let l = ltb-true x (b + 1) e in omega (arith, l)))

pub all_upto : (b : ℕ) (xs : List ℕ) → map (λ x. leb x b) xs ≡ map (λ x. nat_lt x (b + 1)) xs
all_upto b [] = refl
all_upto b (x ∷ xs) = ap₂ (λ (t : Bool) (ts : List Bool). t ∷ ts) (upto_below b x) (all_upto b xs)

-- ---- the first bits of a number
same_front : (s q x : ℕ) → q * 2 ^ s ≤ x → x < q * 2 ^ s + 2 ^ s → x / 2 ^ s ≡ q
same_front s q x low high = let is : x ≡ q * 2 ^ s + (x - q * 2 ^ s) = omega (arith, low) in ap (λ m. m / 2 ^ s) is ∙ shr_high q s (x - q * 2 ^ s) (omega (arith, low, high))

front_lower : (s q x : ℕ) → x < q * 2 ^ s → x / 2 ^ s ≢ q
front_lower s q x low same = let le = div-mul-le_self x (2 ^ s) in let at = ap (λ m. m * 2 ^ s) same in omega (arith, low, le, at)

front_higher : (s q x : ℕ) → q * 2 ^ s + 2 ^ s ≤ x → x / 2 ^ s ≢ q
front_higher s q x high same = let parts = shr_split x s in let low = mod_below x (2 ^ s) (pow_pos s) in let at = ap (λ m. m * 2 ^ s) same in omega (arith, high, parts, low, at)

-- ---- the run of rows round one that agree with it in the first columns
module _ (rows : List ℕ) (rise : (i k : ℕ) → i ≤ k → k < length rows → get_or rows i 0 ≤ get_or rows k 0) (room : length rows ≤ 32) (n found : ℕ) (here : found < length rows) where
  abbrev s : ℕ
  s = 32 - n

  abbrev row : ℕ
  row = get_or rows found 0

  abbrev least : ℕ
  least = row / 2 ^ s * 2 ^ s

  abbrev first : ℕ
  first = front_below least (with_unused rows)

  abbrev past : ℕ
  past = front_below (least + 2 ^ s) (with_unused rows)

  at : (k : ℕ) → k < length rows → get_or (with_unused rows) k 0 ≡ get_or rows k 0
  at k inside = get_or_append_left rows _ 0 k inside

  long : length (with_unused rows) ≡ 32
  long = length-with_unused rows room

  from : IsPlaceOf (with_unused rows) least first
  from = front_below-place least (with_unused rows)

  upto : IsPlaceOf (with_unused rows) (least + 2 ^ s) past
  upto = front_below-place (least + 2 ^ s) (with_unused rows)

  row_from : least ≤ row
  row_from = div-mul-le_self row (2 ^ s)

  row_upto : row < least + 2 ^ s
  row_upto = let parts = shr_split row s in let low = mod_below row (2 ^ s) (pow_pos s) in omega (arith, parts, low)

  first_here : first ≤ found
  first_here = ⊎_elim (λ (l : found < first). absurd (let b = from.below found l in let e = at found here in omega (arith, b, e, row_from))) (λ g. g) (cases_lt found first)

  past_here : found < past
  past_here = ⊎_elim (λ l. l)
      (λ (g : past ≤ found). absurd (let b = upto.above (omega (arith, g, here, long, room)) in let e = at past (omega (arith, g, here)) in let r = rise past found g here in omega (arith, b, e, r, row_upto)))
      (cases_lt found past)

  pub first_of_run : IsRunStart rows n found first
  first_of_run = record {
    in_range = first_here;
    same = λ k le l. eq-eqb _ _ (same_front s (row / 2 ^ s) (get_or rows k 0)
        (let b = from.above (omega (arith, first_here, here, long, room)) in let e = at first (omega (arith, first_here, here)) in let r = rise first k le (omega (arith, l, here)) in omega (arith, b, e, r))
        (let r = rise k found (omega (arith, l)) here in omega (arith, r, row_upto)));
    before = λ some. ne_eqb _ _ (front_lower s (row / 2 ^ s) (get_or rows (first - 1) 0)
        (let b = from.below (first - 1) (omega (arith, some)) in let e = at (first - 1) (omega (arith, some, first_here, here)) in omega (arith, b, e)));
  }

  module _ (end : ℕ) (is : end ≡ min past (length rows)) where
    pub some : 1 ≤ end
    some = omega (arith, is, past_here, here)

    pub last_of_run : IsRunEnd rows n found (end - 1)
    last_of_run = record {
      at_least = omega (arith, is, past_here, here);
      in_range = omega (arith, is, some);
      same = λ k after le. eq-eqb _ _ (same_front s (row / 2 ^ s) (get_or rows k 0)
          (let r = rise found k (omega (arith, after)) (omega (arith, le, is, some)) in omega (arith, r, row_from))
          (let b = upto.below k (omega (arith, le, is, some)) in let e = at k (omega (arith, le, is, some)) in omega (arith, b, e)));
      after = λ more. ne_eqb _ _ (front_higher s (row / 2 ^ s) (get_or rows (end - 1 + 1) 0)
          (let is_past : past ≡ end - 1 + 1 = omega (arith, is, some, more) in let b = upto.above (omega (arith, is_past, more, long, room)) in
          let e = at past (omega (arith, is_past, more)) in subst (λ i. least + 2 ^ s ≤ get_or rows i 0) is_past (omega (arith, b, e))));
    }

-- ---- of a node
module _ (node : NodeView) (lawful : IsLawfulNode node) where
  rows_rise : (i k : ℕ) → i ≤ k → k < length node.rows → get_or node.rows i 0 ≤ get_or node.rows k 0
  rows_rise = rises-ladder node.rows (shown-sparse_keys node.columns node.rows node.entries (piece node) lawful.shows).ladder

  -- how many columns are below a position
  pub columns_below : (position : ℕ) (lanes : List ℕ) → position < 2 ^ 16 → lanes ≡ node.columns ++ replicate (32 - length node.columns) 65535 → front_below position lanes ≡ front_below position node.columns
  columns_below position lanes small is = ap (front_below position) is ∙ front_below-filled position 65535 (32 - length node.columns) node.columns (omega (arith, small))

  -- how many rows are below a number
  pub rows_in_front : (b : ℕ) (lanes : List ℕ) → lanes ≡ with_unused node.rows → count_by (λ x. nat_lt x b) lanes ≡ front_below b (with_unused node.rows)
  rows_in_front b lanes is =
      ap (count_by (λ x. nat_lt x b)) is
      ∙ count_front b 4294967295 _ (rise_padded 4294967295 (32 - length node.rows) node.rows (rise_inside 4294967295 node.rows rows_rise (λ i. let l = row-lt node lawful i in omega (arith, l))))

  pub few_below : (position : ℕ) → front_below position node.columns ≤ 31
  few_below position = let place = front_below-place position node.columns in omega (arith, place.in_range, lawful.positions.few)

  -- the affected entries, by such counts
  module _ (position found n first end : ℕ) (here : found < length node.entries) (below : n ≡ front_below position node.columns)
      (first_is : first ≡ front_below (get_or node.rows found 0 / 2 ^ (32 - n) * 2 ^ (32 - n)) (with_unused node.rows))
      (end_is : end ≡ min (front_below (get_or node.rows found 0 / 2 ^ (32 - n) * 2 ^ (32 - n) + 2 ^ (32 - n)) (with_unused node.rows)) (length node.rows)) where
    room : length node.rows ≤ 32
    room = omega (arith, same_count node lawful, lawful.room)

    row_here : found < length node.rows
    row_here = omega (arith, same_count node lawful, here)

    pub end_some : 1 ≤ end
    end_some = some node.rows rows_rise room n found row_here end end_is

    pub affected_by_counts : (affected_first position found (piece node) ≡ first) × (affected_count position found (piece node) + first ≡ end - 1 + 1)
    affected_by_counts = affected_range_is node lawful position found n first (end - 1) here below
        (subst (IsRunStart node.rows n found) (sym first_is) (first_of_run node.rows rows_rise room n found row_here))
        (last_of_run node.rows rows_rise room n found row_here end end_is)
