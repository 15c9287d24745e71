-- Bits gathered from sixteen bytes of a key after the other.
use Rattle.partial_keys.proofs.Common.{◌≡◌, ℕ, zero, suc, ◌+◌, ◌-◌, ◌*◌, ◌/◌, ◌%◌, ◌^◌, ◌<◌, ◌≤◌, ◌⊎◌, inl, inr, Bool, true, false, cond, ◌&&◌, ◌||◌, eqb, ltb, List, [], ◌∷◌, map, length, get_or, take, replicate, bit_or, refl, sym, ap, ap₂, ◌∙◌, arith, w8, Fits, lit<, min, nat_le, nat_lt, bit_at, or_add_and, or_zero_r, cases_lt, le-leb, lt-leb, le-ltb, lt-ltb, ltb-true, ltb-false, ne_eqb, and_le_l, min-eq_left, min-eq_right, min-le_right, get_or-append_right, get_or-replicate, get_or-take, get_or_past, length-replicate, length-take, get_or-append, bit_of, with_zeros}
use lib.Lanes.{zip2, sel_l, top, Each1}
use Rattle.partial_keys.specs.Columns.{AreColumnLanes}
use Rattle.partial_keys.specs.Windows.{bit_within, byte_lane, mask_lane, missed_lane}
use Rattle.partial_keys.proofs.Windows.{below8, free_bit, lane_tells, one_over, over, rise_two}

-- ---- differences of lanes
pub over_long : (xs ys : List ℕ) → length xs ≡ length ys → length (over xs ys) ≡ length xs
over_long [] ys e = refl
over_long (x ∷ xs) [] e = absurd (omega (arith, e))
over_long (x ∷ xs) (y ∷ ys) e = ap suc (over_long xs ys (omega (arith, e)))

pub over_at : (xs ys : List ℕ) (i : ℕ) → length xs ≡ length ys → i < length xs → Each1 (Fits w8) xs → Each1 (Fits w8) ys → get_or (over xs ys) i 0 ≡ get_or xs i 0 - get_or ys i 0
over_at [] ys i e inside f g = absurd (omega (arith, inside))
over_at (x ∷ xs) [] i e inside f g = absurd (omega (arith, e))
over_at (x ∷ xs) (y ∷ ys) zero e inside f g = one_over x y f.0.fits g.0.fits
over_at (x ∷ xs) (y ∷ ys) (suc i) e inside f g = over_at xs ys i (omega (arith, e)) (omega (arith, inside)) f.1 g.1

pub same_fit : (n a : ℕ) → a < 256 → Each1 (Fits w8) (replicate n a)
same_fit zero a low = tt
same_fit (suc n) a low = (record { fits = low }, same_fit n a low)

-- ---- the lesser of two lanes
abbrev pub least : List ℕ → List ℕ → List ℕ
least xs ys = sel_l (map (top 7) (zip2 below8 xs ys)) xs ys

pub least_long : (xs ys : List ℕ) → length xs ≡ length ys → length (least xs ys) ≡ length xs
least_long [] ys e = refl
least_long (x ∷ xs) [] e = absurd (omega (arith, e))
least_long (x ∷ xs) (y ∷ ys) e = ap suc (least_long xs ys (omega (arith, e)))

or_false : (a : Bool) → a || false ≡ a
or_false true = refl
or_false false = refl

zero_or : (a b : ℕ) → b ≤ a → eqb b 0 ≡ (eqb a 0 || eqb b 0)
zero_or zero b low = ap (λ n. eqb n 0) (let e : b ≡ 0 = omega (arith, low) in e)
zero_or (suc a) b low = sym (ap (λ t. t || eqb b 0) (ne_eqb (suc a) 0 (λ e. omega (arith, e))))

one_least : (a b : ℕ) → eqb (cond (top 7 (below8 a b)) a b) 0 ≡ (eqb a 0 || eqb b 0)
one_least a b = go (ltb a b) refl
  where
    go : (t : Bool) → ltb a b ≡ t → eqb (cond (top 7 (cond t (2 ^ 8 - 1) 0)) a b) 0 ≡ (eqb a 0 || eqb b 0)
    go true e = sym (ap (λ t. eqb a 0 || t) (ne_eqb b 0 (λ z. omega (arith, z, ltb-true a b e))) ∙ or_false (eqb a 0))
    go false e = zero_or a b (ltb-false a b e)

-- it is 0 where one of them is
pub least_zero : (xs ys : List ℕ) (i : ℕ) → length xs ≡ length ys → i < length xs → eqb (get_or (least xs ys) i 0) 0 ≡ (eqb (get_or xs i 0) 0 || eqb (get_or ys i 0) 0)
least_zero [] ys i e inside = absurd (omega (arith, inside))
least_zero (x ∷ xs) [] i e inside = absurd (omega (arith, e))
least_zero (x ∷ xs) (y ∷ ys) zero e inside = one_least x y
least_zero (x ∷ xs) (y ∷ ys) (suc i) e inside = least_zero xs ys i (omega (arith, e)) (omega (arith, inside))

-- ---- the bits within sixteen bytes
and_false : (a : Bool) → a && false ≡ false
and_false true = refl
and_false false = refl

-- the front of a key has the bits of its bytes
bit_of_front : (key : List ℕ) (n p : ℕ) → bit_of (take n key) p ≡ bit_of key p && nat_lt (p / 9) n
bit_of_front key n p = go (cases_lt (p / 9) n) (cases_lt (p / 9) (length key))
  where
    rest : List ℕ → Bool
    rest k = eqb (p % 9) 0 || eqb (bit_at (get_or k (p / 9) 0) (8 - p % 9)) 1

    none : (k : List ℕ) → length k ≤ p / 9 → bit_of k p ≡ false
    none k past = ap (λ t. t && (eqb (p % 9) 0 || eqb (bit_at (get_or k (p / 9) 0) (8 - p % 9)) 1)) (le-ltb (p / 9) (length k) past)

    and_true : (a : Bool) → a ≡ a && true
    and_true true = refl
    and_true false = refl

    go : (p / 9 < n) ⊎ (n ≤ p / 9) → (p / 9 < length key) ⊎ (length key ≤ p / 9) → bit_of (take n key) p ≡ bit_of key p && nat_lt (p / 9) n
    go (inr past) either = none (take n key) (omega (arith, past, length-take n key)) ∙ sym (ap (λ t. bit_of key p && t) (le-ltb (p / 9) n past) ∙ and_false (bit_of key p))
    go (inl before) (inr past) = none (take n key) (omega (arith, past, length-take n key)) ∙ sym (ap (λ t. t && nat_lt (p / 9) n) (none key past))
    go (inl before) (inl inside) =
        ap₂ (λ t w. t && (eqb (p % 9) 0 || eqb (bit_at w (8 - p % 9)) 1))
        (lt-ltb (p / 9) (length (take n key)) (omega (arith, before, inside, length-take n key)) ∙ sym (lt-ltb (p / 9) (length key) inside)) (get_or-take n key (p / 9) 0 before) ∙
        (and_true (bit_of key p) ∙ ap (λ t. bit_of key p && t) (sym (lt-ltb (p / 9) n before)))

-- places behind the bytes are 0
padded : (key : List ℕ) (k : ℕ) → get_or (with_zeros key) k 0 ≡ get_or key k 0
padded key k = go (cases_lt k (length key))
  where
    go : (k < length key) ⊎ (length key ≤ k) → get_or (with_zeros key) k 0 ≡ get_or key k 0
    go (inl inside) = get_or-append key _ 0 k inside
    go (inr past) = get_or-append_right key _ (length key) k 0 refl past ∙ (zeros (240 - length key) (k - length key) ∙ sym (get_or_past key k 0 past))
      where
        zeros : (n i : ℕ) → get_or (replicate {A = ℕ} n 0) i 0 ≡ 0
        zeros n i = elim (cases_lt i n) [ inl low ↦ get_or-replicate {A = ℕ} n i 0 0 low | inr high ↦ get_or_past (replicate {A = ℕ} n 0) i 0 (omega (arith, high, length-replicate {A = ℕ} n 0)) ]

-- A lane that misses nothing of the sixteen, and whose byte is not before them, tells a bit within them.
module _ (key window : List ℕ) (first last i p : ℕ) (some : 1 ≤ length key) (few : length key ≤ 240) (bytes : (k : ℕ) → get_or key k 0 < 256) (inside : i < 32) (begins : first ≤ 224) (reached : first < length key)
    (ends : last ≡ min (first + 15) (length key - 1)) (holds : (k : ℕ) → k < 32 → get_or window k 0 ≡ get_or (with_zeros key) (first + k % 16) 0) where
  abbrev front : List ℕ
  front = take (first + 16) key

  long : length front ≡ min (first + 16) (length key)
  long = length-take (first + 16) key

  last_is : last ≡ length front - 1
  last_is = elim (cases_lt (first + 16) (length key)) [
    | inl more ↦ ends ∙ (min-eq_left {n = first + 15} {m = length key - 1} (omega (arith, more)) ∙ omega (arith, long, min-eq_left {n = first + 16} {m = length key} (omega (arith, more))))
    | inr less ↦ ends ∙ (min-eq_right {n = length key - 1} {m = first + 15} (omega (arith, less)) ∙ omega (arith, long, min-eq_right {n = length key} {m = first + 16} less))
  ]

  front_some : 1 ≤ length front
  front_some = elim (cases_lt (first + 16) (length key)) [
    | inl more ↦ omega (arith, long, min-eq_left {n = first + 16} {m = length key} (omega (arith, more)))
    | inr less ↦ omega (arith, some, long, min-eq_right {n = length key} {m = first + 16} less)
  ]

  front_few : length front ≤ 240
  front_few = omega (arith, few, long, min-le_right (first + 16) (length key))

  front_bytes : (k : ℕ) → get_or front k 0 < 256
  front_bytes k = elim (cases_lt k (first + 16)) [
    | inl low ↦ rw (get_or-take (first + 16) key k 0 low) (bytes k)
    | inr high ↦ rw (get_or_past front k 0 (omega (arith, high, long))) (lit< tt)
  ]

  front_holds : (k : ℕ) → k < 32 → get_or window k 0 ≡ get_or (with_zeros front) (first + k % 16) 0
  front_holds k low = holds k low ∙ (padded key (first + k % 16) ∙ sym (padded front (first + k % 16) ∙ get_or-take (first + 16) key (first + k % 16) 0 (omega arith)))

  pub lane_within : eqb (bit_or (missed_lane window first last i (byte_lane p) (mask_lane p)) (first - byte_lane p)) 0 ≡ bit_within first key p
  lane_within = elim (cases_lt (p / 9) first) [ inl before ↦ none before | inr from ↦ told from ]
    where
      missed : ℕ
      missed = missed_lane window first last i (byte_lane p) (mask_lane p)

      none : p / 9 < first → eqb (bit_or (missed_lane window first last i (byte_lane p) (mask_lane p)) (first - byte_lane p)) 0 ≡ bit_within first key p
      none before =
          let byte : byte_lane p ≡ p / 9 = min-eq_left {n = p * 7282 / 65536} {m = 255} (omega (arith, before, begins)) ∙ omega (arith, before, begins) in
          let a : ℕ = missed_lane window first last i (byte_lane p) (mask_lane p) in
          let b : ℕ = first - byte_lane p in
          ne_eqb (bit_or a b) 0 (λ e. omega (arith, e, or_add_and a b, and_le_l a b, byte, before)) ∙
          sym (ap (λ t. bit_of key p && (t && nat_lt (p / 9) (first + 16))) (lt-leb first (p / 9) before) ∙ and_false (bit_of key p))

      told : first ≤ p / 9 → eqb (bit_or (missed_lane window first last i (byte_lane p) (mask_lane p)) (first - byte_lane p)) 0 ≡ bit_within first key p
      told from =
          let at : first ≤ byte_lane p = elim (cases_lt (p * 7282 / 65536) 255) [
            | inl l ↦ (let e : byte_lane p ≡ p * 7282 / 65536 = min-eq_left {n = p * 7282 / 65536} {m = 255} (omega (arith, l)) in omega (arith, e, from))
            | inr g ↦ (let e : byte_lane p ≡ 255 = min-eq_right {n = 255} {m = p * 7282 / 65536} (omega (arith, g)) in omega (arith, e, begins))
          ] in
          let none_before : first - byte_lane p ≡ 0 = omega (arith, at) in
          let alone : bit_or (missed_lane window first last i (byte_lane p) (mask_lane p)) (first - byte_lane p) ≡ missed_lane window first (length front - 1) i (byte_lane p) (mask_lane p) =
          ap (bit_or (missed_lane window first last i (byte_lane p) (mask_lane p))) none_before ∙
          (or_zero_r (missed_lane window first last i (byte_lane p) (mask_lane p)) ∙ ap (λ n. missed_lane window first n i (byte_lane p) (mask_lane p)) last_is) in
          ap (λ n. eqb n 0) alone ∙
          (lane_tells front window first i p front_some front_few front_bytes inside front_holds (λ low. (from, omega (arith, low, long))) ∙
          (bit_of_front key (first + 16) p ∙ ap (λ t. bit_of key p && (t && nat_lt (p / 9) (first + 16))) (sym (le-leb first (p / 9) from))))

-- ---- sixteen after the other
-- no bit is before the first column's byte
pub none_before : (key lanes : List ℕ) (count i : ℕ) → length key ≤ 240 → AreColumnLanes lanes count → i < 32 → (bit_of key (get_or lanes i 0) && nat_lt (get_or lanes i 0 / 9) (get_or lanes 0 0 / 9)) ≡ false
none_before key lanes count i few are inside = elim (cases_lt i count) [ inl used ↦ go used | inr free ↦ none free ]
  where
    go : i < count → (bit_of key (get_or lanes i 0) && nat_lt (get_or lanes i 0 / 9) (get_or lanes 0 0 / 9)) ≡ false
    go used =
        let mine : get_or (take count lanes) i 0 ≡ get_or lanes i 0 = get_or-take count lanes i 0 used in
        let head : get_or (take count lanes) 0 0 ≡ get_or lanes 0 0 = get_or-take count lanes 0 0 (omega (arith, used)) in
        let after = rise_two 0 (take count lanes) 0 i are.columns.rise (omega arith) (omega (arith, used, are.counted)) in
        ap (λ t. bit_of key (get_or lanes i 0) && t) (le-ltb (get_or lanes i 0 / 9) (get_or lanes 0 0 / 9) (omega (arith, mine, head, after))) ∙ and_false (bit_of key (get_or lanes i 0))

    none : count ≤ i → (bit_of key (get_or lanes i 0) && nat_lt (get_or lanes i 0 / 9) (get_or lanes 0 0 / 9)) ≡ false
    none free =
        let unused : get_or lanes i 0 ≡ 65535 = ap (λ xs. get_or xs i 0) (sym are.unused) ∙
        (get_or-append_right (take count lanes) (replicate (32 - count) 65535) count i 0 are.counted free ∙ get_or-replicate {A = ℕ} (32 - count) (i - count) 65535 0 (omega (arith, free, inside))) in
        ap (λ t. t && nat_lt (get_or lanes i 0 / 9) (get_or lanes 0 0 / 9)) (ap (bit_of key) unused ∙ free_bit key few)

-- a bit of a key is in one of its bytes
bit_inside : (key : List ℕ) (p : ℕ) → bit_of key p ≡ true → p / 9 < length key
bit_inside key p is = elim (cases_lt (p / 9) (length key)) [
  | inl inside ↦ inside
  | inr past ↦ absurd (let none : bit_of key p ≡ false = ap (λ t. t && (eqb (p % 9) 0 || eqb (bit_at (get_or key (p / 9) 0) (8 - p % 9)) 1)) (le-ltb (p / 9) (length key) past) in let e : true ≡ false = sym is ∙ none in cc)
]

-- with those within the next sixteen, all bits before the end of these are told
pub next_within : (key : List ℕ) (p from : ℕ) → length key ≤ 240 → (bit_of key p && nat_lt (p / 9) from) || bit_within (min from 224) key p ≡ bit_of key p && nat_lt (p / 9) (from + 16)
next_within key p from few = go (bit_of key p) refl
  where
    go : (b : Bool) → bit_of key p ≡ b → (b && nat_lt (p / 9) from) || (b && (nat_le (min from 224) (p / 9) && nat_lt (p / 9) (min from 224 + 16))) ≡ b && nat_lt (p / 9) (from + 16)
    go false is = refl
    go true is = elim (cases_lt (p / 9) from) [
      | inl before ↦ ap (λ t. t || (nat_le (min from 224) (p / 9) && nat_lt (p / 9) (min from 224 + 16))) (lt-ltb (p / 9) from before) ∙ sym (lt-ltb (p / 9) (from + 16) (omega (arith, before)))
      | inr past ↦ ap (λ t. t || (nat_le (min from 224) (p / 9) && nat_lt (p / 9) (min from 224 + 16))) (le-ltb (p / 9) from past) ∙ here past (cases_lt 224 from)
    ]
      where
        low : p / 9 < 240
        low = omega (arith, bit_inside key p is, few)

        here : from ≤ p / 9 → (224 < from) ⊎ (from ≤ 224) → nat_le (min from 224) (p / 9) && nat_lt (p / 9) (min from 224 + 16) ≡ nat_lt (p / 9) (from + 16)
        here past (inl far) =
            let least : min from 224 ≡ 224 = min-eq_right {n = 224} {m = from} (omega (arith, far)) in
            rw least (ap₂ (λ s t. s && t) (le-leb 224 (p / 9) (omega (arith, past, far))) (lt-ltb (p / 9) (224 + 16) (omega (arith, low))) ∙ sym (lt-ltb (p / 9) (from + 16) (omega (arith, low, far))))
        here past (inr near) =
            let least : min from 224 ≡ from = min-eq_left {n = from} {m = 224} near in
            rw least (ap (λ t. t && nat_lt (p / 9) (from + 16)) (le-leb from (p / 9) past))

-- and once these are past the key, all
pub all_before : (key : List ℕ) (p end : ℕ) → length key ≤ end → bit_of key p && nat_lt (p / 9) end ≡ bit_of key p
all_before key p end past = go (bit_of key p) refl
  where
    go : (b : Bool) → bit_of key p ≡ b → b && nat_lt (p / 9) end ≡ b
    go false is = refl
    go true is = lt-ltb (p / 9) end (omega (arith, bit_inside key p is, past))
