-- Words as lanes of fewer bits.
use Rattle.record_words.proofs.Common.{Bool, true, false, cond, eqb, map, not, ◌||◌, ℕ, zero, suc, ◌≡◌, ◌+◌, ◌-◌, ◌*◌, ◌/◌, ◌%◌, ◌^◌, ◌<◌, ◌≤◌, ◌++◌, List, [], ◌∷◌, arith, get_or, length, length-append, replicate, take, drop, refl, sym, ap, subst, ◌∙◌, w32, Fits, below_more, ext_get_or, get_or_default, get_or-append_right, get_or-drop, get_or-replicate, length-replicate, take_at, below_from_Fits, get_or-chunk, get_or-zip2, get_or_narrower, get_or_wider, length-chunk, length-zip2, ap₂, inl, inr, get_or-append, cases_lt, eq-eqb, eqb-false, eqb-true, ne_eqb, has, NodeView, IsLawfulNode, same_count, AreColumnLanes, IsColumns, with_unused}
use Rattle.std.proofs.Common.{w64}
use borrow.Author.Count.{below_none}
use Rattle.std.proofs.lemmas.List.{get_or-take}
use lib.Lanes.{Each1, chunk, digits_l, mask_l, number_l, zip2}
use Rattle.record_words.specs.Kinds.{with_free_to_16}
use Rattle.record_words.specs.Packed.{position_at, row_at, row_word}
use Rattle.record_words.proofs.near.Digits.{base_8, number-lt, number_of_digits}
use Rattle.record_words.proofs.Lawful.{get_or-padded, length-with_unused}

-- a list of one word
pub one_of : (xs : List ℕ) → length xs ≡ 1 → xs ≡ get_or xs 0 0 ∷ []
one_of [] long = absurd (omega (arith, long))
one_of (x ∷ []) long = refl
one_of (x ∷ y ∷ zs) long = absurd (omega (arith, long))

number_of_two : (p : ℕ) (xs : List ℕ) → length xs ≡ 2 → number_l p xs ≡ get_or xs 0 0 + p * get_or xs 1 0
number_of_two p [] e = absurd (omega (arith, e))
number_of_two p (x ∷ []) e = absurd (omega (arith, e))
number_of_two p (x ∷ y ∷ []) e = omega arith
number_of_two p (x ∷ y ∷ z ∷ zs) e = absurd (omega (arith, e))

-- m of n words from an offset on
pub part_at : (words : List ℕ) (n s m j : ℕ) → s + m ≤ n → j < m → get_or (chunk 0 m (take (n - s) (drop s words))) j 0 ≡ get_or words (s + j) 0
part_at words n s m j room low =
    get_or-chunk 0 m (take (n - s) (drop s words)) j 0 low
    ∙ (get_or-take (n - s) (drop s words) (0 + j) 0 (omega (arith, room, low))
    ∙ (get_or-drop s words (0 + j) 0 ∙ ap (λ k. get_or words (s + k) 0) (omega arith)))

-- an operation with one number, in each lane
pub splat_at : (n : ℕ) (op : ℕ → ℕ → ℕ) (xs : List ℕ) (c i : ℕ) → length xs ≡ n → i < n → get_or (zip2 op xs (replicate n c)) i 0 ≡ op (get_or xs i 0) c
splat_at n op xs c i long low =
    get_or-zip2 op xs (replicate n c) i 0 0 0 (omega (arith, low, long)) (omega (arith, low, length-replicate {A = ℕ} n c)) ∙ ap (op (get_or xs i 0)) (get_or-replicate {A = ℕ} n i c 0 low)

pub splat_long : (n : ℕ) (op : ℕ → ℕ → ℕ) (xs : List ℕ) (c : ℕ) → length xs ≡ n → length (zip2 op xs (replicate n c)) ≡ n
splat_long n op xs c long = length-zip2 op xs (replicate n c) (long ∙ sym (length-replicate {A = ℕ} n c)) ∙ long

-- eight words
module _ (xs : List ℕ) (long : length xs ≡ 8) (fits : Each1 (Fits w64) xs) where
  small : Each1 (λ x. x < 2 ^ 64) xs
  small = below_from_Fits w64 xs fits

  abbrev number : ℕ
  number = number_l (2 ^ 64) xs

  same : number_l 256 (digits_l 256 64 number) ≡ number
  same = number_of_digits (2 ^ 8) base_8 64 number (let below = number-lt (2 ^ 64) 8 xs long small in omega (arith, below))

  pub quarter_at : (i : ℕ) → i < 32 → get_or (digits_l 65536 32 (number_l 256 (digits_l 256 64 (number_l (2 ^ 64) xs)))) i 0 ≡ get_or xs (i / 4) 0 / 2 ^ (16 * (i % 4)) % 2 ^ 16
  quarter_at i low =
      ap (λ x. get_or (digits_l 65536 32 x) i 0) same
      ∙ (ap (λ k. get_or (digits_l 65536 32 number) k 0) (let e : i ≡ 4 * (i / 4) + i % 4 = omega arith in e)
      ∙ (get_or_narrower (2 ^ 64) 4 65536 32 xs (i / 4) (i % 4) refl small (omega arith) (omega (arith, low))
      ∙ ap (λ x. get_or xs (i / 4) 0 / x % 65536) (power (i % 4) (omega arith))))
    where
      power : (r : ℕ) → r < 4 → 65536 ^ r ≡ 2 ^ (16 * r)
      power = below_more (λ r. 65536 ^ r ≡ 2 ^ (16 * r)) 3 (below_more (λ r. 65536 ^ r ≡ 2 ^ (16 * r)) 2 (below_more (λ r. 65536 ^ r ≡ 2 ^ (16 * r)) 1
          (below_more (λ r. 65536 ^ r ≡ 2 ^ (16 * r)) 0 (below_none (λ r. 65536 ^ r ≡ 2 ^ (16 * r))) refl) refl) refl) refl

  pub half_at : (i : ℕ) → i < 16 → get_or (digits_l (2 ^ 32) 16 (number_l 256 (digits_l 256 64 (number_l (2 ^ 64) xs)))) i 0 ≡ get_or xs (i / 2) 0 / 2 ^ (32 * (i % 2)) % 2 ^ 32
  half_at i low =
      ap (λ x. get_or (digits_l (2 ^ 32) 16 x) i 0) same
      ∙ (ap (λ k. get_or (digits_l (2 ^ 32) 16 number) k 0) (let e : i ≡ 2 * (i / 2) + i % 2 = omega arith in e)
      ∙ (get_or_narrower (2 ^ 64) 2 (2 ^ 32) 16 xs (i / 2) (i % 2) refl small (omega arith) (omega (arith, low))
      ∙ ap (λ x. get_or xs (i / 2) 0 / x % 2 ^ 32) (power (i % 2) (omega arith))))
    where
      power : (r : ℕ) → r < 2 → (2 ^ 32) ^ r ≡ 2 ^ (32 * r)
      power = below_more (λ r. (2 ^ 32) ^ r ≡ 2 ^ (32 * r)) 1 (below_more (λ r. (2 ^ 32) ^ r ≡ 2 ^ (32 * r)) 0 (below_none (λ r. (2 ^ 32) ^ r ≡ 2 ^ (32 * r))) refl) refl

-- the positions of a node, and the unused lanes
pub place_lanes_read : (node : NodeView) → IsLawfulNode node → (lanes : List ℕ) → length lanes ≡ 32 → ((i : ℕ) → i < 32 → get_or lanes i 0 ≡ position_at node.columns i) →
    lanes ≡ node.columns ++ replicate (32 - length node.columns) 65535
place_lanes_read node lawful lanes long each =
    let count : length (node.columns ++ replicate (32 - length node.columns) 65535) ≡ 32 =
    length-append node.columns _ ∙ omega (arith, length-replicate {A = ℕ} (32 - length node.columns) 65535, lawful.positions.few) in
    ext_get_or 65535 lanes (node.columns ++ replicate (32 - length node.columns) 65535) (long ∙ sym count)
    (λ i h. get_or_default lanes i 65535 0 h ∙ (each i (omega (arith, h, long)) ∙ sym (get_or-padded node.columns (32 - length node.columns) 65535 i)))

-- the rows of a node, and the unused lanes
pub row_lanes_read : (node : NodeView) → IsLawfulNode node → (lanes : List ℕ) → length lanes ≡ 32 → ((i : ℕ) → i < 32 → get_or lanes i 0 ≡ row_at node.rows i) → lanes ≡ with_unused node.rows
row_lanes_read node lawful lanes long each =
    ext_get_or 4294967295 lanes (with_unused node.rows) (long ∙ sym (length-with_unused node.rows (omega (arith, same_count node lawful, lawful.room))))
    (λ i h. get_or_default lanes i 4294967295 0 h ∙ (each i (omega (arith, h, long)) ∙ sym (get_or-padded node.rows (32 - length node.rows) 4294967295 i)))

-- sixteen lanes and sixteen unused ones
pub widened : (columns : List ℕ) → length columns ≤ 16 → with_free_to_16 columns ++ replicate 16 65535 ≡ columns ++ replicate (32 - length columns) 65535
widened columns few =
    let n : ℕ = 16 - length columns in
    let long : length (with_free_to_16 columns) ≡ 16 = length-append columns (replicate n 65535) ∙ omega (arith, length-replicate {A = ℕ} n 65535, few) in
    let left : length (with_free_to_16 columns ++ replicate 16 65535) ≡ 32 = length-append (with_free_to_16 columns) (replicate 16 65535) ∙ omega (arith, long, length-replicate {A = ℕ} 16 65535) in
    let right : length (columns ++ replicate (32 - length columns) 65535) ≡ 32 = length-append columns _ ∙ omega (arith, length-replicate {A = ℕ} (32 - length columns) 65535, few) in
    ext_get_or 65535 _ _ (left ∙ sym right)
    (λ i h. get_or-padded (with_free_to_16 columns) 16 65535 i ∙ (get_or-padded columns n 65535 i ∙ sym (get_or-padded columns (32 - length columns) 65535 i)))

-- the lanes of the low and of the high rows, one after the other
pub rows_joined : (low high : List ℕ) → length low ≡ 16 → length high ≡ 16 → (words : List ℕ) →
    ((i : ℕ) → i < 16 → get_or low i 0 ≡ get_or words (9 + i / 2) 0 / 2 ^ (32 * (i % 2)) % 2 ^ 32) →
    ((i : ℕ) → i < 16 → get_or high i 0 ≡ get_or words (17 + i / 2) 0 / 2 ^ (32 * (i % 2)) % 2 ^ 32) →
    (i : ℕ) → i < 32 → get_or (low ++ high) i 0 ≡ get_or words (9 + i / 2) 0 / 2 ^ (32 * (i % 2)) % 2 ^ 32
rows_joined low high low_long high_long words of_low of_high i inside = elim (cases_lt i 16) [
  | inl l ↦ get_or-append low high 0 i (omega (arith, l, low_long)) ∙ of_low i l
  | inr g ↦ get_or-append_right low high 16 i 0 low_long g ∙ (of_high (i - 16) (omega (arith, g, inside))
      ∙ ap₂ (λ j r. get_or words j 0 / 2 ^ (32 * r) % 2 ^ 32) (omega (arith, g)) (omega (arith, g)))
]

-- lanes with columns in front
pub column_lanes : (columns lanes : List ℕ) (count : ℕ) → IsColumns columns → count ≡ length columns → lanes ≡ columns ++ replicate (32 - length columns) 65535 → (take count lanes ≡ columns) × AreColumnLanes lanes count
column_lanes columns lanes count are counted same =
    let taken : take count lanes ≡ columns = rw (same, counted) (take_at columns _ (length columns) refl) in (
      taken,
      record {
        columns = subst IsColumns (sym taken) are;
        counted = ap length taken ∙ sym counted;
        unused = ap₂ (λ (cs : List ℕ) (n : ℕ). cs ++ replicate (32 - n) 65535) taken counted ∙ sym same;
      },
    )

-- ---- words as lanes of more bits
-- two numbers in a word
pub pair_at : (xs : List ℕ) → length xs ≡ 16 → Each1 (Fits w32) xs → (j : ℕ) → j < 8 →
    get_or (digits_l (2 ^ 64) 8 (number_l 256 (digits_l 256 64 (number_l (2 ^ 32) xs)))) j 0 ≡ row_word xs j
unfolding row_word
pair_at xs long fits j low =
    let small : Each1 (λ x. x < 2 ^ 32) xs = below_from_Fits w32 xs fits in
    let number : ℕ = number_l (2 ^ 32) xs in
    let at : (i : ℕ) → i < 2 → get_or (chunk (2 * j) 2 xs) i 0 ≡ row_at xs (2 * j + i) =
    λ i l. get_or-chunk (2 * j) 2 xs i 0 l ∙ sym (get_or_default xs (2 * j + i) 4294967295 0 (omega (arith, long, low, l))) in
    ap (λ x. get_or (digits_l (2 ^ 64) 8 x) j 0) (number_of_digits (2 ^ 8) base_8 64 number (let below = number-lt (2 ^ 32) 16 xs long small in omega (arith, below)))
    ∙ (get_or_wider (2 ^ 32) 2 (2 ^ 64) 8 xs j refl small low
    ∙ (number_of_two (2 ^ 32) (chunk (2 * j) 2 xs) (length-chunk (2 * j) 2 xs (omega (arith, long, low))) ∙ ap₂ (λ x y. x + 2 ^ 32 * y) (at 0 (omega arith) ∙ ap (row_at xs) (omega arith)) (at 1 (omega arith))))

-- ---- whether a number is among lanes
twice_zero : (m : ℕ) → eqb (0 + 2 * m) 0 ≡ eqb m 0
twice_zero m = go (eqb m 0) refl
  where
    go : (t : Bool) → eqb m 0 ≡ t → eqb (0 + 2 * m) 0 ≡ eqb m 0
    go true e = eq-eqb (0 + 2 * m) 0 (omega (arith, eqb-true _ _ e)) ∙ sym e
    go false e = ne_eqb (0 + 2 * m) 0 (λ same. eqb-false _ _ e (omega (arith, same))) ∙ sym e

pub some_told : (p : ℕ) (xs : List ℕ) → not (eqb (mask_l (map (λ x. eqb x p) xs)) 0) ≡ has xs p
some_told p [] = refl
some_told p (x ∷ xs) = elim (eqb x p) as (λ b. not (eqb (cond b 1 0 + 2 * mask_l (map (λ y. eqb y p) xs)) 0) ≡ (b || has xs p)) [
  | true ↦ ap not (ne_eqb (1 + 2 * mask_l (map (λ y. eqb y p) xs)) 0 (λ e. omega (arith, e)))
  | false ↦ ap not (twice_zero (mask_l (map (λ y. eqb y p) xs))) ∙ some_told p xs
]

-- what stands at the unused places is no position
pub has-unused : (p k : ℕ) (xs : List ℕ) → p < 65535 → has (xs ++ replicate k 65535) p ≡ has xs p
has-unused p zero [] low = refl
has-unused p (suc k) [] low = ap (λ b. b || has (replicate k 65535) p) (ne_eqb 65535 p (λ e. omega (arith, e, low))) ∙ has-unused p k [] low
has-unused p k (x ∷ xs) low = ap (λ b. eqb x p || b) (has-unused p k xs low)
