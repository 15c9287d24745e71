-- Columns taken out of rows one by one.
use Rattle.partial_keys.proofs.Common.{Bool, List, [], ap, arith, bit_and, drop, false, get_or, length, map, refl, replicate, suc, sym, take, true, ℕ, ◌%◌, ◌*◌, ◌++◌, ◌+◌, ◌-◌, ◌/◌, ◌<◌, ◌^◌, ◌∙◌, ◌∷◌, ◌≡◌, ◌≢◌, ◌≤◌, pow-suc, append-nil, append_assoc, drop_at, drop_more, get_or-map, length-drop, length-map, length-take-le, take_at, take_more, mod_low, shr_high, map-map, All, code-lt, code-shifted, code, kept-pad, length-kept, map_same, kept, Piece, paths, uses, has}
use Rattle.partial_keys.proofs.Rows.{bits_of-code, code-join, digit, digit_place, get_or-bits_of, length-bits_of}
use Rattle.partial_keys.proofs.Shown.Cutting.{or_all-piece}
use Rattle.partial_keys.proofs.Squeezed.{is_one, is_zero}
use Rattle.partial_keys.specs.Rows.{row_of}
use Rattle.partial_keys.specs.Shows.{Covers}
use Rattle.partial_keys.specs.Squeezed.{IsRowOver, bits_of, closed_row, or_all, squeezed}

regroup : (h d p r : ℕ) → h * (p * 2) + (d * p + r) ≡ (h * 2 + d) * p + r
regroup h d p r = omega arith

-- one column taken out
closed_code : (xs ys : List Bool) (b : Bool) → length xs + length ys ≤ 31 → closed_row (length xs) (code 32 (xs ++ b ∷ ys)) ≡ code 32 (xs ++ ys)
closed_code xs ys b l =
    let j : ℕ = length xs in let k : ℕ = 31 - j in
    let e : 32 - j ≡ suc k = omega arith in
    let high : ℕ = code j xs in
    let rest : ℕ = code k ys in
    let low : ℕ = code (suc k) (b ∷ ys) in
    let two : 2 ^ suc k ≡ 2 ^ k * 2 = pow-suc 2 k in
    let fits : low < 2 ^ suc k = code-lt (suc k) (b ∷ ys) in
    let small : rest < 2 ^ k = code-lt k ys in
    let whole : code 32 (xs ++ b ∷ ys) ≡ high * 2 ^ suc k + low = code-join xs (b ∷ ys) (omega arith) ∙ rw e refl in
    let split : high * 2 ^ suc k + low ≡ (high * 2 + digit b) * 2 ^ k + rest = (rw (digit_place b (2 ^ k), two) (regroup high (digit b) (2 ^ k) rest)) in
    let front : code 32 (xs ++ b ∷ ys) / 2 ^ suc k ≡ high = ap (λ n. n / 2 ^ suc k) whole ∙ shr_high high (suc k) low fits in
    let back : code 32 (xs ++ b ∷ ys) % 2 ^ k ≡ rest = ap (λ n. n % 2 ^ k) (whole ∙ split) ∙ mod_low (high * 2 + digit b) k rest small in
    let twice : rest * 2 ^ 1 ≡ code (suc k) ys = code-shifted k 1 (suc k) ys (omega arith) (omega arith) in
    let joined : code 32 (xs ++ ys) ≡ high * 2 ^ suc k + code (suc k) ys = code-join xs ys (omega arith) ∙ rw e refl in
    rw (e, front, back) (omega (arith, twice, joined))

-- the row after those columns from j on went that `used` has not got
abbrev pub squeezed_from : ℕ → ℕ → ℕ → ℕ
squeezed_from used j row = code 32 (take j (bits_of 32 row) ++ kept (drop j (bits_of 32 used)) (drop j (bits_of 32 row)))

-- before the first column goes
squeezed_from-start : (used n row : ℕ) → n ≤ 32 → IsRowOver n used → IsRowOver n row → squeezed_from used n row ≡ row
squeezed_from-start used n row l u r =
    let us : List Bool = u.0 in let bs : List Bool = r.0 in
    let m : length us ≡ n = u.1 in let k : length bs ≡ n = r.1 in
    let at_used : bits_of 32 used ≡ us ++ replicate (32 - n) false = ap (bits_of 32) u.2 ∙ bits_of-code 32 us (omega arith) ∙ rw m refl in
    let at_row : bits_of 32 row ≡ bs ++ replicate (32 - n) false = ap (bits_of 32) r.2 ∙ bits_of-code 32 bs (omega arith) ∙ rw k refl in
    rw (at_used, at_row, take_at bs (replicate (32 - n) false) n k, drop_at us (replicate (32 - n) false) n m, drop_at bs (replicate (32 - n) false) n k, kept-pad [] [] (32 - n) refl, append-nil bs)
    (sym r.2)

module _ (used row j : ℕ) (l : j < 32) where
  -- the row with column j
  squeezed_from-more : squeezed_from used (j + 1) row ≡ code 32 (take j (bits_of 32 row) ++ get_or (bits_of 32 row) j false ∷ kept (drop (j + 1) (bits_of 32 used)) (drop (j + 1) (bits_of 32 row)))
  squeezed_from-more =
      let here : j < length (bits_of 32 row) = rw (length-bits_of 32 row) l in
      rw (take_more (bits_of 32 row) j false here)
      (ap (code 32) (append_assoc (take j (bits_of 32 row)) (get_or (bits_of 32 row) j false ∷ []) (kept (drop (j + 1) (bits_of 32 used)) (drop (j + 1) (bits_of 32 row)))))

  squeezed_from-at : squeezed_from used j row ≡
      code 32 (take j (bits_of 32 row) ++ kept (get_or (bits_of 32 used) j false ∷ drop (j + 1) (bits_of 32 used)) (get_or (bits_of 32 row) j false ∷ drop (j + 1) (bits_of 32 row)))
  squeezed_from-at =
      let here : j < length (bits_of 32 row) = rw (length-bits_of 32 row) l in
      let there : j < length (bits_of 32 used) = rw (length-bits_of 32 used) l in
      rw (drop_more (bits_of 32 row) j false here, drop_more (bits_of 32 used) j false there) refl

  -- the column stays
  kept_column : bit_and (used / 2 ^ (31 - j)) 1 ≢ 0 → squeezed_from used (j + 1) row ≡ squeezed_from used j row
  kept_column h =
      let b : get_or (bits_of 32 used) j false ≡ true = get_or-bits_of 32 used j l ∙ is_one used (31 - j) h in
      squeezed_from-more ∙ sym (squeezed_from-at ∙ (rw b refl))

  -- the column goes
  closed_column : bit_and (used / 2 ^ (31 - j)) 1 ≡ 0 → closed_row j (squeezed_from used (j + 1) row) ≡ squeezed_from used j row
  closed_column h =
      let b : get_or (bits_of 32 used) j false ≡ false = get_or-bits_of 32 used j l ∙ is_zero used (31 - j) h in
      let front : List Bool = take j (bits_of 32 row) in
      let rest : List Bool = kept (drop (j + 1) (bits_of 32 used)) (drop (j + 1) (bits_of 32 row)) in
      let m : length front ≡ j = length-take-le j (bits_of 32 row) (rw (length-bits_of 32 row) (omega arith)) in
      let n : length rest ≤ 32 - (j + 1) =
      omega (arith, length-kept (drop (j + 1) (bits_of 32 used)) (drop (j + 1) (bits_of 32 row)), length-drop (j + 1) (bits_of 32 row), length-bits_of 32 row) in
      ap (closed_row j) squeezed_from-more
      ∙ ap (λ i. closed_row i (code 32 (front ++ get_or (bits_of 32 row) j false ∷ rest))) (sym m)
      ∙ closed_code front rest (get_or (bits_of 32 row) j false) (omega arith)
      ∙ sym (squeezed_from-at ∙ (rw b refl))

-- ---- all rows
pub all-start : (used n : ℕ) (rows : List ℕ) → n ≤ 32 → IsRowOver n used → All (IsRowOver n) rows → map (squeezed_from used n) rows ≡ rows
all-start used n [] l u r = refl
all-start used n (row ∷ rows) l u r =
    let one : squeezed_from used n row ≡ row = squeezed_from-start used n row l u (r 0 0 (omega arith)) in
    let others : map (squeezed_from used n) rows ≡ rows = all-start used n rows l u (λ k d m. r (suc k) d (omega arith)) in
    ap (λ x. x ∷ map (squeezed_from used n) rows) one ∙ ap (λ xs. row ∷ xs) others

pub all-kept : (used j : ℕ) (rows : List ℕ) → j < 32 → bit_and (used / 2 ^ (31 - j)) 1 ≢ 0 → map (squeezed_from used (j + 1)) rows ≡ map (squeezed_from used j) rows
all-kept used j rows l h = map_same (squeezed_from used (j + 1)) (squeezed_from used j) rows (λ row. kept_column used row j l h)

pub all-closed : (used j : ℕ) (rows : List ℕ) → j < 32 → bit_and (used / 2 ^ (31 - j)) 1 ≡ 0 →
    map (closed_row j) (map (squeezed_from used (j + 1)) rows) ≡ map (squeezed_from used j) rows
all-closed used j rows l h = map-map (closed_row j) (squeezed_from used (j + 1)) rows
    ∙ map_same (λ row. closed_row j (squeezed_from used (j + 1) row)) (squeezed_from used j) rows (λ row. closed_column used row j l h)

pub all-end : (used : ℕ) (rows : List ℕ) → map (squeezed_from used 0) rows ≡ map (squeezed used) rows
all-end used rows = refl

-- ---- the rows of a piece
module _ {A : Type 0} (cs rows : List ℕ) (es : List A) (P : Piece A) (cov : Covers cs rows es P) where
  pub rows_over : All (IsRowOver (length cs)) rows
  rows_over k d l = over rows (paths P) cov.rows_are k d l
    where
      over : (rs : List ℕ) (zs : List (List ℕ)) → rs ≡ map (row_of cs) zs → (k d : ℕ) → k < length rs → IsRowOver (length cs) (get_or rs k d)
      over rs zs e k d l =
          let n : length rs ≡ length zs = ap length e ∙ length-map zs (row_of cs) in
          let z : List ℕ = get_or zs k [] in
          (map (has z) cs, length-map cs (has z), ap (λ xs. get_or xs k d) e ∙ get_or-map (row_of cs) zs k [] d (omega arith))

  pub used_over : IsRowOver (length cs) (or_all rows)
  used_over = (map (uses P) cs, length-map cs (uses P), ap or_all cov.rows_are ∙ or_all-piece cs P)
