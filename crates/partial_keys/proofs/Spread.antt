-- What a new column and a new fork do to rows.
use Rattle.partial_keys.proofs.Common.{Bool, List, [], ap, arith, bit_or, drop, false, length, map, refl, suc, sym, take, true, zero, ℕ, ◌*◌, ◌++◌, ◌+◌, ◌-◌, ◌<◌, ◌^◌, ◌||◌, ◌∙◌, ◌∷◌, ◌≡◌, ◌≤◌, eq-eqb, ne_eqb, length-drop, length-map, length-take-le, map-append, mod_low, shr_high, map-map, code-lt, code-shifted, code, affected_fits, paths-grown, forked_paths, NoneHas, length-paths, has-here, has-with_position, has_after, map_same, affected_first, affected_count, grown, edited, Piece, size, paths, RisesFrom, has, Ascends, with_position}
use Rattle.partial_keys.proofs.Rows.{code-join, code-or}
use Rattle.partial_keys.specs.Rows.{row_of, rows_of}
use Rattle.partial_keys.specs.Spread.{spread_row, forked_rows}
use Rattle.node_tries.proofs.Edits.{edited-map}

pub spread_code : (xs ys : List Bool) → length xs + length ys ≤ 31 → code 32 (xs ++ false ∷ ys) ≡ spread_row (length xs) (code 32 (xs ++ ys))
spread_code xs ys l =
    let j : ℕ = length xs in let k : ℕ = 31 - j in
    let e : 32 - j ≡ suc k = omega arith in
    let high : ℕ = code j xs in
    let low : ℕ = code (suc k) ys in
    let fits : low < 2 ^ suc k = code-lt (suc k) ys in
    let half : code k ys * 2 ^ 1 ≡ low = code-shifted k 1 (suc k) ys (omega arith) (omega arith) in
    let whole : code 32 (xs ++ ys) ≡ high * 2 ^ suc k + low = code-join xs ys (omega arith) ∙ rw e refl in
    code-join xs (false ∷ ys) (omega arith)
    ∙ (rw (e, whole, shr_high high (suc k) low fits, mod_low high (suc k) low fits) (omega (arith, half)))

-- the column of a position, as a row
pub row_of-with_position : (cs : List ℕ) (p : ℕ) (path : List ℕ) → row_of cs (with_position p path) ≡ bit_or (row_of cs path) (row_of cs (p ∷ []))
row_of-with_position cs p path = ap (code 32) (map_same (has (with_position p path)) (λ c. has path c || has (p ∷ []) c) cs (has-with_position p path)) ∙ code-or 32 (has path) (has (p ∷ [])) cs

rows-forked : (cs : List ℕ) (p : ℕ) (bit : Bool) (zs : List (List ℕ)) → 0 < length zs → forked_rows (row_of cs (p ∷ [])) bit (map (row_of cs) zs) ≡ map (row_of cs) (forked_paths p bit zs)
rows-forked cs p bit [] l = absurd (omega arith)
rows-forked cs p true (z ∷ zs) l = rw (map-append (row_of cs) (z ∷ zs) (with_position p z ∷ []), row_of-with_position cs p z) refl
rows-forked cs p false (z ∷ zs) l = rw (map-map (row_of cs) (with_position p) zs, map-map (λ row. bit_or row (row_of cs (p ∷ []))) (row_of cs) zs, row_of-with_position cs p z, maps zs) refl
  where
    maps : (ys : List (List ℕ)) → map (λ path. bit_or (row_of cs path) (row_of cs (p ∷ []))) ys ≡ map (λ path. row_of cs (with_position p path)) ys
    maps [] = refl
    maps (y ∷ ys) = rw (row_of-with_position cs p y, maps ys)

-- THE ROWS OF THE NEW FORK, where the position is a column
pub rows-grown : {A : Type 0} (cs : List ℕ) (p : ℕ) (bit : Bool) (x : A) (P : Piece A) (low i : ℕ) → RisesFrom low P →
    rows_of cs (grown p bit x i P) ≡ edited (affected_first p i P) (affected_count p i P) (forked_rows (row_of cs (p ∷ [])) bit) (rows_of cs P)
rows-grown cs p bit x P low i r =
    let f : ℕ = affected_first p i P in let n : ℕ = affected_count p i P in
    let h : (f + n ≤ size P) × (0 < n) = affected_fits p P i in
    let long : 0 < length (take n (drop f (paths P))) = rw (length-take-le n (drop f (paths P)) (rw (length-drop f (paths P), length-paths P) (omega (arith, h.0)))) h.1 in
    ap (map (row_of cs)) (paths-grown p bit x P low i r)
    ∙ sym (edited-map (row_of cs) f n (forked_rows (row_of cs (p ∷ [])) bit) (forked_paths p bit) (paths P) (rows-forked cs p bit (take n (drop f (paths P))) long))

-- A NEW COLUMN, that no path has
pub row_of-new_column : (xs ys : List ℕ) (p : ℕ) (path : List ℕ) → length xs + length ys ≤ 30 → has path p ≡ false → row_of (xs ++ p ∷ ys) path ≡ spread_row (length xs) (row_of (xs ++ ys) path)
row_of-new_column xs ys p path few off =
    let g : ℕ → Bool = has path in
    ap (code 32) (map-append g xs (p ∷ ys) ∙ ap (λ b. map g xs ++ (b ∷ map g ys)) off)
    ∙ spread_code (map g xs) (map g ys) (rw (length-map xs g, length-map ys g) (omega arith))
    ∙ (rw (length-map xs g, map-append g xs ys) refl)

pub rows-new_column : (xs ys : List ℕ) (p : ℕ) (zs : List (List ℕ)) → length xs + length ys ≤ 30 → NoneHas p zs → map (row_of (xs ++ p ∷ ys)) zs ≡ map (spread_row (length xs)) (map (row_of (xs ++ ys)) zs)
rows-new_column xs ys p [] few off = refl
rows-new_column xs ys p (z ∷ zs) few off = rw (row_of-new_column xs ys p z few off.0, rows-new_column xs ys p zs few off.1) refl

-- ---- the row of one position
-- no column from p + 1 on is p
falses_after : (w p low : ℕ) (ys : List ℕ) → p < low → Ascends low ys → code w (map (has (p ∷ [])) ys) ≡ 0
falses_after w p low [] l a = refl
falses_after zero p low (y ∷ ys) l a = refl
falses_after (suc w) p low (y ∷ ys) l a = let k : low < y + 1 = a.0 in rw (ne_eqb p y (omega arith), falses_after w p (y + 1) ys (omega arith) a.1) refl

-- the column of a position is one bit
pub column_bit : (w p low : ℕ) (xs ys : List ℕ) → length xs < w → Ascends low (xs ++ p ∷ ys) → code w (map (has (p ∷ [])) (xs ++ p ∷ ys)) ≡ 2 ^ (w - 1 - length xs)
column_bit zero p low xs ys l a = absurd (omega arith)
column_bit (suc w) p low [] ys l a =
    let e : suc w - 1 - 0 ≡ w = omega arith in
    rw (eq-eqb p p refl, falses_after w p (p + 1) ys (omega arith) a.1, e) (omega arith)
column_bit (suc w) p low (x ∷ xs) ys l a =
    let after : x + 1 ≤ p = has_after (x + 1) p (xs ++ p ∷ ys) a.1 (has-here xs ys p) in
    let e : suc w - 1 - suc (length xs) ≡ w - 1 - length xs = omega arith in
    rw (ne_eqb p x (omega arith), column_bit w p (x + 1) xs ys (omega arith) a.1, e) (omega arith)
