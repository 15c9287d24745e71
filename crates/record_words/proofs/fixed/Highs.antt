-- The highest bits of rows as lanes, and the words of them.
use Rattle.record_words.proofs.Common.{ℕ, zero, suc, ◌≡◌, ◌/◌, ◌^◌, ◌<◌, List, [], ◌∷◌, arith, get_or, length, lit<, map, replicate, sym, ap, ◌∙◌, w8, w16, w32, Fits, ext_get_or, get_or-map, get_or_default, length-map, get_or-map-range_with_len, length-map-range_with_len, map-map, zip2_splat}
use lib.Lanes.{Each1, digits_l, number_l, zip2}
use Rattle.record_words.specs.Kinds.{lane_words}
use Rattle.record_words.specs.Packed.{row_at, row_lanes}
use Rattle.record_words.proofs.near.Digits.{base_8, number-lt, number_of_digits}

abbrev pub down : ℕ → ℕ → ℕ
down x y = x / 2 ^ y

-- rows of 32 bits, shifted down
pub bytes_fit : (n : ℕ) (rows : List ℕ) → Each1 (Fits w32) rows → Each1 (Fits w8) (zip2 down rows (replicate n 24))
bytes_fit n [] h = tt
bytes_fit zero (x ∷ xs) h = tt
bytes_fit (suc n) (x ∷ xs) h = (record { fits = omega (arith, h.0.fits) }, bytes_fit n xs h.1)

pub halves_fit : (n : ℕ) (rows : List ℕ) → Each1 (Fits w32) rows → Each1 (Fits w16) (zip2 down rows (replicate n 16))
halves_fit n [] h = tt
halves_fit zero (x ∷ xs) h = tt
halves_fit (suc n) (x ∷ xs) h = (record { fits = omega (arith, h.0.fits) }, halves_fit n xs h.1)

-- they are the lanes of the rows
pub highs_are : (low : ℕ) (rows : List ℕ) → length rows ≡ 32 → map (λ a. a) (zip2 down rows (replicate 32 low)) ≡ row_lanes low rows
highs_are low rows long =
    ap (map (λ a. a)) (zip2_splat down rows 32 low long) ∙ (map-map (λ a. a) (λ x. x / 2 ^ low) rows
    ∙ ext_get_or 0 (map (λ x. x / 2 ^ low) rows) (row_lanes low rows) (length-map rows (λ x. x / 2 ^ low) ∙ (long ∙ sym (length-map-range_with_len (λ i. row_at rows i / 2 ^ low) 0 32)))
    (λ i h. let inside : i < length rows = omega (arith, h, length-map rows (λ x. x / 2 ^ low)) in
    get_or-map (λ x. x / 2 ^ low) rows i 0 0 inside
    ∙ (ap (λ r. r / 2 ^ low) (get_or_default rows i 0 4294967295 inside)
    ∙ sym (get_or-map-range_with_len (λ k. row_at rows k / 2 ^ low) 0 32 i i 0 (omega (arith, inside, long)) (omega arith)))))

-- the rows are small
pub rows_small : (rows : List ℕ) → Each1 (Fits w32) rows → (i : ℕ) → get_or rows i 0 < 2 ^ 32
rows_small [] fits i = lit< tt
rows_small (row ∷ rows) fits zero = fits.0.fits
rows_small (row ∷ rows) fits (suc i) = rows_small rows fits.1 i

-- halves go through their bytes
pub words_by_bytes : (lanes : List ℕ) → length lanes ≡ 32 → Each1 (λ x. x < 2 ^ 16) lanes → digits_l (2 ^ 64) 8 (number_l (2 ^ 8) (digits_l (2 ^ 8) 64 (number_l (2 ^ 16) lanes))) ≡ lane_words 16 8 lanes
unfolding lane_words
words_by_bytes lanes long small =
    let below = number-lt (2 ^ 16) 32 lanes long small in
    ap (digits_l (2 ^ 64) 8) (number_of_digits (2 ^ 8) base_8 64 (number_l (2 ^ 16) lanes) (omega (arith, below)))
