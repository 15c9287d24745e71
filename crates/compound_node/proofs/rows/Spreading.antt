-- A new column in a row.
use Rattle.compound_node.proofs.Common.{◌≡◌, ℕ, ◌-◌, ◌/◌, ◌%◌, ◌^◌, ◌<◌, ◌≤◌, ◌∙◌, Fits, List, ap, arith, bit_or, get_or, length, map, replicate, sym, w32, ext_get_or, get_or-map, length-map, and_mask, or_shifted, pow_pos, mod_below, ones_shr, and_high_mask, Each1-get_or, map-map, zip2_of_maps, zip2_splat, spread_row}
use Rattle.std.proofs.Common.{bit_and}
use lib.Lanes.{Each1, zip2}

-- the two masks part the row at the column
pub spread_is : (row j : ℕ) → row < 2 ^ 32 → j ≤ 31 → bit_or (bit_and row ((2 ^ 32 - 1) - (2 ^ 32 - 1) / 2 ^ j)) (bit_and row ((2 ^ 32 - 1) / 2 ^ j) / 2) ≡ spread_row j row
spread_is row j fits l =
    let k : ℕ = 32 - j in
    let low : (2 ^ 32 - 1) / 2 ^ j ≡ 2 ^ k - 1 = ones_shr 32 j (omega arith) in
    let high : (2 ^ 32 - 1) - (2 ^ k - 1) ≡ 2 ^ 32 - 2 ^ k = omega (arith, pow_pos k) in
    let below : row % 2 ^ k < 2 ^ k = mod_below row (2 ^ k) (pow_pos k) in
    rw (low, high, and_high_mask 32 k (omega arith) row fits, and_mask row k) (or_shifted (row / 2 ^ k) k (row % 2 ^ k / 2) (omega arith))

-- and so the lanes of a vector
module _ (rows : List ℕ) (j : ℕ) (long : length rows ≡ 32) (fit : Each1 (Fits w32) rows) (l : j ≤ 31) where
  abbrev low : ℕ
  low = (2 ^ 32 - 1) / 2 ^ j

  abbrev high : ℕ
  high = (2 ^ 32 - 1) - (2 ^ 32 - 1) / 2 ^ j

  abbrev parted : ℕ → ℕ
  parted row = bit_or (bit_and row high) (bit_and row low / 2)

  each_parted : map parted rows ≡ map (spread_row j) rows
  each_parted = ext_get_or 0 (map parted rows) (map (spread_row j) rows) (length-map rows parted ∙ sym (length-map rows (spread_row j)))
      (λ i h.
      let inside : i < length rows = omega (arith, h, length-map rows parted) in
      get_or-map parted rows i 0 0 inside
      ∙ (spread_is (get_or rows i 0) j (Each1-get_or (Fits w32) rows i 0 inside fit).fits l ∙ sym (get_or-map (spread_row j) rows i 0 0 inside)))

  pub lanes_spread : zip2 (λ a b. bit_or a b) (zip2 (λ a b. bit_and a b) rows (replicate 32 high)) (zip2 (λ a b. a / 2 ^ b) (zip2 (λ a b. bit_and a b) rows (replicate 32 low)) (replicate 32 1)) ≡ map (spread_row j) rows
  lanes_spread =
      zip2_of_maps (λ a b. bit_or a b) (λ row. bit_and row high) (λ row. bit_and row low / 2) rows (zip2_splat (λ a b. bit_and a b) rows 32 high long)
      (ap (λ xs. zip2 (λ a b. a / 2 ^ b) xs (replicate 32 1)) (zip2_splat (λ a b. bit_and a b) rows 32 low long)
      ∙ (zip2_splat (λ a b. a / 2 ^ b) (map (λ row. bit_and row low) rows) 32 1 (length-map rows (λ row. bit_and row low) ∙ long) ∙ map-map (λ a. a / 2) (λ row. bit_and row low) rows))
      ∙ each_parted
