-- Rows without a column.
use Rattle.compound_node.proofs.Common.{◌≡◌, ℕ, ◌-◌, ◌*◌, ◌/◌, ◌%◌, ◌^◌, ◌<◌, ◌≤◌, ◌∙◌, Fits, List, ap, arith, get_or, length, map, replicate, suc, sym, w32, bit_and, pow-suc, pow_mono, ext_get_or, get_or-map, length-map, and_mask, or_shifted, pow_pos, mod_below, ones_shr, and_high_mask, Each1-get_or, map-map, zip2_of_maps, zip2_splat, closed_row}
use Rattle.std.specs.Prelude.{bit_or}
use lib.Lanes.{Each1, zip2}

-- two masks part the row round the column
pub close_is : (row j : ℕ) → row < 2 ^ 32 → j ≤ 31 →
    bit_or (bit_and row ((2 ^ 32 - 1) - (2 ^ 32 - 1) / 2 ^ j)) (bit_and row ((2 ^ 32 - 1) / 2 ^ j / 2) * 2 % 2 ^ 32) ≡ closed_row j row
close_is row j fits l =
    let m : ℕ = 31 - j in
    let k : ℕ = 32 - j in
    let e : k ≡ suc m = omega arith in
    let two : 2 ^ suc m ≡ 2 ^ m * 2 = pow-suc 2 m in
    let whole : 2 ^ k ≡ 2 ^ m * 2 = (rw e two) in
    let low : (2 ^ 32 - 1) / 2 ^ j ≡ 2 ^ k - 1 = ones_shr 32 j (omega arith) in
    let high : (2 ^ 32 - 1) - (2 ^ k - 1) ≡ 2 ^ 32 - 2 ^ k = omega (arith, pow_pos k) in
    let half : (2 ^ k - 1) / 2 ≡ 2 ^ m - 1 = omega (arith, pow_pos m) in
    let below : row % 2 ^ m < 2 ^ m = mod_below row (2 ^ m) (pow_pos m) in
    let top : 2 ^ k ≤ 2 ^ 32 = pow_mono {i = k} {j = 32} (omega arith) in
    let shl : row % 2 ^ m * 2 % 2 ^ 32 ≡ row % 2 ^ m * 2 = omega arith in
    rw (low, high, half, and_high_mask 32 k (omega arith) row fits, and_mask row m, shl) (or_shifted (row / 2 ^ k) k (row % 2 ^ m * 2) (omega arith))

-- and so the lanes of a vector
module _ (rows : List ℕ) (j : ℕ) (long : length rows ≡ 32) (fit : Each1 (Fits w32) rows) (l : j ≤ 31) where
  abbrev low : ℕ
  low = (2 ^ 32 - 1) / 2 ^ j

  abbrev high : ℕ
  high = (2 ^ 32 - 1) - (2 ^ 32 - 1) / 2 ^ j

  abbrev parted : ℕ → ℕ
  parted row = bit_or (bit_and row high) (bit_and row (low / 2) * 2 % 2 ^ 32)

  each_parted : map parted rows ≡ map (closed_row j) rows
  each_parted = ext_get_or 0 (map parted rows) (map (closed_row j) rows) (length-map rows parted ∙ sym (length-map rows (closed_row j)))
      (λ i h.
      let inside : i < length rows = omega (arith, h, length-map rows parted) in
      get_or-map parted rows i 0 0 inside
      ∙ (close_is (get_or rows i 0) j (Each1-get_or (Fits w32) rows i 0 inside fit).fits l ∙ sym (get_or-map (closed_row j) rows i 0 0 inside)))

  pub lanes_closed : zip2 (λ a b. bit_or a b) (zip2 (λ a b. bit_and a b) rows (replicate 32 high)) (zip2 (λ a b. a * 2 ^ b % 2 ^ 32) (zip2 (λ a b. bit_and a b) rows (replicate 32 (low / 2))) (replicate 32 1)) ≡ map (closed_row j) rows
  lanes_closed =
      zip2_of_maps (λ a b. bit_or a b) (λ row. bit_and row high) (λ row. bit_and row (low / 2) * 2 % 2 ^ 32) rows (zip2_splat (λ a b. bit_and a b) rows 32 high long)
      (ap (λ xs. zip2 (λ a b. a * 2 ^ b % 2 ^ 32) xs (replicate 32 1)) (zip2_splat (λ a b. bit_and a b) rows 32 (low / 2) long)
      ∙ (zip2_splat (λ a b. a * 2 ^ b % 2 ^ 32) (map (λ row. bit_and row (low / 2)) rows) 32 1 (length-map rows (λ row. bit_and row (low / 2)) ∙ long) ∙ map-map (λ a. a * 2 % 2 ^ 32) (λ row. bit_and row (low / 2)) rows))
      ∙ each_parted
