-- Rows that use each column: none of them goes.
use Rattle.compound_node.proofs.Common.{Bool, List, [], ap, arith, length, map, refl, suc, sym, true, ℕ, ◌-◌, ◌/◌, ◌^◌, ◌∙◌, ◌∷◌, ◌≡◌, ◌≤◌, and_parts, map-id, ones_shr, pow_mono, pow_pos, All, code, squeezed-code, kept_coded, IsRowOver, squeezed, used_bits, kept, all}
use Rattle.compound_node.proofs.Ladders.{full-code}

-- the mask of the first columns
pub high_ones : (n : ℕ) → n ≤ 31 → 4294967295 - 4294967295 / 2 ^ n ≡ 2 ^ 32 - 2 ^ (32 - n)
high_ones n l =
    let low : 4294967295 / 2 ^ n ≡ 2 ^ (32 - n) - 1 = ones_shr 32 n (omega arith) in
    omega (arith, low, pow_pos (32 - n))

-- flags that are all set keep all
kept_all : {X : Type 0} (us : List Bool) (xs : List X) → all (λ u. u) us ≡ true → length us ≡ length xs → kept us xs ≡ xs
kept_all [] [] set same = refl
kept_all [] (x ∷ xs) set same = absurd (omega (arith, same))
kept_all (u ∷ us) [] set same = absurd (omega (arith, same))
kept_all (u ∷ us) (x ∷ xs) set same =
    let both : (u ≡ true) × (all (λ v. v) us ≡ true) = and_parts u (all (λ v. v) us) set in
    rw (both.0) (ap (λ ys. x ∷ ys) (kept_all us xs both.1 (omega (arith, same))))

module _ (used n : ℕ) (few : n ≤ 31) (is : IsRowOver n used) (full : used ≡ 4294967295 - 4294967295 / 2 ^ n) where
  flags_set : all (λ u. u) is.0 ≡ true
  flags_set =
      let coded : code 32 (map (λ u. u) is.0) ≡ used = ap (code 32) (map-id is.0) ∙ sym is.2 in
      full-code 32 (λ u. u) is.0 (omega (arith, is.1, few)) (rw (coded, full, high_ones n few, is.1) (omega (arith, pow_mono {i = 32 - n} {j = 32} (omega arith))))

  pub columns_stay : (cs : List ℕ) → length cs ≡ n → kept (used_bits used) cs ≡ cs
  columns_stay cs counted =
      let same : length is.0 ≡ length cs = is.1 ∙ sym counted in
      ap (λ u. kept (used_bits u) cs) is.2 ∙ (kept_coded is.0 cs same (omega (arith, is.1, few)) ∙ kept_all is.0 cs flags_set same)

  row_stays : (row : ℕ) → IsRowOver n row → squeezed used row ≡ row
  row_stays row over =
      let same : length is.0 ≡ length over.0 = is.1 ∙ sym over.1 in
      ap (λ u. squeezed u row) is.2 ∙ (ap (squeezed (code 32 is.0)) over.2 ∙ (squeezed-code is.0 over.0 same (omega (arith, over.1, few))
      ∙ (ap (code 32) (kept_all is.0 over.0 flags_set same) ∙ sym over.2)))

  pub rows_stay : (rows : List ℕ) → All (IsRowOver n) rows → map (squeezed used) rows ≡ rows
  rows_stay [] over = refl
  rows_stay (row ∷ rows) over =
      ap (λ x. x ∷ map (squeezed used) rows) (row_stays row (over 0 0 (omega arith)))
      ∙ ap (λ xs. row ∷ xs) (rows_stay rows (λ k d m. over (suc k) d (omega arith)))
