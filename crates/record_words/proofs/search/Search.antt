-- The highest of the first lanes that passes a test, where the test tells of each lane whether the row at its place complies.
use Rattle.record_words.proofs.Common.{Bool, true, false, map, ℕ, suc, ◌≡◌, ⊎_elim, ◌+◌, ◌-◌, ◌*◌, ◌/◌, ◌%◌, ◌^◌, ◌<◌, ◌≤◌, List, [], arith, bit_and, get_or, length, replicate, refl, sym, ap, subst, ◌∙◌, cases_lt, eqb-true, ne_eqb, get_or-append_right, get_or-replicate, get_or_append_left, get_or-map, length-map, and_mask, shl-shr, head_leads, same_count, NodeView, IsLawfulNode, head_of, piece, code-lt, code-shifted, code, code-even, first_is_zero, IsHighest, complies, dense_of, row_of, with_unused, leads_to, paths, has, top_of_used}
use Rattle.record_words.proofs.Lawful.{length-with_unused}
use lib.Count.{count_leading_zeros}
use lib.Lanes.{mask_l}

module _ (node : NodeView) (lawful : IsLawfulNode node) where
  -- a dense key has 32 bits
  pub dense-lt : (dense : ℕ) (bit : ℕ → Bool) → dense ≡ dense_of node.columns bit → dense < 2 ^ 32
  dense-lt dense bit gathered = rw gathered (code-lt 32 (map bit node.columns))

  -- the first row has no bit
  pub first_row : get_or (with_unused node.rows) 0 0 ≡ 0
  first_row = first_is_zero node.columns node.rows node.entries (piece node) lawful.shows

  -- a row in front of the unused places
  pub row_at_place : (k : ℕ) → k < length node.rows → get_or (with_unused node.rows) k 0 ≡ get_or node.rows k 0
  row_at_place k used = get_or_append_left node.rows (replicate (32 - length node.rows) 4294967295) 0 k used

  module _ (lanes : List ℕ) (count : ℕ) (counted : count ≡ length node.rows) (enough : count ≤ length lanes) (t : ℕ → Bool) (first : t (get_or lanes 0 0) ≡ true) where
    some : 0 < count
    some = omega (arith, counted, same_count node lawful, lawful.several)

    pub few : count ≤ 32
    few = omega (arith, counted, same_count node lawful, lawful.room)

    abbrev pub mask : ℕ
    mask = mask_l (map t lanes) % 2 ^ count

    top_is : (j : ℕ) × (count_leading_zeros 64 mask + suc j ≡ 64) × (j < count) × (t (get_or lanes j 0) ≡ true) × ((k : ℕ) → j < k → k < count → t (get_or lanes k 0) ≡ false)
    top_is = top_of_used t lanes count some enough (omega (arith, few)) first

    module _ (dense : ℕ) (bit : ℕ → Bool) (gathered : dense ≡ dense_of node.columns bit)
        (tells : (k : ℕ) → k < count → t (get_or lanes k 0) ≡ complies dense (get_or (with_unused node.rows) k 0)) where
      even : dense % 2 ≡ 0
      even = ap (λ d. d % 2) gathered ∙ code-even 31 (map bit node.columns) (rw length-map lawful.positions.few)

      unused_fails : (k : ℕ) → count ≤ k → k < 32 → complies dense (get_or (with_unused node.rows) k 0) ≡ false
      unused_fails k past inside =
          ap (complies dense) (get_or-append_right node.rows (replicate (32 - length node.rows) 4294967295) (length node.rows) k 0 refl (omega (arith, past, counted))
          ∙ get_or-replicate (32 - length node.rows) (k - length node.rows) 4294967295 0 (omega (arith, past, inside, counted)))
          ∙ ne_eqb (bit_and dense 4294967295) 4294967295
          (λ q. let m : bit_and dense (2 ^ 32 - 1) ≡ dense % 2 ^ 32 = and_mask dense 32 in absurd (omega (arith, m, q, dense-lt dense bit gathered, even)))

      highest : IsHighest (with_unused node.rows) dense (63 - count_leading_zeros 64 mask)
      highest =
          let h = top_is in
          let j : ℕ = h.0 in
          let place : count_leading_zeros 64 mask + suc j ≡ 64 = h.1 in
          let within : j < count = h.2 in
          let at : j ≡ 63 - count_leading_zeros 64 mask = omega (arith, place) in
          let found : IsHighest (with_unused node.rows) dense j = record {
            in_range = omega (arith, within, few, length-with_unused node.rows (omega (arith, few, counted)));
            complying = eqb-true _ _ (sym (tells j within) ∙ h.3);
            none_above = λ k above inside. ⊎_elim
                (λ (used : k < count). sym (tells k used) ∙ h.4 k above used)
                (λ (past : count ≤ k). unused_fails k past (omega (arith, inside, length-with_unused node.rows (omega (arith, few, counted)))))
                (cases_lt k count);
          } in
          subst (λ n. IsHighest (with_unused node.rows) dense n) at found

      pub leads : 63 - count_leading_zeros 64 mask ≡ leads_to bit (piece node)
      leads = head_leads (head_of node) (with_unused node.rows) bit dense (63 - count_leading_zeros 64 mask) refl gathered highest node lawful refl

-- ---- rows of near columns
-- so a row over at most n columns is given by its highest n bits
module _ (node : NodeView) (lawful : IsLawfulNode node) (n : ℕ) (few : length node.columns ≤ n) (room : n ≤ 32) where
  pub row_by_high : (i : ℕ) → i < length node.rows → get_or node.rows i 0 / 2 ^ (32 - n) * 2 ^ (32 - n) ≡ get_or node.rows i 0
  row_by_high i inside =
      let size : length (paths (piece node)) ≡ length node.rows = sym (ap length lawful.shows.rows_are ∙ length-map (paths (piece node)) (row_of node.columns)) in
      let path : List ℕ = get_or (paths (piece node)) i [] in
      let is : get_or node.rows i 0 ≡ row_of node.columns path = ap (λ rs. get_or rs i 0) lawful.shows.rows_are ∙ get_or-map (row_of node.columns) (paths (piece node)) i [] 0 (omega (arith, inside, size)) in
      let high : get_or node.rows i 0 ≡ code n (map (has path) node.columns) * 2 ^ (32 - n) = is ∙ sym (code-shifted n (32 - n) 32 (map (has path) node.columns) (omega (arith, room)) (rw length-map few)) in
      ap (λ m. m / 2 ^ (32 - n) * 2 ^ (32 - n)) high ∙ (ap (λ m. m * 2 ^ (32 - n)) (shl-shr (code n (map (has path) node.columns)) (32 - n)) ∙ sym high)
