-- A head without a row, whose columns all have a fork still.
use Rattle.record_words.proofs.Common.{get_or, get_or-take, length-append, ⊎_elim, ℕ, ◌≡◌, ◌+◌, ◌-◌, ◌/◌, ◌^◌, ◌<◌, ◌≤◌, ◌++◌, ◌∷◌, ◌∙◌, List, ap, arith, drop, length, map, refl, replicate, subst, sym, take, cases_lt, ext_get_or, get_or-append_right, get_or-replicate, get_or_append_left, length-map, length-replicate, length-take-le, take-append-drop, take_at, All, remove, shown-sparse_keys, same_count, with_leaves, fits_after, head_without, is_after, left_in, words_over, words_used, FitsHead, HeadView, IsBuiltFrom, NodeView, greatest_height, head_of, node_of, piece, removed_row, with_unused, IsRowOver, or_all, squeezed, used_bits, without, kept}
use Rattle.compound_node.proofs.Removal.Full.{columns_stay, rows_stay}
use Rattle.compound_node.specs.Ladders.{IsLadder}
use Rattle.record_words.specs.Dropping.{CanDropAt}

module _ {words : List ℕ} {node : NodeView} {at : ℕ} (can : CanDropAt words node at) (count : ℕ) (counted : count ≡ length node.entries) (old : List ℕ) (old_are : old ≡ with_unused node.rows) where
  pub rows_counted : length node.rows ≡ count
  rows_counted = same_count node can.lawful ∙ sym counted

  front_is : node.rows ≡ take count old
  front_is = sym (ap (take count) old_are ∙ take_at node.rows (replicate (32 - length node.rows) 4294967295) count rows_counted)

  pub old_unused : old ≡ with_unused (take count old)
  old_unused = old_are ∙ ap with_unused front_is

  pub old_ladder : IsLadder (take count old)
  old_ladder = subst IsLadder front_is (shown-sparse_keys _ _ _ _ can.lawful.shows).ladder

  fits : FitsHead count old (head_of node)
  fits = record {
    padded = old_are;
    counted = rows_counted;
    lawful = with_leaves node can.lawful count counted;
  }

  here : at < count
  here = omega (arith, can.in_range, counted)

  more : 2 < count
  more = omega (arith, can.several, counted)

  module _ (height : ℕ) (positive : 0 < height) (bound : height ≤ 65535) (rows : List ℕ) (rows_are : rows ≡ removed_row at (take count old) ++ 4294967295 ∷ drop count old) where
    abbrev pub in_use : ℕ
    in_use = or_all (take (count - 1) rows)

    pub used : IsRowOver (length node.columns) in_use
    used = words_used (head_of node) count at height old front_is fits here more positive bound rows rows_are

    pub over : All (IsRowOver (length node.columns)) (take (count - 1) rows)
    over = words_over (head_of node) count at height old front_is fits here more positive bound rows rows_are

    -- the head with the columns that are used, and with the rows over these
    module _ (columns out : List ℕ) (columns_are : columns ≡ kept (used_bits in_use) node.columns) (out_is : out ≡ map (squeezed in_use) (take (count - 1) rows) ++ drop (count - 1) rows) where
      abbrev pub left : HeadView
      left = record { height = height; columns = columns; rows = take (count - 1) out }

      left_is : left ≡ head_without height at (head_of node)
      left_is = is_after (head_of node) count at height old front_is fits here more positive bound rows rows_are columns out columns_are out_is

      pub left_fits : FitsHead (count - 1) out left
      left_fits = fits_after (head_of node) count at height old front_is fits here more positive bound rows rows_are columns out columns_are out_is

      pub left_built : height ≡ 1 + greatest_height (remove node.entries at) → IsBuiltFrom (node_of left (remove node.entries at)) (without at (piece node))
      left_built tall = left_in node can.lawful (head_of node) left at height refl (omega (arith, here, rows_counted)) (omega (arith, more, rows_counted)) left_is tall

      -- the first rows are so many
      pub first_long : length (take (count - 1) rows) ≡ count - 1
      first_long =
          let parts : length (take (count - 1) rows) + length (drop (count - 1) rows) ≡ length rows =
          sym (length-append (take (count - 1) rows) (drop (count - 1) rows)) ∙ ap length (take-append-drop (count - 1) rows) in
          let same : length out ≡ length (take (count - 1) rows) + length (drop (count - 1) rows) =
          ap length out_is ∙ (length-append (map (squeezed in_use) (take (count - 1) rows)) (drop (count - 1) rows) ∙ ap (λ n. n + length (drop (count - 1) rows)) (length-map (take (count - 1) rows) (squeezed in_use))) in
          let rest : length {A = ℕ} (replicate (32 - length (take (count - 1) out)) 4294967295) ≡ 32 - length (take (count - 1) out) = length-replicate {A = ℕ} (32 - length (take (count - 1) out)) 4294967295 in
          let whole : length out ≡ 32 =
          ap length left_fits.padded ∙ (length-append (take (count - 1) out) (replicate (32 - length (take (count - 1) out)) 4294967295) ∙ omega (arith, rest, left_fits.counted, counted, can.lawful.room)) in
          length-take-le (count - 1) rows (omega (arith, parts, same, whole, counted, can.lawful.room))

    -- where each column is used, all stay
    module _ (full : in_use ≡ 4294967295 - 4294967295 / 2 ^ length node.columns) where
      pub columns_same : node.columns ≡ kept (used_bits in_use) node.columns
      columns_same = sym (columns_stay in_use (length node.columns) can.lawful.positions.few used full node.columns refl)

      pub rows_same : rows ≡ map (squeezed in_use) (take (count - 1) rows) ++ drop (count - 1) rows
      rows_same =
          sym (take-append-drop (count - 1) rows)
          ∙ ap (λ front. front ++ drop (count - 1) rows) (sym (rows_stay in_use (length node.columns) can.lawful.positions.few used full (take (count - 1) rows) over))

-- lanes of which the first ones count
pub first_lanes : (lanes out : List ℕ) (count : ℕ) → length lanes ≡ 32 → count ≤ 32 → length out ≡ 32 → ((i : ℕ) → i < count → get_or out i 0 ≡ get_or lanes i 0) → ((i : ℕ) → i < 32 → count ≤ i → get_or out i 0 ≡ 4294967295) →
    out ≡ with_unused (take count lanes)
first_lanes lanes out count long few whole front behind =
    let size : length (take count lanes) ≡ count = length-take-le count lanes (omega (arith, few, long)) in
    let rest : length {A = ℕ} (replicate (32 - length (take count lanes)) 4294967295) ≡ 32 - count = length-replicate {A = ℕ} (32 - length (take count lanes)) 4294967295 ∙ ap (λ n. 32 - n) size in
    ext_get_or 0 out (with_unused (take count lanes)) (whole ∙ sym (length-append (take count lanes) (replicate (32 - length (take count lanes)) 4294967295) ∙ omega (arith, size, rest, few)))
    (λ i h. let l : i < 32 = omega (arith, h, whole) in
    ⊎_elim
    (λ (low : i < count).
    front i low ∙ sym (get_or_append_left (take count lanes) (replicate (32 - length (take count lanes)) 4294967295) 0 i (omega (arith, low, size)) ∙ get_or-take count lanes i 0 low))
    (λ (past : count ≤ i).
    behind i l past
    ∙ sym (get_or-append_right (take count lanes) (replicate (32 - length (take count lanes)) 4294967295) count i 0 size past
    ∙ get_or-replicate (32 - length (take count lanes)) (i - count) 4294967295 0 (omega (arith, past, l, size))))
    (cases_lt i count))
