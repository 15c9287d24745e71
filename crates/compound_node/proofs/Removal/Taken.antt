-- A node without a place, and its head.
use Rattle.compound_node.proofs.Common.{List, ap, arith, drop, get_or, length, map, refl, replicate, subst, suc, sym, take, ℕ, ◌++◌, ◌+◌, ◌-◌, ◌<◌, ◌∙◌, ◌∷◌, ◌≡◌, ◌≤◌, drop_at, get_or-replicate, length-map, length-replicate, take_at, length-remove, All-append, All-drop, All-take, All, remove, rows_over, used_over, half_shows, piece_of_shown, Covers, ShowsPiece, IsRowOver, or_all, squeezed, used_bits, one_place, without, kept, Place}
use Rattle.compound_node.proofs.Lawful.{built_lawful, same_count, with_leaves}
use Rattle.compound_node.proofs.Removal.{covers_without}
use Rattle.compound_node.proofs.halves.Halves.{fit_used}
use Rattle.compound_node.specs.Nodes.{FitTogether, FitsHead, HeadView, IsBuiltFrom, IsEntry, IsLawfulNode, NodeView, greatest_height, head_of, height_of, leaves, node_of, piece}
use Rattle.compound_node.specs.Removal.{removed_row}
use Rattle.compound_node.specs.declared.entries.Entry.TheVariants.{Leaf}
use Rattle.compound_node.specs.declared.entries.Entry.{Entry}

-- the head without the place, with this height
abbrev pub head_without : ℕ → ℕ → HeadView → HeadView
head_without height at head =
    let rows = removed_row at head.rows in
    record {
      height = height;
      columns = kept (used_bits (or_all rows)) head.columns;
      rows = map (squeezed (or_all rows)) rows;
    }

module _ (node : NodeView) (lawful : IsLawfulNode node) (at : ℕ) (here : at < length node.entries) where
  abbrev left_rows : List ℕ
  left_rows = removed_row at node.rows

  covers : Covers node.columns left_rows (remove node.entries at) (without at (piece node))
  covers = covers_without node.columns node.rows node.entries (piece node) at lawful.shows lawful.several here

  shorter : length (remove node.entries at) + 1 ≡ length node.entries
  shorter = length-remove node.entries at here

  -- the one that is left of two
  pub one_left : length node.entries ≡ 2 → without at (piece node) ≡ Place (get_or (remove node.entries at) 0 (Leaf 0))
  one_left two = one_place (remove node.entries at) (without at (piece node)) (Leaf 0) covers.entries_are (omega (arith, shorter, two))

  left_children : All IsEntry (remove node.entries at)
  left_children = All-append IsEntry (take at node.entries) (drop (suc at) node.entries) (All-take IsEntry at node.entries lawful.children) (All-drop IsEntry (suc at) node.entries lawful.children)

  pub left_used : IsRowOver (length node.columns) (or_all left_rows)
  left_used = used_over node.columns left_rows (remove node.entries at) (without at (piece node)) covers

  pub left_over : All (IsRowOver (length node.columns)) left_rows
  left_over = rows_over node.columns left_rows (remove node.entries at) (without at (piece node)) covers

  module _ (more : 2 < length node.entries) where
    several : 2 ≤ length (remove node.entries at)
    several = omega (arith, shorter, more)

    left_shown : ShowsPiece (kept (used_bits (or_all left_rows)) node.columns) (map (squeezed (or_all left_rows)) left_rows) (remove node.entries at) (without at (piece node))
    left_shown = half_shows node.columns left_rows (remove node.entries at) (without at (piece node)) covers

    left_fit : FitTogether (kept (used_bits (or_all left_rows)) node.columns) (map (squeezed (or_all left_rows)) left_rows) (remove node.entries at)
    left_fit = fit_used node.columns left_rows (remove node.entries at) (without at (piece node)) covers several (omega (arith, shorter, lawful.room)) lawful.positions left_children

    left_lawful : IsLawfulNode (node_of (head_without (1 + greatest_height (remove node.entries at)) at (head_of node)) (remove node.entries at))
    left_lawful = built_lawful (kept (used_bits (or_all left_rows)) node.columns) (map (squeezed (or_all left_rows)) left_rows) (remove node.entries at) left_fit

    -- it is built from the piece without the place
    pub left_built : IsBuiltFrom (node_of (head_without (1 + greatest_height (remove node.entries at)) at (head_of node)) (remove node.entries at)) (without at (piece node))
    left_built = record {
      lawful = left_lawful;
      shows_it = piece_of_shown (Leaf 0) (kept (used_bits (or_all left_rows)) node.columns) (map (squeezed (or_all left_rows)) left_rows) (remove node.entries at) (without at (piece node)) left_shown;
      height_is = refl;
    }

    -- and leaves can stand there, whatever its height
    pub left_leaves : (n height : ℕ) → n + 1 ≡ length node.entries → 0 < height → height ≤ 65535 → IsLawfulNode (node_of (head_without height at (head_of node)) (leaves n))
    left_leaves n height count positive bound =
        let low = with_leaves (node_of (head_without (1 + greatest_height (remove node.entries at)) at (head_of node)) (remove node.entries at)) left_lawful n (omega (arith, shorter, count)) in
        record {
          several = low.several;
          room = low.room;
          positions = low.positions;
          shows = low.shows;
          children = low.children;
          above = λ k d l. subst (λ (e : Entry). height_of e < height) (sym (get_or-replicate n k (Leaf 0) d (subst (λ m. k < m) (length-replicate n (Leaf 0)) l))) positive;
          bound = bound;
        }

-- so in each node of a head
pub left_in : (node : NodeView) → IsLawfulNode node → (head new : HeadView) (at height : ℕ) → head_of node ≡ head → at < length head.rows → 2 < length head.rows → new ≡ head_without height at head →
    height ≡ 1 + greatest_height (remove node.entries at) → IsBuiltFrom (node_of new (remove node.entries at)) (without at (piece node))
left_in node lawful head new at height same here more is tall =
    let counted : length head.rows ≡ length node.entries = ap (λ (h : HeadView). length h.rows) (sym same) ∙ same_count node lawful in
    let new_is : new ≡ head_without (1 + greatest_height (remove node.entries at)) at (head_of node) = is ∙ (ap (λ h. head_without height at h) (sym same) ∙ ap (λ k. head_without k at (head_of node)) tall) in
    subst (λ h. IsBuiltFrom (node_of h (remove node.entries at)) (without at (piece node))) (sym new_is) (left_built node lawful at (omega (arith, here, counted)) (omega (arith, more, counted)))

-- ---- the words of the head
module _ (head : HeadView) (count at height : ℕ) (padded_rows : List ℕ) (rows_are : head.rows ≡ take count padded_rows) (fits : FitsHead count padded_rows head)
    (here : at < count) (more : 2 < count) (positive : 0 < height) (bound : height ≤ 65535) where
  abbrev after : HeadView
  after = head_without height at head

  abbrev rest : List ℕ
  rest = removed_row at head.rows

  whole : length (leaves count) ≡ count
  whole = length-replicate count (Leaf 0)

  lawful : IsLawfulNode (node_of after (leaves (count - 1)))
  lawful = left_leaves (node_of head (leaves count)) fits.lawful at (omega (arith, whole, here)) (omega (arith, whole, more)) (count - 1) height (omega (arith, whole, more)) positive bound

  counted : length after.rows ≡ count - 1
  counted = same_count (node_of after (leaves (count - 1))) lawful ∙ length-replicate (count - 1) (Leaf 0)

  rest_counted : length rest ≡ count - 1
  rest_counted = sym (length-map rest (squeezed (or_all rest))) ∙ counted

  -- the words without row `at`, before they are squeezed
  module _ (words : List ℕ) (is : words ≡ removed_row at (take count padded_rows) ++ 4294967295 ∷ drop count padded_rows) where
    is_rest : words ≡ rest ++ 4294967295 ∷ drop count padded_rows
    is_rest = is ∙ ap (λ rows. removed_row at rows ++ 4294967295 ∷ drop count padded_rows) (sym rows_are)

    taken_rows : take (count - 1) words ≡ rest
    taken_rows = ap (take (count - 1)) is_rest ∙ take_at rest (4294967295 ∷ drop count padded_rows) (count - 1) rest_counted

    taken_behind : drop (count - 1) words ≡ 4294967295 ∷ drop count padded_rows
    taken_behind = ap (drop (count - 1)) is_rest ∙ drop_at rest (4294967295 ∷ drop count padded_rows) (count - 1) rest_counted

    pub words_used : IsRowOver (length head.columns) (or_all (take (count - 1) words))
    words_used = subst (λ rows. IsRowOver (length head.columns) (or_all rows)) (sym taken_rows) (left_used (node_of head (leaves count)) fits.lawful at (omega (arith, whole, here)))

    pub words_over : All (IsRowOver (length head.columns)) (take (count - 1) words)
    words_over = subst (All (IsRowOver (length head.columns))) (sym taken_rows) (left_over (node_of head (leaves count)) fits.lawful at (omega (arith, whole, here)))

    -- and then
    module _ (columns squeezed_words : List ℕ) (columns_are : columns ≡ kept (used_bits (or_all (take (count - 1) words))) head.columns)
        (squeezed_is : squeezed_words ≡ map (squeezed (or_all (take (count - 1) words))) (take (count - 1) words) ++ drop (count - 1) words) where
      words_are : squeezed_words ≡ after.rows ++ 4294967295 ∷ drop count padded_rows
      words_are = squeezed_is ∙ (ap (λ rows. map (squeezed (or_all rows)) rows ++ drop (count - 1) words) taken_rows ∙ ap (λ ys. after.rows ++ ys) taken_behind)

      behind : 4294967295 ∷ drop count padded_rows ≡ replicate (32 - length after.rows) 4294967295
      behind =
          let same : length head.rows ≡ count = fits.counted in
          let old : drop count padded_rows ≡ replicate (32 - count) 4294967295 =
          ap (drop count) fits.padded ∙ (drop_at head.rows (replicate (32 - length head.rows) 4294967295) count same ∙ ap (λ n. replicate (32 - n) 4294967295) same) in
          ap (λ ys. 4294967295 ∷ ys) old ∙ ap (λ n. replicate n 4294967295) (let e : suc (32 - count) ≡ 32 - length after.rows = omega (arith, counted, here, fits.lawful.room, whole) in e)

      pub is_after : ◌≡◌ {A = HeadView} (record { height = height; columns = columns; rows = take (count - 1) squeezed_words }) after
      is_after =
          let columns_after : columns ≡ after.columns = columns_are ∙ ap (λ rows. kept (used_bits (or_all rows)) head.columns) taken_rows in
          let rows_after : take (count - 1) squeezed_words ≡ after.rows = ap (take (count - 1)) words_are ∙ take_at after.rows (4294967295 ∷ drop count padded_rows) (count - 1) counted in
          rw (columns_after, rows_after) refl

      pub fits_after : FitsHead (count - 1) squeezed_words (record { height = height; columns = columns; rows = take (count - 1) squeezed_words })
      fits_after = subst (FitsHead (count - 1) squeezed_words) (sym is_after) (record {
        padded = words_are ∙ ap (λ ys. after.rows ++ ys) behind;
        counted = counted;
        lawful = lawful;
      })
