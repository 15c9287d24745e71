-- The lanes of columns, and of rows, that the words of a narrow and of a middle head spell.
use Rattle.record_words.proofs.Common.{ℕ, ◌≡◌, ◌+◌, ◌-◌, ◌*◌, ◌/◌, ◌%◌, ◌^◌, ◌<◌, ◌≤◌, ◌++◌, ⊎_elim, arith, cond, List, [], ◌∷◌, drop, get_or, get_or-take, length, refl, replicate, sym, take, ap, ap₂, ◌∙◌, cases_lt, eq-eqb, ext_get_or, get_or-append_right, get_or-replicate, get_or_append_left, get_or_past, length-replicate, get_or-map-range_with_len, length-append, IsLawfulNode, NodeView, head_of}
use Rattle.std.proofs.Common.{get_or-drop, length-drop}
use lib.Lanes.{digits_l, number_l}
use Rattle.record_words.specs.Kinds.{AreNearLanes, bit_mask, first_byte, head_size, index_lanes, kind_of, lane_words, mask_lanes, near_position, rows_a_word, rows_from}
use Rattle.record_words.specs.Node.{head_words}
use Rattle.record_words.specs.Packed.{row_lanes}
use Rattle.record_words.specs.declared.kind.HeadKind.{HeadKind}
use Rattle.record_words.specs.declared.kind.HeadKind.TheVariants.{Middle, Narrow}
use Rattle.record_words.proofs.near.Digits.{base_8}
use Rattle.record_words.proofs.HeadParts.HeadsByKind.{length-lane_words}
use Rattle.record_words.proofs.near.LaneWords.{lanes_back}
use Rattle.record_words.proofs.Lanes.{one_of}
use Rattle.record_words.proofs.Lawful.{row-lt}
use Rattle.record_words.proofs.near.NearKinds.{IsNearKind, index_words, lanes_small, last_lanes, middle_kind, narrow_kind, row_bits, row_lane_is, rows_long, word_in}
use Rattle.record_words.proofs.OfKinds.{AreNear, are_near_unless_wide, has_near_lanes, narrow_few}
use Rattle.record_words.proofs.HeadParts.{index_small, index_word, indexes_long, mask_small, mask_word, masks_long, near_row, row_word_is}

-- words in front
pub front_at : (n : ℕ) (all words : List ℕ) → take n all ≡ words → (j : ℕ) → j < n → get_or words j 0 ≡ get_or all j 0
front_at n all words same j low = ap (λ (ws : List ℕ). get_or ws j 0) (sym same) ∙ get_or-take n all j 0 low

-- what was read of two words as sixteen bytes
abbrev pub Reads : ℕ → ℕ → List ℕ → Type 0
Reads low high read = (lanes : List ℕ) → length lanes ≡ 16 → ((i : ℕ) → get_or lanes i 0 < 2 ^ 8) → lane_words 8 2 lanes ≡ low ∷ high ∷ [] → read ≡ lanes

-- ---- a list of two words
two_of : (xs : List ℕ) → length xs ≡ 2 → xs ≡ get_or xs 0 0 ∷ get_or xs 1 0 ∷ []
two_of [] long = absurd (omega (arith, long))
two_of (x ∷ []) long = absurd (omega (arith, long))
two_of (x ∷ y ∷ []) long = refl
two_of (x ∷ y ∷ z ∷ zs) long = absurd (omega (arith, long))

-- ---- eight lanes of 0 in front
zeros_in_front : (rest : List ℕ) → lane_words 8 2 (0 ∷ 0 ∷ 0 ∷ 0 ∷ 0 ∷ 0 ∷ 0 ∷ 0 ∷ rest) ≡ 0 ∷ lane_words 8 1 rest
unfolding lane_words
zeros_in_front rest =
    let n : ℕ = number_l (2 ^ 8) rest in
    ap₂ (λ (low high : ℕ). low ∷ high ∷ []) {x = number_l (2 ^ 8) (0 ∷ 0 ∷ 0 ∷ 0 ∷ 0 ∷ 0 ∷ 0 ∷ 0 ∷ rest) % 2 ^ 64} {y = 0} {u = number_l (2 ^ 8) (0 ∷ 0 ∷ 0 ∷ 0 ∷ 0 ∷ 0 ∷ 0 ∷ 0 ∷ rest) / 2 ^ 64 % 2 ^ 64} {v = n % 2 ^ 64} (omega arith) (omega arith)

pub zeros_in_lanes : (lanes : List ℕ) → length lanes ≡ 16 → ((i : ℕ) → i < 8 → get_or lanes i 0 ≡ 0) → lane_words 8 2 lanes ≡ 0 ∷ lane_words 8 1 (drop 8 lanes)
zeros_in_lanes lanes long none =
    let is : lanes ≡ replicate 8 0 ++ drop 8 lanes =
    ext_get_or 0 lanes (replicate 8 0 ++ drop 8 lanes) (omega (arith, long, length-append (replicate {A = ℕ} 8 0) (drop 8 lanes), length-replicate {A = ℕ} 8 0, length-drop 8 lanes))
    (λ i h. ⊎_elim
    (λ (low : i < 8). none i low ∙ sym (get_or_append_left (replicate 8 0) (drop 8 lanes) 0 i (omega (arith, low, length-replicate {A = ℕ} 8 0)) ∙ get_or-replicate {A = ℕ} 8 i 0 0 low))
    (λ (high : 8 ≤ i). sym (get_or-append_right (replicate 8 0) (drop 8 lanes) 8 i 0 (length-replicate {A = ℕ} 8 0) high
    ∙ (get_or-drop 8 lanes (i - 8) 0 ∙ ap (λ k. get_or lanes k 0) (let e : 8 + (i - 8) ≡ i = omega (arith, high) in e))))
    (cases_lt i 8)) in
    ap (lane_words 8 2) is ∙ zeros_in_front (drop 8 lanes)

-- the lanes of at most eight columns have such
module _ (columns : List ℕ) (few : length columns ≤ 8) where
  none : (i : ℕ) → i < 8 → near_position columns i ≡ 9 * first_byte columns
  none i low = get_or_past columns (15 - i) (9 * first_byte columns) (omega (arith, low, few))

  pub index_none : (i : ℕ) → i < 8 → get_or (index_lanes columns) i 0 ≡ 0
  index_none i low =
      get_or-map-range_with_len (λ k. near_position columns k / 9 - first_byte columns) 0 16 i i 0 (omega (arith, low)) (omega arith) ∙ (ap (λ p. p / 9 - first_byte columns) (none i low) ∙ omega arith)

  pub mask_none : (i : ℕ) → i < 8 → get_or (mask_lanes columns) i 0 ≡ 0
  mask_none i low =
      get_or-map-range_with_len (λ k. bit_mask (near_position columns k)) 0 16 i i 0 (omega (arith, low)) (omega arith)
      ∙ (ap bit_mask (none i low) ∙ ap (λ t. cond t 0 (2 ^ (8 - 9 * first_byte columns % 9))) (eq-eqb (9 * first_byte columns % 9) 0 (omega arith)))

small_everywhere : (lanes : List ℕ) → length lanes ≡ 16 → ((i : ℕ) → i < 16 → get_or lanes i 0 < 2 ^ 8) → (i : ℕ) → get_or lanes i 0 < 2 ^ 8
small_everywhere lanes long small i =
    ⊎_elim (small i) (λ (past : 16 ≤ i). let e = get_or_past lanes i 0 (omega (arith, past, long)) in omega (arith, e)) (cases_lt i 16)

-- what reads the words of near columns reads their lanes
module _ (columns : List ℕ) (most : ℕ) (near : AreNear columns most) (few : length columns ≤ 16) (low high : ℕ) where
  indexes_read : (read : List ℕ) → Reads low high read → lane_words 8 2 (index_lanes columns) ≡ low ∷ high ∷ [] → read ≡ index_lanes columns
  indexes_read read reads is = reads (index_lanes columns) (indexes_long columns most near few) (small_everywhere (index_lanes columns) (indexes_long columns most near few) (index_small columns most near few)) is

  masks_read : (read : List ℕ) → Reads low high read → lane_words 8 2 (mask_lanes columns) ≡ low ∷ high ∷ [] → read ≡ mask_lanes columns
  masks_read read reads is = reads (mask_lanes columns) (masks_long columns most near few) (small_everywhere (mask_lanes columns) (masks_long columns most near few) (mask_small columns most near few)) is

-- the words of a near head that stand in its front
module _ (node : NodeView) (lawful : IsLawfulNode node) (kind : HeadKind) (near : IsNearKind kind) (kinded : kind_of node.columns ≡ kind) (words : List ℕ)
    (at : (j : ℕ) → j < head_size kind → get_or words j 0 ≡ get_or (head_words (head_of node)) j 0) where
  of_near : AreNear node.columns 16
  of_near = are_near_unless_wide node.columns (λ wide. near.other (sym kinded ∙ wide))

  index_at : (q : ℕ) → q < index_words kind → get_or words (1 + q) 0 ≡ get_or (last_lanes kind (index_lanes node.columns)) q 0
  index_at q low = at (1 + q) (omega (arith, low, near.rows_behind, near.rows_inside)) ∙ index_word node lawful (head_words (head_of node)) refl kind near kinded q low

  mask_at : (q : ℕ) → q < index_words kind → get_or words (1 + (index_words kind + q)) 0 ≡ get_or (last_lanes kind (mask_lanes node.columns)) q 0
  mask_at q low = at (1 + (index_words kind + q)) (omega (arith, low, near.rows_behind, near.rows_inside)) ∙ mask_word node lawful (head_words (head_of node)) refl kind near kinded q low

  lanes_of : (indexes masks : List ℕ) (first i j k l : ℕ) → Reads i j indexes → Reads k l masks → lane_words 8 2 (index_lanes node.columns) ≡ i ∷ j ∷ [] → lane_words 8 2 (mask_lanes node.columns) ≡ k ∷ l ∷ [] →
      first ≡ first_byte node.columns → AreNearLanes node.columns indexes masks first
  lanes_of indexes masks first i j k l of_indexes of_masks its ones is = record {
    has = has_near_lanes node.columns lawful.positions (λ wide. near.other (sym kinded ∙ wide));
    indexes_are = indexes_read node.columns 16 of_near of_near.few i j indexes of_indexes its;
    masks_are = masks_read node.columns 16 of_near of_near.few k l masks of_masks ones;
    first_is = is;
  }

  pub near_rows : (lanes : List ℕ) → length lanes ≡ 32 → ((i : ℕ) → i < 32 → get_or lanes i 0 ≡ get_or words (rows_from kind + i / rows_a_word kind) 0 / 2 ^ (row_bits kind * (i % rows_a_word kind)) % 2 ^ row_bits kind) →
      lanes ≡ row_lanes (32 - row_bits kind) node.rows
  near_rows lanes long each =
      ext_get_or 0 lanes (row_lanes (32 - row_bits kind) node.rows) (long ∙ sym (rows_long (32 - row_bits kind) node.rows))
      (λ i h. let low : i < 32 = omega (arith, h, long) in
      each i low ∙ (ap (λ w. w / 2 ^ (row_bits kind * (i % rows_a_word kind)) % 2 ^ row_bits kind) (at (rows_from kind + i / rows_a_word kind) (omega (arith, word_in kind near i low)))
      ∙ (near_row node lawful (head_words (head_of node)) refl kind near kinded i low ∙ sym (row_lane_is (32 - row_bits kind) node.rows i low))))

-- ---- a narrow head
module _ (node : NodeView) (lawful : IsLawfulNode node) (kinded : kind_of node.columns ≡ Narrow) (words : List ℕ) (at : (j : ℕ) → j < 7 → get_or words j 0 ≡ get_or (head_words (head_of node)) j 0) where
  near : AreNear node.columns 16
  near = of_near node lawful Narrow narrow_kind kinded words at

  narrow_words : (lanes : List ℕ) (word : ℕ) → length lanes ≡ 16 → ((i : ℕ) → i < 8 → get_or lanes i 0 ≡ 0) → word ≡ get_or (lane_words 8 1 (drop 8 lanes)) 0 0 → lane_words 8 2 lanes ≡ 0 ∷ word ∷ []
  narrow_words lanes word long none is =
      zeros_in_lanes lanes long none ∙ (ap (λ (ws : List ℕ). 0 ∷ ws) (one_of (lane_words 8 1 (drop 8 lanes)) (length-lane_words 8 1 (drop 8 lanes))) ∙ ap (λ w. 0 ∷ w ∷ []) (sym is))

  pub narrow_lanes : (indexes masks : List ℕ) (first : ℕ) → Reads 0 (get_or words 1 0) indexes → Reads 0 (get_or words 2 0) masks → first ≡ first_byte node.columns → AreNearLanes node.columns indexes masks first
  narrow_lanes indexes masks first of_indexes of_masks =
      lanes_of node lawful Narrow narrow_kind kinded words at indexes masks first 0 _ 0 _ of_indexes of_masks
      (narrow_words (index_lanes node.columns) (get_or words 1 0) (indexes_long node.columns 16 near near.few) (index_none node.columns (narrow_few node.columns kinded)) (index_at node lawful Narrow narrow_kind kinded words at 0 (omega arith)))
      (narrow_words (mask_lanes node.columns) (get_or words 2 0) (masks_long node.columns 16 near near.few) (mask_none node.columns (narrow_few node.columns kinded)) (mask_at node lawful Narrow narrow_kind kinded words at 0 (omega arith)))

  -- bytes are read of whole words
  pub narrow_rows : (four : List ℕ) → length four ≡ 4 → ((k : ℕ) → k < 4 → get_or four k 0 ≡ get_or words (3 + k) 0) → digits_l (2 ^ 8) 32 (number_l (2 ^ 64) four) ≡ row_lanes 24 node.rows
  narrow_rows four long each =
      let rows : List ℕ = lane_words 8 4 (row_lanes 24 node.rows) in
      let is : four ≡ rows = ext_get_or 0 four rows (long ∙ sym (length-lane_words 8 4 (row_lanes 24 node.rows)))
      (λ k h. let low : k < 4 = omega (arith, h, long) in each k low ∙ (at (3 + k) (omega (arith, low)) ∙ row_word_is node lawful (head_words (head_of node)) refl Narrow narrow_kind kinded k low)) in
      ap (λ ws. digits_l (2 ^ 8) 32 (number_l (2 ^ 64) ws)) is ∙ lanes_back 8 8 4 32 base_8 (row_lanes 24 node.rows) (rows_long 24 node.rows) (lanes_small Narrow narrow_kind node.rows (row-lt node lawful)) refl

-- ---- a middle head
module _ (node : NodeView) (lawful : IsLawfulNode node) (kinded : kind_of node.columns ≡ Middle) (words : List ℕ) (at : (j : ℕ) → j < 13 → get_or words j 0 ≡ get_or (head_words (head_of node)) j 0) where
  middle_words : (lanes : List ℕ) (i j : ℕ) → i ≡ get_or (lane_words 8 2 lanes) 0 0 → j ≡ get_or (lane_words 8 2 lanes) 1 0 → lane_words 8 2 lanes ≡ i ∷ j ∷ []
  middle_words lanes i j first second = two_of (lane_words 8 2 lanes) (length-lane_words 8 2 lanes) ∙ ap₂ (λ (a b : ℕ). a ∷ b ∷ []) (sym first) (sym second)

  pub middle_lanes : (indexes masks : List ℕ) (first : ℕ) → Reads (get_or words 1 0) (get_or words 2 0) indexes → Reads (get_or words 3 0) (get_or words 4 0) masks → first ≡ first_byte node.columns →
      AreNearLanes node.columns indexes masks first
  middle_lanes indexes masks first of_indexes of_masks =
      let its = index_at node lawful Middle middle_kind kinded words at in
      let ones = mask_at node lawful Middle middle_kind kinded words at in
      lanes_of node lawful Middle middle_kind kinded words at indexes masks first _ _ _ _ of_indexes of_masks
      (middle_words (index_lanes node.columns) _ _ (its 0 (omega arith)) (its 1 (omega arith))) (middle_words (mask_lanes node.columns) _ _ (ones 0 (omega arith)) (ones 1 (omega arith)))
