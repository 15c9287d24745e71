-- What the parts of the words of a node's head tell, by the kind of its columns.
pub mod HeadsByKind
use Rattle.record_words.proofs.Common.{ℕ, ◌≡◌, ◌≢◌, ◌+◌, ◌-◌, ◌*◌, ◌/◌, ◌%◌, ◌^◌, ◌<◌, ◌≤◌, ◌++◌, inl, inr, ⊎_elim, arith, cond, List, drop, get_or, length, refl, sym, ap, subst, ◌∙◌, below_more, cases_eq, cases_lt, eq-eqb, ne_eqb, get_or-append_right, get_or-replicate, get_or_append_left, get_or_default, get_or_past, get_or-map-range_with_len, length-map-range_with_len, pow_mono, get_or-chunk, IsLawfulNode, NodeView, head_of, same_count}
use Rattle.std.proofs.Common.{get_or-drop}
use borrow.Author.Count.{below_none}
use lib.Count.{count_leading_zeros}
use lib.Lanes.{chunk}
use Rattle.record_words.specs.Kinds.{bit_mask, first_byte, head_size, index_lanes, kind_of, lane_words, mask_index, mask_lanes, near_position, position_index, rows_a_word, rows_from}
use Rattle.record_words.specs.Node.{head_words}
use Rattle.record_words.specs.Packed.{position_at, row_at, row_lanes}
use Rattle.record_words.specs.declared.kind.HeadKind.{HeadKind}
use Rattle.record_words.specs.declared.kind.HeadKind.TheVariants.{Middle, Narrow, Wide}
use Rattle.record_words.proofs.fixed.Fixing.{AreFixed, fixed_words_parts}
use Rattle.record_words.proofs.HeadParts.HeadsByKind.{HasParts, Tells, first_tells, head_parts, length-lane_words}
use Rattle.record_words.proofs.Lawful.{column-lt, row-lt}
use Rattle.record_words.proofs.near.NearLanes.{first_lowest}
use Rattle.record_words.proofs.near.NearKinds.{IsNearKind, index_words, lane_of_column, lane_of_row, last_lanes, middle_kind, narrow_kind, narrower, near_kind, row_bits, row_count, word_in}
use Rattle.record_words.proofs.OfKinds.{AreNear, are_near_unless_wide}
use Rattle.record_words.proofs.Packed.Parts.{position_in_word, row_in_word}
use Rattle.record_words.proofs.search.Search.{row_by_high}

-- ---- the lanes of near columns
bit_mask-le : (p : ℕ) → bit_mask p ≤ 128
bit_mask-le p = elim (cases_eq (p % 9) 0) [
  | inl none ↦ rw (eq-eqb (p % 9) 0 none) (omega arith)
  | inr some ↦ rw (ne_eqb (p % 9) 0 some) (pow_mono {i = 8 - p % 9} {j = 7} (omega (arith, some)))
]

-- the mask tells which of the nine bits it is of
pub mask_place : (o : ℕ) → o < 8 → count_leading_zeros 8 (2 ^ (8 - (o + 1))) ≡ o
unfolding count_leading_zeros
mask_place =
    let P : ℕ → Type 0 = λ o. count_leading_zeros 8 (2 ^ (8 - (o + 1))) ≡ o in
    below_more P 7 (below_more P 6 (below_more P 5 (below_more P 4 (below_more P 3 (below_more P 2 (below_more P 1 (below_more P 0 (below_none P) refl) refl) refl) refl) refl) refl) refl) refl

bit_told : (p : ℕ) → p % 9 ≢ 0 → 1 + count_leading_zeros 8 (bit_mask p) ≡ p % 9
bit_told p some =
    let o : ℕ = p % 9 - 1 in
    let is : o + 1 ≡ p % 9 = omega (arith, some) in
    let mask : bit_mask p ≡ 2 ^ (8 - (o + 1)) = ap (λ t. cond t 0 (2 ^ (8 - p % 9))) (ne_eqb (p % 9) 0 some) ∙ ap (λ k. 2 ^ (8 - k)) (sym is) in
    let place : count_leading_zeros 8 (bit_mask p) ≡ o = ap (count_leading_zeros 8) mask ∙ mask_place o (omega (arith, some)) in
    omega (arith, place, is)

module _ (columns : List ℕ) (most : ℕ) (near : AreNear columns most) (few : length columns ≤ 16) where
  pub indexes_long : length (index_lanes columns) ≡ 16
  indexes_long = length-map-range_with_len (λ i. near_position columns i / 9 - first_byte columns) 0 16

  pub masks_long : length (mask_lanes columns) ≡ 16
  masks_long = length-map-range_with_len (λ i. bit_mask (near_position columns i)) 0 16

  pub index_is : (i : ℕ) → i < 16 → get_or (index_lanes columns) i 0 ≡ near_position columns i / 9 - first_byte columns
  index_is i low = get_or-map-range_with_len (λ k. near_position columns k / 9 - first_byte columns) 0 16 i i 0 low (omega arith)

  pub mask_is : (i : ℕ) → i < 16 → get_or (mask_lanes columns) i 0 ≡ bit_mask (near_position columns i)
  mask_is i low = get_or-map-range_with_len (λ k. bit_mask (near_position columns k)) 0 16 i i 0 low (omega arith)

  index_low : (i : ℕ) → i < 16 → get_or (index_lanes columns) i 0 < 16
  index_low i low =
      let at : get_or (index_lanes columns) i 0 ≡ near_position columns i / 9 - first_byte columns = index_is i low in
      ⊎_elim
      (λ (used : 15 - i < length columns).
      let same : near_position columns i ≡ get_or columns (15 - i) 0 = get_or_default columns (15 - i) (9 * first_byte columns) 0 used in
      let its = near.each (15 - i) used in
      let below : get_or columns (15 - i) 0 / 9 < first_byte columns + 16 = its.below in
      subst (λ x. x < 16) (sym (at ∙ ap (λ p. p / 9 - first_byte columns) same)) (omega (arith, below)))
      (λ (past : length columns ≤ 15 - i).
      let none : near_position columns i ≡ 9 * first_byte columns = get_or_past columns (15 - i) (9 * first_byte columns) past in
      subst (λ x. x < 16) (sym (at ∙ ap (λ p. p / 9 - first_byte columns) none)) (omega arith))
      (cases_lt (15 - i) (length columns))

  mask_low : (i : ℕ) → i < 16 → get_or (mask_lanes columns) i 0 ≤ 128
  mask_low i low = subst (λ x. x ≤ 128) (sym (mask_is i low)) (bit_mask-le (near_position columns i))

  pub index_small : (i : ℕ) → i < 16 → get_or (index_lanes columns) i 0 < 2 ^ 8
  index_small i low = omega (arith, index_low i low)

  pub mask_small : (i : ℕ) → i < 16 → get_or (mask_lanes columns) i 0 < 2 ^ 8
  mask_small i low = omega (arith, mask_low i low)

  -- column j has lane 15 - j
  lane_column : (j : ℕ) → j < length columns → near_position columns (15 - j) ≡ get_or columns j 0
  lane_column j used =
      let back : 15 - (15 - j) ≡ j = omega (arith, used, few) in
      ap (λ k. get_or columns k (9 * first_byte columns)) back ∙ get_or_default columns j (9 * first_byte columns) 0 used

  column_index : (j : ℕ) → j < length columns → get_or (index_lanes columns) (15 - j) 0 ≡ get_or columns j 0 / 9 - first_byte columns
  column_index j used = index_is (15 - j) (omega arith) ∙ ap (λ p. p / 9 - first_byte columns) (lane_column j used)

  column_mask : (j : ℕ) → j < length columns → get_or (mask_lanes columns) (15 - j) 0 ≡ bit_mask (get_or columns j 0)
  column_mask j used = mask_is (15 - j) (omega arith) ∙ ap bit_mask (lane_column j used)

-- ---- a node whose head has the words
module _ (node : NodeView) (lawful : IsLawfulNode node) (words : List ℕ) (same : head_words (head_of node) ≡ words) where
  pub parts : HasParts (kind_of node.columns) (length node.rows) node.height node.columns node.rows words
  parts = head_parts (length node.rows) node.height node.columns node.rows words same

  pub whole : length words ≡ 25
  whole = parts.whole

  pub room : length node.rows ≤ 32
  room = omega (arith, same_count node lawful, lawful.room)

  -- the first word
  pub told : Tells (length node.rows) node.height node.columns (get_or words 0 0)
  told = first_tells (length node.rows) node.height node.columns (get_or words 0 0) (omega (arith, room)) (let few = lawful.positions.few in omega (arith, few)) (let bound = lawful.bound in omega (arith, bound)) parts.numbers

  pub of_this : (kind : HeadKind) → kind_of node.columns ≡ kind → HasParts kind (length node.rows) node.height node.columns node.rows words
  of_this kind e = subst (λ k. HasParts k (length node.rows) node.height node.columns node.rows words) e parts

  pub wide : kind_of node.columns ≡ Wide → AreFixed (length node.rows) node.height node.columns node.rows words
  wide e = fixed_words_parts (length node.rows) node.height node.columns node.rows words e same

  -- a position of a wide head
  pub wide_position : kind_of node.columns ≡ Wide → (j : ℕ) → j < 32 → get_or words (1 + j / 4) 0 / 2 ^ (16 * (j % 4)) % 2 ^ 16 ≡ position_at node.columns j
  wide_position e j low =
      ap (λ w. w / 2 ^ (16 * (j % 4)) % 2 ^ 16) (sym ((wide e).positions (j / 4) (omega (arith, low)))) ∙ sym (position_in_word node.columns j (column-lt node lawful))

  -- a row of a wide head
  pub wide_row : kind_of node.columns ≡ Wide → (i : ℕ) → i < 32 → get_or words (9 + i / 2) 0 / 2 ^ (32 * (i % 2)) % 2 ^ 32 ≡ row_at node.rows i
  wide_row e i low =
      ap (λ w. w / 2 ^ (32 * (i % 2)) % 2 ^ 32) (sym ((wide e).rows_are (i / 2) (omega (arith, low)))) ∙ sym (row_in_word node.rows i (row-lt node lawful))

  -- a word of a part
  pub word_of : (from n k : ℕ) (ws : List ℕ) → k < n → chunk from n words ≡ ws → get_or words (from + k) 0 ≡ get_or ws k 0
  word_of from n k ws low is = sym (get_or-chunk from n words k 0 low) ∙ ap (λ (xs : List ℕ). get_or xs k 0) is

  -- ---- a near head
  module _ (kind : HeadKind) (near : IsNearKind kind) (e : kind_of node.columns ≡ kind) where
    of_near : AreNear node.columns 16
    of_near = are_near_unless_wide node.columns (λ wide. near.other (sym e ∙ wide))

    abbrev its : List ℕ
    its = last_lanes kind (index_lanes node.columns)

    abbrev masks : List ℕ
    masks = last_lanes kind (mask_lanes node.columns)

    its_long : length its ≡ index_words kind
    its_long = length-lane_words 8 (index_words kind) (drop (16 - 8 * index_words kind) (index_lanes node.columns))

    -- the words of its columns
    column_word : (q : ℕ) → q < 2 * index_words kind → get_or words (1 + q) 0 ≡ get_or (its ++ masks) q 0
    column_word q low = word_of 1 (rows_from kind - 1) q (its ++ masks) (omega (arith, low, near.rows_behind)) ((of_this kind e).columns_are ∙ near.columns_spelled node.columns)

    pub index_word : (q : ℕ) → q < index_words kind → get_or words (1 + q) 0 ≡ get_or its q 0
    index_word q low = column_word q (omega (arith, low)) ∙ get_or_append_left its masks 0 q (omega (arith, low, its_long))

    pub mask_word : (q : ℕ) → q < index_words kind → get_or words (1 + (index_words kind + q)) 0 ≡ get_or masks q 0
    mask_word q low =
        column_word (index_words kind + q) (omega (arith, low))
        ∙ (get_or-append_right its masks (index_words kind) (index_words kind + q) 0 its_long (omega arith) ∙ ap (λ n. get_or masks n 0) (let at : index_words kind + q - index_words kind ≡ q = omega arith in at))

    -- how far the byte of a column is behind the first, and the mask of its bit
    index_here : (j : ℕ) → j < length node.columns → get_or words (position_index kind j) 0 / 2 ^ (8 * (7 - j % 8)) % 2 ^ 8 ≡ get_or node.columns j 0 / 9 - first_byte node.columns
    index_here j used =
        let low : j < 8 * index_words kind = omega (arith, used, near.few node.columns e) in
        ap (λ w. w / 2 ^ (8 * (7 - j % 8)) % 2 ^ 8) (ap (λ i. get_or words i 0) (near.index_at j low) ∙ index_word (index_words kind - 1 - j / 8) (omega (arith, low)))
        ∙ lane_of_column kind near (index_lanes node.columns) (indexes_long node.columns 16 of_near of_near.few) (index_small node.columns 16 of_near of_near.few) j _ low (column_index node.columns 16 of_near of_near.few j used)

    mask_here : (j : ℕ) → j < length node.columns → get_or words (mask_index kind j) 0 / 2 ^ (8 * (7 - j % 8)) % 2 ^ 8 ≡ bit_mask (get_or node.columns j 0)
    mask_here j used =
        let low : j < 8 * index_words kind = omega (arith, used, near.few node.columns e) in
        ap (λ w. w / 2 ^ (8 * (7 - j % 8)) % 2 ^ 8) (ap (λ i. get_or words i 0) (near.mask_at j low) ∙ mask_word (index_words kind - 1 - j / 8) (omega (arith, low)))
        ∙ lane_of_column kind near (mask_lanes node.columns) (masks_long node.columns 16 of_near of_near.few) (mask_small node.columns 16 of_near of_near.few) j _ low (column_mask node.columns 16 of_near of_near.few j used)

    -- the words of its rows
    pub row_word_is : (q : ℕ) → q < row_count kind → get_or words (rows_from kind + q) 0 ≡ get_or (lane_words (row_bits kind) (row_count kind) (row_lanes (32 - row_bits kind) node.rows)) q 0
    row_word_is q low = word_of (rows_from kind) (row_count kind) q _ low ((of_this kind e).rows_are ∙ near.rows_spelled node.rows)

    pub near_row : (i : ℕ) → i < 32 → get_or words (rows_from kind + i / rows_a_word kind) 0 / 2 ^ (row_bits kind * (i % rows_a_word kind)) % 2 ^ row_bits kind ≡ row_at node.rows i / 2 ^ (32 - row_bits kind)
    near_row i low =
        ap (λ w. w / 2 ^ (row_bits kind * (i % rows_a_word kind)) % 2 ^ row_bits kind) (row_word_is (i / rows_a_word kind) (word_in kind near i low)) ∙ lane_of_row kind near node.rows (row-lt node lawful) i low

    -- a row is given by its highest bits
    pub near_row_is : (i : ℕ) → i < length node.rows → get_or words (rows_from kind + i / rows_a_word kind) 0 / 2 ^ (row_bits kind * (i % rows_a_word kind)) % 2 ^ row_bits kind * 2 ^ (32 - row_bits kind) ≡ get_or node.rows i 0
    near_row_is i inside =
        ap (λ r. r * 2 ^ (32 - row_bits kind)) (near_row i (omega (arith, inside, room)) ∙ ap (λ r. r / 2 ^ (32 - row_bits kind)) (get_or_default node.rows i 4294967295 0 inside))
        ∙ row_by_high node lawful (row_bits kind) (omega (arith, near.few node.columns e, near.bits)) (narrower kind near) i inside

  -- of its own kind
  pub near_index : kind_of node.columns ≢ Wide → (j : ℕ) → j < length node.columns →
      get_or words (position_index (kind_of node.columns) j) 0 / 2 ^ (8 * (7 - j % 8)) % 2 ^ 8 ≡ get_or node.columns j 0 / 9 - first_byte node.columns
  near_index other = index_here (kind_of node.columns) (near_kind node.columns other) refl

  pub near_mask : kind_of node.columns ≢ Wide → (j : ℕ) → j < length node.columns →
      get_or words (mask_index (kind_of node.columns) j) 0 / 2 ^ (8 * (7 - j % 8)) % 2 ^ 8 ≡ bit_mask (get_or node.columns j 0)
  near_mask other = mask_here (kind_of node.columns) (near_kind node.columns other) refl

  pub narrow_row_is : kind_of node.columns ≡ Narrow → (i : ℕ) → i < length node.rows → get_or words (3 + i / 8) 0 / 2 ^ (8 * (i % 8)) % 2 ^ 8 * 2 ^ 24 ≡ get_or node.rows i 0
  narrow_row_is = near_row_is Narrow narrow_kind

  pub middle_row_is : kind_of node.columns ≡ Middle → (i : ℕ) → i < length node.rows → get_or words (5 + i / 4) 0 / 2 ^ (16 * (i % 4)) % 2 ^ 16 * 2 ^ 16 ≡ get_or node.rows i 0
  middle_row_is = near_row_is Middle middle_kind

  -- and a column by its two bytes
  near_part : kind_of node.columns ≢ Wide → (j : ℕ) → j < length node.columns → (get_or node.columns j 0 % 9 ≢ 0) × (first_byte node.columns ≤ get_or node.columns j 0 / 9)
  near_part other j used = let its = (are_near_unless_wide node.columns other).each j used in (its.a_bit, first_lowest node.columns j lawful.positions.rise used)

  pub near_column_is : kind_of node.columns ≢ Wide → (j first index mask : ℕ) → j < length node.columns → first ≡ get_or words 0 0 / 2 ^ 32 % 2 ^ 8 →
      index ≡ get_or words (position_index (kind_of node.columns) j) 0 / 2 ^ (8 * (7 - j % 8)) % 2 ^ 8 → mask ≡ get_or words (mask_index (kind_of node.columns) j) 0 / 2 ^ (8 * (7 - j % 8)) % 2 ^ 8 →
      9 * (first + index) + 1 + count_leading_zeros 8 mask ≡ get_or node.columns j 0
  near_column_is other j first index mask used first_is index_is mask_is =
      let part = near_part other j used in
      let low : first_byte node.columns ≤ get_or node.columns j 0 / 9 = part.1 in
      let from : first ≡ first_byte node.columns = first_is ∙ told.first_told other in
      let behind : index ≡ get_or node.columns j 0 / 9 - first_byte node.columns = index_is ∙ near_index other j used in
      let bit : 1 + count_leading_zeros 8 mask ≡ get_or node.columns j 0 % 9 =
      ap (λ m. 1 + count_leading_zeros 8 m) (mask_is ∙ near_mask other j used) ∙ bit_told (get_or node.columns j 0) part.0 in
      omega (arith, low, from, behind, bit)

  -- the words behind those of the kind are all ones
  pub past_kind : (i : ℕ) → head_size (kind_of node.columns) ≤ i → i < 25 → get_or words i 0 ≡ 2 ^ 64 - 1
  past_kind i past inside =
      let n : ℕ = head_size (kind_of node.columns) in
      let at : n + (i - n) ≡ i = omega (arith, past) in
      ap (λ k. get_or words k 0) (sym at)
      ∙ (sym (get_or-drop n words (i - n) 0) ∙ (ap (λ (ws : List ℕ). get_or ws (i - n) 0) parts.rest ∙ get_or-replicate (25 - n) (i - n) (2 ^ 64 - 1) 0 (omega (arith, past, inside))))
