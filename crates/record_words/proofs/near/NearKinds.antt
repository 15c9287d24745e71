-- What is alike of the two kinds of near heads: the lanes of columns, and of rows, that their words spell.
use Rattle.record_words.proofs.Common.{ℕ, zero, suc, ◌≡◌, ◌≢◌, ◌+◌, ◌-◌, ◌*◌, ◌/◌, ◌%◌, ◌^◌, ◌<◌, ◌≤◌, ◌++◌, arith, cond, List, drop, get_or, length, refl, sym, ap, subst, ◌∙◌, ⊎_elim, div-add-mod, div-lt_iff_lt-mul, mod-lt, pow-suc, pow-zero, cases_lt, le-ltb, lt-ltb, pow-add, pow_pos, get_or-map-range_with_len, length-map-range_with_len, Each1-from_get_or}
use Rattle.std.proofs.Common.{get_or-drop, length-drop}
use lib.Lanes.{Each1}
use Rattle.record_words.specs.Kinds.{head_size, index_lanes, kind_of, lane_words, mask_index, mask_lanes, position_index, rows_a_word, rows_from}
use Rattle.record_words.specs.Packed.{column_words, row_at, row_lanes, row_words}
use Rattle.record_words.specs.declared.kind.HeadKind.{HeadKind}
use Rattle.record_words.specs.declared.kind.HeadKind.TheVariants.{Middle, Narrow, Wide}
use Rattle.record_words.proofs.near.Digits.{IsBase, base_8, base_16}
use Rattle.record_words.proofs.near.LaneWords.{lane_at}
use Rattle.record_words.proofs.OfKinds.{OfKind, is_middle, is_narrow, is_wide, middle_few, narrow_few, of_kind}
use Rattle.record_words.proofs.Packed.{row_at-lt}

-- how many words have the indexes of the lanes of columns, and as many their masks
abbrev pub index_words : HeadKind → ℕ
index_words Wide = 0
index_words Narrow = 1
index_words Middle = 2

-- how many bits of a row a word has
abbrev pub row_bits : HeadKind → ℕ
row_bits Wide = 32
row_bits Narrow = 8
row_bits Middle = 16

-- how many words have rows
abbrev pub row_count : HeadKind → ℕ
row_count kind = head_size kind - rows_from kind

-- the words of the last lanes, which a head has
abbrev pub last_lanes : HeadKind → List ℕ → List ℕ
last_lanes kind lanes = lane_words 8 (index_words kind) (drop (16 - 8 * index_words kind) lanes)

-- what is so of both kinds
pub record IsNearKind (kind : HeadKind) : Type 0 where
  pub other : kind ≢ Wide
  pub few : (columns : List ℕ) → kind_of columns ≡ kind → length columns ≤ 8 * index_words kind
  -- columns
  pub at_most_two : index_words kind ≤ 2
  pub lanes_whole : (2 ^ 8) ^ (8 * index_words kind) ≡ (2 ^ 64) ^ index_words kind
  pub columns_spelled : (columns : List ℕ) → column_words kind columns ≡ last_lanes kind (index_lanes columns) ++ last_lanes kind (mask_lanes columns)
  pub rows_behind : rows_from kind ≡ 1 + 2 * index_words kind
  pub rows_inside : rows_from kind ≤ head_size kind
  pub index_at : (j : ℕ) → j < 8 * index_words kind → position_index kind j ≡ 1 + (index_words kind - 1 - j / 8)
  pub mask_at : (j : ℕ) → j < 8 * index_words kind → mask_index kind j ≡ 1 + (index_words kind + (index_words kind - 1 - j / 8))
  -- rows
  pub bits : row_bits kind ≡ 8 * index_words kind
  pub base : IsBase (2 ^ row_bits kind)
  pub rows_whole : (2 ^ row_bits kind) ^ 32 ≡ (2 ^ 64) ^ row_count kind
  pub rows_spelled : (rows : List ℕ) → row_words kind rows ≡ lane_words (row_bits kind) (row_count kind) (row_lanes (32 - row_bits kind) rows)
  pub word_whole : 2 ^ 64 ≡ (2 ^ row_bits kind) ^ rows_a_word kind
  pub several : 1 < rows_a_word kind
  pub all : 32 ≡ row_count kind * rows_a_word kind
  -- words that are all ones
  pub two_alike : (2 ^ 64 - 1) / 2 ^ (row_bits kind * 0) % 2 ^ row_bits kind ≡ (2 ^ 64 - 1) / 2 ^ (row_bits kind * 1) % 2 ^ row_bits kind
  pub unused_row : (2 ^ 32 - 1) / 2 ^ (32 - row_bits kind) ≡ 2 ^ row_bits kind - 1
  pub ones : (w : ℕ) → w < 2 ^ 64 → ((r : ℕ) → r < rows_a_word kind → w / 2 ^ (row_bits kind * r) % 2 ^ row_bits kind ≡ 2 ^ row_bits kind - 1) → w ≡ 2 ^ 64 - 1

-- a word of eight bytes that are all ones
ones_of_bytes : (w : ℕ) → w < 2 ^ 64 → ((r : ℕ) → r < 8 → w / 2 ^ (8 * r) % 2 ^ 8 ≡ 255) → w ≡ 2 ^ 64 - 1
ones_of_bytes w small each =
    let low : w % 2 ^ 32 ≡ 2 ^ 32 - 1 = omega (arith, each 0 (omega arith), each 1 (omega arith), each 2 (omega arith), each 3 (omega arith)) in
    let high : w / 2 ^ 32 ≡ 2 ^ 32 - 1 = omega (arith, small, each 4 (omega arith), each 5 (omega arith), each 6 (omega arith), each 7 (omega arith)) in
    omega (arith, low, high)

pub narrow_kind : IsNearKind Narrow
narrow_kind = record {
  other = λ is. cc;
  few = narrow_few;
  at_most_two = omega arith;
  lanes_whole = refl;
  columns_spelled = λ columns. refl;
  rows_behind = refl;
  rows_inside = omega arith;
  index_at = λ j low. omega (arith, low);
  mask_at = λ j low. omega (arith, low);
  bits = refl;
  base = base_8;
  rows_whole = refl;
  rows_spelled = λ rows. refl;
  word_whole = refl;
  several = omega arith;
  all = refl;
  two_alike = refl;
  unused_row = refl;
  ones = ones_of_bytes;
}

pub middle_kind : IsNearKind Middle
middle_kind = record {
  other = λ is. cc;
  few = middle_few;
  at_most_two = omega arith;
  lanes_whole = refl;
  columns_spelled = λ columns. refl;
  rows_behind = refl;
  rows_inside = omega arith;
  index_at = λ j low. place j low;
  mask_at = λ j low. ap (λ i. i + 2) (place j low) ∙ omega arith;
  bits = refl;
  base = base_16;
  rows_whole = refl;
  rows_spelled = λ rows. refl;
  word_whole = refl;
  several = omega arith;
  all = refl;
  two_alike = refl;
  unused_row = refl;
  ones = λ w small each. omega (arith, small, each 0 (omega arith), each 1 (omega arith), each 2 (omega arith), each 3 (omega arith));
}
  where
    place : (j : ℕ) → j < 16 → position_index Middle j ≡ 1 + (1 - j / 8)
    place j low = ⊎_elim
        (λ (first : j < 8). ap (λ t. cond t 2 1) (lt-ltb j 8 first) ∙ omega (arith, first))
        (λ (second : 8 ≤ j). ap (λ t. cond t 2 1) (le-ltb j 8 second) ∙ omega (arith, second, low))
        (cases_lt j 8)

pub near_kind : (columns : List ℕ) → kind_of columns ≢ Wide → IsNearKind (kind_of columns)
near_kind columns other = go (of_kind columns)
  where
    go : OfKind columns → IsNearKind (kind_of columns)
    go (is_wide e) = absurd (other e)
    go (is_narrow e near) = subst IsNearKind (sym e) narrow_kind
    go (is_middle e near) = subst IsNearKind (sym e) middle_kind

-- ---- numbers
powers : (w r : ℕ) → (2 ^ w) ^ r ≡ 2 ^ (w * r)
powers w zero = pow-zero (2 ^ w) ∙ ap (λ n. 2 ^ n) (let none : 0 ≡ w * 0 = omega arith in none)
powers w (suc r) = pow-suc (2 ^ w) r ∙ (ap (λ p. p * 2 ^ w) (powers w r) ∙ (sym (pow-add 2 (w * r) w) ∙ ap (λ n. 2 ^ n) (omega arith)))

-- the highest bits of 32 bits
pub high_small : (w x : ℕ) → w ≤ 32 → x < 2 ^ 32 → x / 2 ^ (32 - w) < 2 ^ w
high_small w x narrower small =
    let whole : 2 ^ w * 2 ^ (32 - w) ≡ 2 ^ 32 = sym (pow-add 2 w (32 - w)) ∙ ap (λ n. 2 ^ n) (let e : w + (32 - w) ≡ 32 = omega (arith, narrower) in e) in
    (div-lt_iff_lt-mul {k = 2 ^ (32 - w)} {x = x} {y = 2 ^ w} (pow_pos (32 - w))).1 (subst (λ n. x < n) (sym whole) small)

-- ---- the lanes of rows
pub row_lane_is : (low : ℕ) (rows : List ℕ) (i : ℕ) → i < 32 → get_or (row_lanes low rows) i 0 ≡ row_at rows i / 2 ^ low
row_lane_is low rows i inside = get_or-map-range_with_len (λ k. row_at rows k / 2 ^ low) 0 32 i i 0 inside (omega arith)

pub rows_long : (low : ℕ) (rows : List ℕ) → length (row_lanes low rows) ≡ 32
rows_long low rows = length-map-range_with_len (λ k. row_at rows k / 2 ^ low) 0 32

module _ (kind : HeadKind) (near : IsNearKind kind) where
  pub narrower : row_bits kind ≤ 32
  narrower = omega (arith, near.bits, near.at_most_two)

  -- row i stands in this word, at this place
  pub word_in : (i : ℕ) → i < 32 → i / rows_a_word kind < row_count kind
  word_in i inside = (div-lt_iff_lt-mul {k = rows_a_word kind} {x = i} {y = row_count kind} (omega (arith, near.several))).1 (subst (λ n. i < n) near.all inside)

  place_in : (i : ℕ) → i % rows_a_word kind < rows_a_word kind
  place_in i = mod-lt i (omega (arith, near.several))

  module _ (rows : List ℕ) (small : (i : ℕ) → get_or rows i 0 < 2 ^ 32) where
    abbrev lanes : List ℕ
    lanes = row_lanes (32 - row_bits kind) rows

    pub lanes_small : Each1 (λ x. x < 2 ^ row_bits kind) lanes
    lanes_small = Each1-from_get_or (λ x. x < 2 ^ row_bits kind) lanes 0
        (λ i h. subst (λ x. x < 2 ^ row_bits kind) (sym (row_lane_is (32 - row_bits kind) rows i (omega (arith, h, rows_long (32 - row_bits kind) rows)))) (high_small (row_bits kind) (row_at rows i) narrower (row_at-lt rows i small)))

    pub lane_of_row : (i : ℕ) → i < 32 → get_or (lane_words (row_bits kind) (row_count kind) lanes) (i / rows_a_word kind) 0 / 2 ^ (row_bits kind * (i % rows_a_word kind)) % 2 ^ row_bits kind ≡ row_at rows i / 2 ^ (32 - row_bits kind)
    lane_of_row i inside =
        ap (λ b. get_or (lane_words (row_bits kind) (row_count kind) lanes) (i / rows_a_word kind) 0 / b % 2 ^ row_bits kind) (sym (powers (row_bits kind) (i % rows_a_word kind)))
        ∙ (lane_at (row_bits kind) (rows_a_word kind) (row_count kind) 32 near.base lanes (rows_long (32 - row_bits kind) rows) lanes_small near.rows_whole
        (i / rows_a_word kind) (i % rows_a_word kind) i near.word_whole (place_in i) (div-add-mod i (rows_a_word kind)) inside ∙ row_lane_is (32 - row_bits kind) rows i inside)

-- ---- the lanes of columns: the last ones stand in the words
module _ (kind : HeadKind) (near : IsNearKind kind) (lanes : List ℕ) (long : length lanes ≡ 16) (small : (i : ℕ) → i < 16 → get_or lanes i 0 < 2 ^ 8) where
  abbrev first : ℕ
  first = 16 - 8 * index_words kind

  abbrev words : List ℕ
  words = last_lanes kind lanes

  behind_small : Each1 (λ x. x < 2 ^ 8) (drop first lanes)
  behind_small = Each1-from_get_or (λ x. x < 2 ^ 8) (drop first lanes) 0 (λ i h. subst (λ x. x < 2 ^ 8) (sym (get_or-drop first lanes i 0)) (small (first + i) (omega (arith, h, length-drop first lanes, long))))

  lane_in : (q r : ℕ) → q < index_words kind → r < 8 → get_or words q 0 / 2 ^ (8 * r) % 2 ^ 8 ≡ get_or lanes (first + (8 * q + r)) 0
  lane_in q r few low =
      ap (λ b. get_or words q 0 / b % 2 ^ 8) (sym (powers 8 r))
      ∙ (lane_at 8 8 (index_words kind) (8 * index_words kind) base_8 (drop first lanes) (omega (arith, length-drop first lanes, long, near.at_most_two)) behind_small near.lanes_whole q r (8 * q + r) refl low refl (omega (arith, low, few))
      ∙ get_or-drop first lanes (8 * q + r) 0)

  -- column j has lane 15 - j
  pub lane_of_column : (j value : ℕ) → j < 8 * index_words kind → get_or lanes (15 - j) 0 ≡ value → get_or (last_lanes kind lanes) (index_words kind - 1 - j / 8) 0 / 2 ^ (8 * (7 - j % 8)) % 2 ^ 8 ≡ value
  lane_of_column j value low is =
      lane_in (index_words kind - 1 - j / 8) (7 - j % 8) (omega (arith, low)) (omega arith) ∙ (ap (λ i. get_or lanes i 0) (let e : first + (8 * (index_words kind - 1 - j / 8) + (7 - j % 8)) ≡ 15 - j = omega (arith, low, near.at_most_two) in e) ∙ is)
