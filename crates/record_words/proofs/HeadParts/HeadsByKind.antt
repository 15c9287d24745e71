-- The parts of a head's words, by its kind.
use Rattle.record_words.proofs.Common.{ℕ, zero, suc, ◌≡◌, ◌≢◌, ◌+◌, ◌-◌, ◌*◌, ◌/◌, ◌%◌, ◌^◌, ◌<◌, ◌≤◌, ◌++◌, ⊎_elim, List, ◌∷◌, arith, get_or, length, length-append, drop, take, replicate, refl, sym, ap, ap₂, subst, ◌∙◌, cases_lt, le-ltb, lt-ltb, append_assoc, drop_at, length-replicate, take_at, length-map-range_with_len}
use lib.Lanes.{chunk, digits_l, number_l}
use Rattle.record_words.specs.Kinds.{first_byte, head_size, index_lanes, kind_in, kind_of, kind_part, lane_words, mask_index, mask_lanes, position_index, rows_a_word, rows_from}
use Rattle.record_words.specs.Packed.{column_words, fixed_words, kind_words, meta_word, position_word, row_lanes, row_word, row_words}
use Rattle.record_words.specs.declared.kind.HeadKind.{HeadKind}
use Rattle.record_words.specs.declared.kind.HeadKind.TheVariants.{Middle, Narrow, Wide}
use Rattle.record_words.proofs.OfKinds.{OfKind, of_kind, is_wide, is_narrow, is_middle}

-- ---- how many words there are
length-digits : (p n x : ℕ) → length (digits_l p n x) ≡ n
length-digits p zero x = refl
length-digits p (suc n) x = ap suc (length-digits p n (x / p))

pub length-lane_words : (w n : ℕ) (lanes : List ℕ) → length (lane_words w n lanes) ≡ n
unfolding lane_words
length-lane_words w n lanes = length-digits (2 ^ 64) n (number_l (2 ^ w) lanes)

two_parts : (n : ℕ) (xs ys : List ℕ) → length (lane_words 8 n xs ++ lane_words 8 n ys) ≡ n + n
two_parts n xs ys = length-append (lane_words 8 n xs) (lane_words 8 n ys) ∙ ap₂ (λ a b. a + b) (length-lane_words 8 n xs) (length-lane_words 8 n ys)

pub length-column_words : (kind : HeadKind) (columns : List ℕ) → 1 + length (column_words kind columns) ≡ rows_from kind
length-column_words Wide columns = ap suc (length-map-range_with_len (position_word columns) 0 8)
length-column_words Narrow columns = ap (λ n. 1 + n) (two_parts 1 (drop 8 (index_lanes columns)) (drop 8 (mask_lanes columns)))
length-column_words Middle columns = ap (λ n. 1 + n) (two_parts 2 (index_lanes columns) (mask_lanes columns))

pub length-row_words : (kind : HeadKind) (rows : List ℕ) → rows_from kind + length (row_words kind rows) ≡ head_size kind
length-row_words Wide rows = ap (λ n. 9 + n) (length-map-range_with_len (row_word rows) 0 16)
length-row_words Narrow rows = ap (λ n. 3 + n) (length-lane_words 8 4 (row_lanes 24 rows))
length-row_words Middle rows = ap (λ n. 5 + n) (length-lane_words 16 8 (row_lanes 16 rows))

-- ---- the parts
pub record HasParts (kind : HeadKind) (count height : ℕ) (columns rows words : List ℕ) : Type 0 where
  pub whole : length words ≡ 25
  pub numbers : get_or words 0 0 ≡ meta_word count (length columns) height + kind_part kind columns
  pub columns_are : chunk 1 (rows_from kind - 1) words ≡ column_words kind columns
  pub rows_are : chunk (rows_from kind) (head_size kind - rows_from kind) words ≡ row_words kind rows
  pub rest : drop (head_size kind) words ≡ replicate (25 - head_size kind) (2 ^ 64 - 1)

most : (kind : HeadKind) → head_size kind ≤ 25
most Wide = omega arith
most Narrow = omega arith
most Middle = omega arith

pub parts_of_kind : (kind : HeadKind) (count height : ℕ) (columns rows : List ℕ) → HasParts kind count height columns rows (kind_words kind count height columns rows)
parts_of_kind kind count height columns rows =
    let n : ℕ = meta_word count (length columns) height + kind_part kind columns in
    let cs : List ℕ = column_words kind columns in
    let rs : List ℕ = row_words kind rows in
    let us : List ℕ = replicate (25 - head_size kind) (2 ^ 64 - 1) in
    let long : 1 + length cs ≡ rows_from kind = length-column_words kind columns in
    let longer : rows_from kind + length rs ≡ head_size kind = length-row_words kind rows in
    let behind : drop (rows_from kind) (n ∷ (cs ++ (rs ++ us))) ≡ rs ++ us = drop_at (n ∷ cs) (rs ++ us) (rows_from kind) (omega (arith, long)) in
    record {
      whole = omega (arith, length-append cs (rs ++ us), length-append rs us, long, longer, length-replicate {A = ℕ} (25 - head_size kind) (2 ^ 64 - 1), most kind);
      numbers = refl;
      columns_are = take_at cs (rs ++ us) (rows_from kind - 1) (omega (arith, long));
      rows_are = ap (take (head_size kind - rows_from kind)) behind ∙ take_at rs us (head_size kind - rows_from kind) (omega (arith, longer));
      rest = ap (λ ws. drop (head_size kind) (n ∷ ws)) (sym (append_assoc cs rs us)) ∙ drop_at (n ∷ (cs ++ rs)) us (head_size kind) (omega (arith, length-append cs rs, long, longer));
    }

pub head_parts : (count height : ℕ) (columns rows words : List ℕ) → fixed_words count height columns rows ≡ words → HasParts (kind_of columns) count height columns rows words
unfolding fixed_words
head_parts count height columns rows words same = subst (HasParts (kind_of columns) count height columns rows) same (parts_of_kind (kind_of columns) count height columns rows)

-- ---- where the words stand that have a column and a row
pub position_inside : (kind : HeadKind) (j : ℕ) → j < 31 → position_index kind j < 23
position_inside Wide j low = omega arith
position_inside Narrow j low = omega arith
position_inside Middle j low = ⊎_elim (λ (few : j < 8). rw (lt-ltb j 8 few) (omega arith)) (λ (many : 8 ≤ j). rw (le-ltb j 8 many) (omega arith)) (cases_lt j 8)

pub position_within : (kind : HeadKind) (j : ℕ) → j < 31 → position_index kind j < 25
position_within kind j low = omega (arith, position_inside kind j low)

pub mask_within : (kind : HeadKind) (j : ℕ) → j < 31 → mask_index kind j < 25
mask_within Wide j low = position_within Wide j low
mask_within Narrow j low = omega (arith, position_inside Narrow j low)
mask_within Middle j low = omega (arith, position_inside Middle j low)

pub row_within : (kind : HeadKind) (i : ℕ) → i < 32 → rows_from kind + i / rows_a_word kind < 25
row_within Wide i low = omega arith
row_within Narrow i low = omega arith
row_within Middle i low = omega arith

-- ---- what the first word tells
pub record Tells (count height : ℕ) (columns : List ℕ) (word : ℕ) : Type 0 where
  pub counted : word % 256 ≡ count
  pub columns_counted : word / 256 % 256 ≡ length columns
  pub height_told : word / 65536 % 65536 ≡ height
  pub kind_told : kind_in word ≡ kind_of columns
  pub first_told : kind_of columns ≢ Wide → word / 2 ^ 32 % 2 ^ 8 ≡ first_byte columns

first_word : (count height : ℕ) (columns : List ℕ) (word : ℕ) → count < 256 → length columns < 256 → height < 65536 → word ≡ meta_word count (length columns) height + kind_part (kind_of columns) columns →
    OfKind columns → Tells count height columns word
first_word count height columns word few low tall is (is_wide e) =
    let at : word ≡ meta_word count (length columns) height = is ∙ (ap (λ k. meta_word count (length columns) height + kind_part k columns) e ∙ omega arith) in
    let top : word / 2 ^ 40 ≡ 0 = omega (arith, at, few, low, tall) in record {
      counted = omega (arith, at, few, low, tall);
      columns_counted = omega (arith, at, few, low, tall);
      height_told = omega (arith, at, few, low, tall);
      kind_told = rw (top, e) refl;
      first_told = λ other. absurd (other e);
    }
first_word count height columns word few low tall is (is_narrow e near) =
    let at : word ≡ meta_word count (length columns) height + (2 ^ 40 + 2 ^ 32 * first_byte columns) = is ∙ ap (λ k. meta_word count (length columns) height + kind_part k columns) e in
    let top : word / 2 ^ 40 ≡ 1 = omega (arith, at, few, low, tall, near.within) in record {
      counted = omega (arith, at, few, low, tall);
      columns_counted = omega (arith, at, few, low, tall);
      height_told = omega (arith, at, few, low, tall);
      kind_told = rw (top, e) refl;
      first_told = λ other. omega (arith, at, few, low, tall, near.within);
    }
first_word count height columns word few low tall is (is_middle e near) =
    let at : word ≡ meta_word count (length columns) height + (2 ^ 41 + 2 ^ 32 * first_byte columns) = is ∙ ap (λ k. meta_word count (length columns) height + kind_part k columns) e in
    let top : word / 2 ^ 40 ≡ 2 = omega (arith, at, few, low, tall, near.within) in record {
      counted = omega (arith, at, few, low, tall);
      columns_counted = omega (arith, at, few, low, tall);
      height_told = omega (arith, at, few, low, tall);
      kind_told = rw (top, e) refl;
      first_told = λ other. omega (arith, at, few, low, tall, near.within);
    }

pub first_tells : (count height : ℕ) (columns : List ℕ) (word : ℕ) → count < 256 → length columns < 256 → height < 65536 → word ≡ meta_word count (length columns) height + kind_part (kind_of columns) columns → Tells count height columns word
first_tells count height columns word few low tall is = first_word count height columns word few low tall is (of_kind columns)
