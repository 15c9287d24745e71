-- The parts of the fixed words of a wide head, and what does not depend on its kind.
use Rattle.record_words.proofs.Common.{ℕ, ◌≡◌, ◌+◌, ◌/◌, ◌^◌, ◌<◌, ◌≤◌, arith, List, get_or, length, map, ap, sym, refl, subst, ◌∙◌, range_with_len, ext_get_or, get_or-map-range_with_len, length-map-range_with_len, get_or-chunk}
use Rattle.record_words.specs.Kinds.{kind_of, lane_words}
use Rattle.record_words.specs.Packed.{fixed_words, meta_word, position_word, row_at, row_word, row_words}
use Rattle.record_words.specs.declared.kind.HeadKind.{HeadKind}
use Rattle.record_words.specs.declared.kind.HeadKind.TheVariants.{Middle, Narrow, Wide}
use Rattle.record_words.proofs.HeadParts.HeadsByKind.{HasParts, head_parts}
use Rattle.record_words.proofs.Packed.{same_positions, same_rows, row_word-same}

-- the parts of the fixed words of a wide head
pub record AreFixed (count height : ℕ) (columns rows words : List ℕ) : Type 0 where
  pub whole : length words ≡ 25
  pub numbers : get_or words 0 0 ≡ meta_word count (length columns) height
  pub positions : (j : ℕ) → j < 8 → position_word columns j ≡ get_or words (1 + j) 0
  pub rows_are : (j : ℕ) → j < 16 → row_word rows j ≡ get_or words (9 + j) 0

pub fixed_words_parts : (count height : ℕ) (columns rows words : List ℕ) → kind_of columns ≡ Wide → fixed_words count height columns rows ≡ words → AreFixed count height columns rows words
fixed_words_parts count height columns rows words wide same =
    let parts : HasParts Wide count height columns rows words = subst (λ kind. HasParts kind count height columns rows words) wide (head_parts count height columns rows words same) in record {
      whole = parts.whole;
      numbers = parts.numbers ∙ omega arith;
      positions = λ j small. sym (get_or-map-range_with_len (position_word columns) 0 8 j j 0 small (omega arith)) ∙ (ap (λ ws. get_or ws j 0) (sym parts.columns_are) ∙ get_or-chunk 1 8 words j 0 small);
      rows_are = λ j small. sym (get_or-map-range_with_len (row_word rows) 0 16 j j 0 small (omega arith)) ∙ (ap (λ ws. get_or ws j 0) (sym parts.rows_are) ∙ get_or-chunk 9 16 words j 0 small);
    }

-- lists that are computed from places, and agree at each
same_at_places : (f g : ℕ → ℕ) (n : ℕ) → ((i : ℕ) → f i ≡ g i) → map f (range_with_len 0 n) ≡ map g (range_with_len 0 n)
same_at_places f g n same =
    let long = length-map-range_with_len f 0 n in
    ext_get_or 0 (map f (range_with_len 0 n)) (map g (range_with_len 0 n)) (long ∙ sym (length-map-range_with_len g 0 n))
    (λ i h. let low : i < n = omega (arith, h, long) in get_or-map-range_with_len f 0 n i i 0 low (omega arith) ∙ (same i ∙ sym (get_or-map-range_with_len g 0 n i i 0 low (omega arith))))

-- rows that are the same at each place have the same words
pub row_words-same : (kind : HeadKind) (rows sparse : List ℕ) → ((i : ℕ) → row_at rows i ≡ row_at sparse i) → row_words kind rows ≡ row_words kind sparse
row_words-same Wide rows sparse same = same_at_places (row_word rows) (row_word sparse) 16 (λ j. row_word-same rows sparse j same)
row_words-same Narrow rows sparse same = ap (lane_words 8 4) (same_at_places (λ i. row_at rows i / 2 ^ 24) (λ i. row_at sparse i / 2 ^ 24) 32 (λ i. ap (λ r. r / 2 ^ 24) (same i)))
row_words-same Middle rows sparse same = ap (lane_words 16 8) (same_at_places (λ i. row_at rows i / 2 ^ 16) (λ i. row_at sparse i / 2 ^ 16) 32 (λ i. ap (λ r. r / 2 ^ 16) (same i)))

pub fixed_words-same : (count height : ℕ) (columns rows sparse : List ℕ) → ((i : ℕ) → row_at rows i ≡ row_at sparse i) → fixed_words count height columns rows ≡ fixed_words count height columns sparse
unfolding fixed_words
fixed_words-same count height columns rows sparse same = rw (row_words-same (kind_of columns) rows sparse same) refl

-- the positions, and the sparse partial keys, are decided by their words where it is known how many they are
pub columns_same : (columns wide words : List ℕ) → ((j : ℕ) → j < 8 → position_word columns j ≡ get_or words (1 + j) 0) → ((j : ℕ) → j < 8 → position_word wide j ≡ get_or words (1 + j) 0) → length columns ≤ 31 → length columns ≡ length wide →
    ((i : ℕ) → get_or columns i 0 < 2 ^ 16) → ((i : ℕ) → get_or wide i 0 < 2 ^ 16) → columns ≡ wide
columns_same columns wide words of_columns of_wide few counted small_columns small_wide =
    ext_get_or 65535 columns wide counted (λ i h. same_positions columns wide small_columns small_wide (λ j small. of_columns j small ∙ sym (of_wide j small)) i (omega (arith, few)))

pub rows_same : (rows sparse words : List ℕ) → ((j : ℕ) → j < 16 → row_word rows j ≡ get_or words (9 + j) 0) → ((j : ℕ) → j < 16 → row_word sparse j ≡ get_or words (9 + j) 0) → length rows ≤ 32 → length rows ≡ length sparse →
    ((i : ℕ) → get_or rows i 0 < 2 ^ 32) → ((i : ℕ) → get_or sparse i 0 < 2 ^ 32) → rows ≡ sparse
rows_same rows sparse words of_rows of_sparse room counted small_rows small_sparse =
    ext_get_or 4294967295 rows sparse counted (λ i h. same_rows rows sparse small_rows small_sparse (λ j small. of_rows j small ∙ sym (of_sparse j small)) i (omega (arith, room)))
