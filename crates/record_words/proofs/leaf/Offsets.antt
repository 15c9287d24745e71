-- Lists of words by their offsets, which begin with 1.
use Rattle.record_words.proofs.Common.{ℕ, ◌≡◌, ◌+◌, ◌<◌, arith, List, get_or, length, map, sym, ap, ◌∙◌, range_with_len, ext_get_or, length-map-range_with_len, get_or-map-range_with_len}

-- the words are these
pub words_by_offset : (word_at : ℕ → ℕ) (words : List ℕ) (n : ℕ) → length words ≡ n → ((i : ℕ) → i < n → get_or words i 0 ≡ word_at (1 + i)) → words ≡ map word_at (range_with_len 1 n)
words_by_offset word_at words n same_length same =
    ext_get_or 0 words _ (same_length ∙ sym (length-map-range_with_len word_at 1 n))
    (λ i h. same i (omega arith) ∙ sym (get_or-map-range_with_len word_at 1 n i (1 + i) 0 (omega arith) (omega arith)))

-- the word at an offset
pub word_by_offset : (word_at : ℕ → ℕ) (words : List ℕ) (n i : ℕ) → words ≡ map word_at (range_with_len 1 n) → i < n → get_or words i 0 ≡ word_at (1 + i)
word_by_offset word_at words n i same small = ap (λ ws. get_or ws i 0) same ∙ get_or-map-range_with_len word_at 1 n i (1 + i) 0 small (omega arith)
