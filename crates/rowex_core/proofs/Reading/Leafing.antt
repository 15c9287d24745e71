-- The words of a leaf are read as that leaf, whatever stands behind its key.
use Rattle.rowex_core.proofs.Common.{◌≡◌, ℕ, ◌+◌, ◌*◌, ◌/◌, ◌%◌, ◌^◌, ◌<◌, ◌≤◌, List, length, take, drop, get_or, sym, ap, ◌∙◌, ⊎_elim, arith, lit<, get_or-take, get_or-drop, ext_get_or, length-take-le, get_or-map-range_with_len, length-map-range_with_len, HasLeafWords, key_word, leaf_words, up_to_key, IsLeafOf, leaf_words_parts, byte-lt, up_to_key_before, up_to_key_size, up_to_key_value, bytes_in}
use Rattle.std.specs.Int.{from_be_bytes, to_be_bytes, w64}
use Rattle.record_words.proofs.Bytes.{key_word-bytes, same_key_bytes, small_byte}
use Rattle.rowex_core.specs.Reading.{leaf_of}

-- ---- a word of a key, and its bytes

eight_bytes : (a b c d e f g h : ℕ) → a < 256 → b < 256 → c < 256 → d < 256 → e < 256 → f < 256 → g < 256 → h < 256 →
    a * 256 ^ 7 + b * 256 ^ 6 + c * 256 ^ 5 + d * 256 ^ 4 + e * 256 ^ 3 + f * 256 ^ 2 + g * 256 ^ 1 + h < 2 ^ 64
eight_bytes a b c d e f g h ha hb hc hd he hf hg hh = omega arith

bytes_small : (xs : List ℕ) → ((i : ℕ) → get_or xs i 0 < 256) → from_be_bytes w64 xs < 2 ^ 64
bytes_small xs s = eight_bytes (get_or xs 0 0) (get_or xs 1 0) (get_or xs 2 0) (get_or xs 3 0) (get_or xs 4 0) (get_or xs 5 0) (get_or xs 6 0) (get_or xs 7 0) (s 0) (s 1) (s 2) (s 3) (s 4) (s 5) (s 6) (s 7)

key_word_small : (key : List ℕ) (j : ℕ) → ((i : ℕ) → get_or key i 0 < 256) → key_word key j < 2 ^ 64
unfolding key_word
key_word_small key j small = bytes_small (drop (8 * j) key) (λ i. rw (get_or-drop (8 * j) key i 0) (small (8 * j + i)))

byte_of_key : (key : List ℕ) → ((i : ℕ) → get_or key i 0 < 256) → (i : ℕ) → get_or (to_be_bytes w64 (key_word key (i / 8))) (i % 8) 0 ≡ get_or key i 0
byte_of_key key small i =
    let word = key_word key (i / 8) in
    let at : 8 * (i / 8) + i % 8 ≡ i = omega arith in
    let first : 8 * 0 + i % 8 ≡ i % 8 = omega arith in
    let same = key_word-bytes (to_be_bytes w64 word) 0 word (key_word_small key (i / 8) small) (λ k few. ap (λ n. get_or (to_be_bytes w64 word) n 0) (let e : 8 * 0 + k ≡ k = omega arith in e)) in
    rw (at, first) at (same_key_bytes (to_be_bytes w64 word) key 0 (i / 8) (small_byte word) small same (i % 8) (omega arith))

-- ---- the leaf of a record's words

-- the length of a leaf's key is its second word
pub leaf_size_is : (pair : List ℕ × ℕ) (words : List ℕ) → leaf_words pair ≡ up_to_key words → get_or words 1 0 ≡ length pair.0
leaf_size_is pair words same = sym (up_to_key_size words) ∙ (leaf_words_parts pair (up_to_key words) (sym same)).size

module _ (pair : List ℕ × ℕ) (words : List ℕ) (has : HasLeafWords pair) (same : leaf_words pair ≡ up_to_key words) where
  parts : IsLeafOf pair (up_to_key words)
  parts = leaf_words_parts pair (up_to_key words) (sym same)

  size : get_or words 1 0 ≡ length pair.0
  size = leaf_size_is pair words same

  word_is : (i : ℕ) → i < length pair.0 → get_or (drop 2 words) (i / 8) 0 ≡ key_word pair.0 (i / 8)
  word_is i low =
      get_or-drop 2 words (i / 8) 0 ∙ (sym (up_to_key_before words (2 + i / 8) (omega (arith, low, size)) (omega (arith, low, has.key.short))) ∙ parts.bytes (i / 8) (omega (arith, low, has.key.short)))

  byte_is : (i : ℕ) → i < length pair.0 → get_or (bytes_in (drop 2 words)) i 0 ≡ get_or pair.0 i 0
  byte_is i low =
      get_or-map-range_with_len (λ i. get_or (to_be_bytes w64 (get_or (drop 2 words) (i / 8) 0)) (i % 8) 0) 0 240 i i 0 (omega (arith, low, has.key.short)) (let e : 0 + i ≡ i = omega arith in e) ∙
      (ap (λ w. get_or (to_be_bytes w64 w) (i % 8) 0) (word_is i low) ∙ byte_of_key pair.0 (byte-lt pair.0 has.key.are_bytes) i)

  long : length (take (get_or words 1 0) (bytes_in (drop 2 words))) ≡ get_or words 1 0
  long =
      let all = length-map-range_with_len (λ i. get_or (to_be_bytes w64 (get_or (drop 2 words) (i / 8) 0)) (i % 8) 0) 0 240 in
      length-take-le (get_or words 1 0) (bytes_in (drop 2 words)) (omega (arith, all, size, has.key.short))

  key_is : take (get_or words 1 0) (bytes_in (drop 2 words)) ≡ pair.0
  key_is = ext_get_or 0 (take (get_or words 1 0) (bytes_in (drop 2 words))) pair.0 (long ∙ size)
      (λ i inside. let low : i < get_or words 1 0 = omega (arith, inside, long) in
      get_or-take (get_or words 1 0) (bytes_in (drop 2 words)) i 0 low ∙ byte_is i (omega (arith, low, size)))

  value_is : get_or words 0 0 ≡ pair.1
  value_is = sym (up_to_key_value words) ∙ parts.value

  pub leaf_is : leaf_of words ≡ record { key = pair.0; value = pair.1 }
  unfolding leaf_of
  leaf_is = rw (key_is, value_is)
