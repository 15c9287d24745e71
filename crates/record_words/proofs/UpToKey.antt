-- The words of a leaf record up to the end of its key.
use Rattle.record_words.proofs.Common.{ℕ, ◌≡◌, ◌+◌, ◌<◌, ◌≤◌, arith, List, get_or, length, ⊎_elim, if◌then◌else◌, sym, ap, ◌∙◌, lit<, cases_lt, lt-ltb, le-ltb, get_or_past, get_or-map-range_with_len, length-map-range_with_len}
use Rattle.std.specs.Prelude.{nat_lt}
use Rattle.record_words.specs.declared.TheConstants.{LEAF_FIELDS}
use Rattle.record_words.specs.Leaf.{key_word, leaf_words, up_to_key, words_of_key}
use Rattle.record_words.proofs.Leaves.{leaf_words_made}
use Rattle.record_words.proofs.Unused.{key_word_past}

module _ (words : List ℕ) where
  -- where the words of its key end
  abbrev end : ℕ
  end = 2 + words_of_key (get_or words 1 0)

  abbrev word : ℕ → ℕ
  word i = if nat_lt i end then get_or words i 0 else 0

  word_at : (i : ℕ) → i < LEAF_FIELDS → get_or (up_to_key words) i 0 ≡ word i
  unfolding up_to_key
  word_at i low = get_or-map-range_with_len word 0 LEAF_FIELDS i i 0 low (omega arith)

  pub up_to_key_long : length (up_to_key words) ≡ LEAF_FIELDS
  unfolding up_to_key
  up_to_key_long = length-map-range_with_len word 0 LEAF_FIELDS

  -- before the end the words are those of the record
  pub up_to_key_before : (i : ℕ) → i < end → i < LEAF_FIELDS → get_or (up_to_key words) i 0 ≡ get_or words i 0
  up_to_key_before i before low = word_at i low ∙ ap (λ b. if b then get_or words i 0 else 0) (lt-ltb i end before)

  -- and from there on 0
  pub up_to_key_past : (i : ℕ) → end ≤ i → get_or (up_to_key words) i 0 ≡ 0
  up_to_key_past i past = ⊎_elim
      (λ (low : i < LEAF_FIELDS). word_at i low ∙ ap (λ b. if b then get_or words i 0 else 0) (le-ltb i end past))
      (λ (high : LEAF_FIELDS ≤ i). get_or_past (up_to_key words) i 0 (omega (arith, high, up_to_key_long)))
      (cases_lt i LEAF_FIELDS)

  pub up_to_key_value : get_or (up_to_key words) 0 0 ≡ get_or words 0 0
  up_to_key_value = up_to_key_before 0 (omega arith) (lit< tt)

  pub up_to_key_size : get_or (up_to_key words) 1 0 ≡ get_or words 1 0
  up_to_key_size = up_to_key_before 1 (omega arith) (lit< tt)

-- Words that have the three parts of a leaf, whatever stands behind its key, are those of the leaf up to there.
pub spells_up_to_key : (leaf : List ℕ × ℕ) (words : List ℕ) → get_or words 0 0 ≡ leaf.1 → get_or words 1 0 ≡ length leaf.0 →
    ((j : ℕ) → j < words_of_key (length leaf.0) → j < 30 → get_or words (2 + j) 0 ≡ key_word leaf.0 j) → leaf_words leaf ≡ up_to_key words
spells_up_to_key leaf words value size bytes = sym (leaf_words_made leaf (up_to_key words) record {
  count = up_to_key_long words;
  value = up_to_key_value words ∙ value;
  size = up_to_key_size words ∙ size;
  bytes = λ j few. ⊎_elim
      (λ (before : j < words_of_key (length leaf.0)). up_to_key_before words (2 + j) (omega (arith, before, size)) (omega (arith, few)) ∙ bytes j before few)
      (λ (past : words_of_key (length leaf.0) ≤ j). up_to_key_past words (2 + j) (omega (arith, past, size)) ∙ sym (key_word_past leaf.0 j (omega (arith, past))))
      (cases_lt j (words_of_key (length leaf.0)));
})
