-- A leaf against its words.
use Rattle.record_words.proofs.Common.{ℕ, ◌≡◌, ◌+◌, ◌-◌, ◌*◌, ◌<◌, ◌≤◌, arith, List, ◌/◌, ◌%◌, get_or, length, take, drop, sym, ap, ◌∙◌, ⊎_elim, refl, lit<, length-take, get_or-take, cases_lt, All-get_or, ext_get_or, get_or_past, length-take-le, nat_tests, length-map-range_with_len, HoldsKey, with_zeros}
use Rattle.std.proofs.Common.{get_or-drop}
use Rattle.std.specs.Prelude.{All}
use Rattle.record_words.specs.Leaf.{key_word, leaf_word, leaf_words, HasLeafWords, IsBytesOf}
use Rattle.key_bits.proofs.Holding.{holds, length-with_zeros}
use Rattle.record_words.proofs.Lawful.{get_or-padded}
use Rattle.record_words.proofs.Bytes.{same_key_bytes}
use Rattle.record_words.proofs.leaf.Offsets.{words_by_offset, word_by_offset}

-- the three parts of a leaf's words
pub record IsLeafOf (leaf : List ℕ × ℕ) (words : List ℕ) : Type 0 where
  pub count : length words ≡ 32
  pub value : get_or words 0 0 ≡ leaf.1
  pub size : get_or words 1 0 ≡ length leaf.0
  pub bytes : (j : ℕ) → j < 30 → get_or words (2 + j) 0 ≡ key_word leaf.0 j

pub leaf_words_made : (leaf : List ℕ × ℕ) (words : List ℕ) → IsLeafOf leaf words → words ≡ leaf_words leaf
unfolding leaf_words
leaf_words_made leaf words parts = words_by_offset (leaf_word leaf) words 32 parts.count (λ i small. grind (arith, nat_tests, parts.value, parts.size, parts.bytes (i - 2)))

pub leaf_words_parts : (leaf : List ℕ × ℕ) (words : List ℕ) → words ≡ leaf_words leaf → IsLeafOf leaf words
unfolding leaf_words
leaf_words_parts leaf words same = record {
  count = ap length same ∙ length-map-range_with_len (leaf_word leaf) 1 32;
  value = word_by_offset (leaf_word leaf) words 32 0 same (lit< tt);
  size = word_by_offset (leaf_word leaf) words 32 1 same (lit< tt);
  bytes = λ j small. word_by_offset (leaf_word leaf) words 32 (2 + j) same (omega arith) ∙ grind (arith, nat_tests);
}

pub byte-lt : (key : List ℕ) → All (λ byte. byte < 256) key → (i : ℕ) → get_or key i 0 < 256
byte-lt key bytes i =
    ⊎_elim (λ (inside : i < length key). All-get_or (λ byte. byte < 256) key i 0 inside bytes) (λ (past : length key ≤ i). rw (get_or_past key i 0 past) (lit< tt)) (cases_lt i (length key))

-- the words decide the bytes
same_bytes : (xs ys : List ℕ) → ((i : ℕ) → get_or xs i 0 < 256) → ((i : ℕ) → get_or ys i 0 < 256) → ((j : ℕ) → j < 30 → key_word xs j ≡ key_word ys j) → (i : ℕ) → i < 240 → get_or xs i 0 ≡ get_or ys i 0
same_bytes xs ys small_xs small_ys same i inside =
    let at : 8 * (i / 8) + i % 8 ≡ i = omega arith in
    let this = same_key_bytes xs ys (i / 8) (i / 8) small_xs small_ys (same (i / 8) (omega arith)) (i % 8) (omega arith) in
    rw at at this

pub key_part : (words : List ℕ) (j : ℕ) → j < 30 → get_or (take 30 (drop 2 words)) j 0 ≡ get_or words (2 + j) 0
key_part words j small = get_or-take 30 (drop 2 words) j 0 small ∙ get_or-drop 2 words j 0

-- the bytes of a leaf's words are those of the key, and then 0
pub bytes_of_leaf : (bytes words : List ℕ) (leaf : List ℕ × ℕ) → IsBytesOf bytes (take 30 (drop 2 words)) → ((i : ℕ) → get_or bytes i 0 < 256) → HasLeafWords leaf → words ≡ leaf_words leaf → (i : ℕ) → get_or bytes i 0 ≡ get_or leaf.0 i 0
bytes_of_leaf bytes words leaf of small has same i =
    ⊎_elim
    (λ (inside : i < 240). same_bytes bytes leaf.0 small (byte-lt leaf.0 has.key.are_bytes)
    (λ j few. of.words_are j few ∙ (key_part words j few ∙ (leaf_words_parts leaf words same).bytes j few)) i inside)
    (λ (past : 240 ≤ i). get_or_past bytes i 0 (omega (arith, of.count)) ∙ sym (get_or_past leaf.0 i 0 (omega (arith, has.key.short))))
    (cases_lt i 240)

pub key_of_bytes : (bytes words : List ℕ) (leaf : List ℕ × ℕ) (n : ℕ) → IsBytesOf bytes (take 30 (drop 2 words)) → ((i : ℕ) → get_or bytes i 0 < 256) → HasLeafWords leaf → words ≡ leaf_words leaf → n ≡ get_or words 1 0 → take n bytes ≡ leaf.0
key_of_bytes bytes words leaf n of small has same is =
    let n_is : n ≡ length leaf.0 = is ∙ (leaf_words_parts leaf words same).size in
    ext_get_or 0 (take n bytes) leaf.0 (length-take-le n bytes (omega (arith, of.count, has.key.short)) ∙ n_is)
    (λ i h. get_or-take n bytes i 0 (omega (arith, length-take n bytes)) ∙ bytes_of_leaf bytes words leaf of small has same i)

-- the bytes are the places of the key
pub places_of_leaf : (bytes words : List ℕ) (leaf : List ℕ × ℕ) (n : ℕ) → IsBytesOf bytes (take 30 (drop 2 words)) → ((i : ℕ) → get_or bytes i 0 < 256) → HasLeafWords leaf → words ≡ leaf_words leaf → n ≡ get_or words 1 0 → HoldsKey bytes n
places_of_leaf bytes words leaf n of small has same is =
    let counted : n ≡ length leaf.0 = is ∙ (leaf_words_parts leaf words same).size in
    rw counted (holds leaf.0 bytes has.key (ext_get_or 0 bytes (with_zeros leaf.0) (of.count ∙ sym (length-with_zeros leaf.0 has.key.short))
    (λ i inside. bytes_of_leaf bytes words leaf of small has same i ∙ sym (get_or-padded leaf.0 (240 - length leaf.0) 0 i))))

pub same_pair : (key other : List ℕ) (value held : ℕ) → key ≡ other → value ≡ held → ◌≡◌ {A = List ℕ × ℕ} (key, value) (other, held)
same_pair key other value held keys values = rw (keys, values)

-- no two leaves have the same words
pub same_leaf : (a b : List ℕ × ℕ) → HasLeafWords a → HasLeafWords b → leaf_words a ≡ leaf_words b → a ≡ b
same_leaf a b has_a has_b same =
    let of_a : IsLeafOf a (leaf_words a) = leaf_words_parts a (leaf_words a) refl in
    let of_b : IsLeafOf b (leaf_words a) = leaf_words_parts b (leaf_words a) same in
    let keys : a.0 ≡ b.0 = ext_get_or 0 a.0 b.0 (sym of_a.size ∙ of_b.size)
    (λ i inside. same_bytes a.0 b.0 (byte-lt a.0 has_a.key.are_bytes) (byte-lt b.0 has_b.key.are_bytes) (λ j few. sym (of_a.bytes j few) ∙ of_b.bytes j few) i (omega (arith, has_a.key.short))) in
    same_pair a.0 b.0 a.1 b.1 keys (sym of_a.value ∙ of_b.value)
