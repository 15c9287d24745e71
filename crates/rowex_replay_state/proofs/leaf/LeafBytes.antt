-- A leaf against its words, some of which may be of no key.
use Rattle.rowex_replay_state.proofs.Common.{ℕ, ◌≡◌, ◌+◌, ◌-◌, ◌*◌, ◌<◌, ◌≤◌, arith, List, get_or, length, take, drop, sym, ap, ◌∙◌, ⊎_elim, refl, length-take, get_or-take, get_or-drop, EachIndex, cases_lt, get_or_past, length-take-le, leaf_words, HasLeafWords, IsBytesOf, bytes_of_leaf, key_part, leaf_words_made, leaf_words_parts}
use Rattle.record_words.proofs.Bytes.{same_key_word}

-- a front followed by zeros has the same elements
front_or_zero : (xs : List ℕ) (n i : ℕ) → ((k : ℕ) → get_or (drop n xs) k 0 ≡ 0) → get_or (take n xs) i 0 ≡ get_or xs i 0
front_or_zero xs n i rest =
    ⊎_elim (λ (before : i < n). get_or-take n xs i 0 before)
    (λ (after : n ≤ i).
    get_or_past (take n xs) i 0 (omega (arith, length-take n xs)) ∙ (sym (rest (i - n)) ∙ (get_or-drop n xs (i - n) 0 ∙ ap (λ k. get_or xs k 0) (omega arith))))
    (cases_lt i n)

each_zero : (xs : List ℕ) → EachIndex xs (λ i. get_or xs i 0 ≡ 0) → (i : ℕ) → get_or xs i 0 ≡ 0
each_zero xs zeros i = ⊎_elim (λ (inside : i < length xs). zeros i inside) (λ (past : length xs ≤ i). get_or_past xs i 0 past) (cases_lt i (length xs))

pub rest_of_bytes : (bytes words : List ℕ) (leaf : List ℕ × ℕ) (n : ℕ) → IsBytesOf bytes (take 30 (drop 2 words)) → ((i : ℕ) → get_or bytes i 0 < 256) → HasLeafWords leaf → words ≡ leaf_words leaf → n ≡ get_or words 1 0 → EachIndex (drop n bytes) (λ i. get_or (drop n bytes) i 0 ≡ 0)
rest_of_bytes bytes words leaf n of small has same is i inside =
    get_or-drop n bytes i 0 ∙ (bytes_of_leaf bytes words leaf of small has same (n + i)
    ∙ get_or_past leaf.0 (n + i) 0 (omega (arith, is, (leaf_words_parts leaf words same).size)))

-- where the other bytes are 0, the front of the bytes is a key of these words
pub leaf_of_bytes : (bytes words : List ℕ) (n : ℕ) → IsBytesOf bytes (take 30 (drop 2 words)) → ((i : ℕ) → get_or bytes i 0 < 256) → length words ≡ 32 → n ≡ get_or words 1 0 → n ≤ 240 → EachIndex (drop n bytes) (λ i. get_or (drop n bytes) i 0 ≡ 0) → leaf_words (take n bytes, get_or words 0 0) ≡ words
leaf_of_bytes bytes words n of small count is few rest =
    sym (leaf_words_made (take n bytes, get_or words 0 0) words record {
      count = count;
      value = refl;
      size = sym is ∙ sym (length-take-le n bytes (omega (arith, of.count)));
      bytes = λ j h. sym (of.words_are j h ∙ key_part words j h) ∙ same_key_word bytes (take n bytes) j j (λ i h. sym (front_or_zero bytes n (8 * j + i) (each_zero (drop n bytes) rest)));
    })
