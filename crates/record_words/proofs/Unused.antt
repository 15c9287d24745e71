-- The words of a leaf behind those that have something.
use Rattle.record_words.proofs.Common.{ℕ, ◌≡◌, ◌+◌, ◌-◌, ◌*◌, ◌<◌, ◌≤◌, arith, List, get_or, set, replicate, length, ⊎_elim, sym, ap, ◌∙◌, refl, [], cases_lt, get_or_past, get_or-replicate, length-replicate}
use Rattle.std.proofs.lemmas.List.{get_or-set_other, get_or-set_same, length-set}
use Rattle.record_words.specs.declared.TheConstants.{LEAF_FIELDS}
use Rattle.record_words.specs.Leaf.{key_word, leaf_words, words_of_key}
use Rattle.record_words.proofs.Bytes.{same_key_word}
use Rattle.record_words.proofs.Leaves.{leaf_words_parts}

-- each of a list of zeros is 0, and so is what stands past them
pub zero_in : (n i : ℕ) → get_or (replicate {A = ℕ} n 0) i 0 ≡ 0
zero_in n i = ⊎_elim (λ (inside : i < n). get_or-replicate {A = ℕ} n i 0 0 inside)
    (λ (past : n ≤ i). get_or_past (replicate n 0) i 0 (omega (arith, past, length-replicate {A = ℕ} n 0))) (cases_lt i n)

-- no bytes make the word 0
no_bytes : key_word [] 0 ≡ 0
unfolding key_word
no_bytes = refl

pub key_word_past : (key : List ℕ) (j : ℕ) → length key ≤ 8 * j → key_word key j ≡ 0
key_word_past key j past = same_key_word key [] j 0 (λ i small. get_or_past key (8 * j + i) 0 (omega (arith, past)) ∙ sym (get_or_past {X = ℕ} [] (8 * 0 + i) 0 (omega arith))) ∙ no_bytes

-- zeros have the word 0
pub zero_word : (n j : ℕ) → key_word (replicate n 0) j ≡ 0
zero_word n j = same_key_word (replicate n 0) [] j 0 (λ i small. zero_in n (8 * j + i) ∙ sym (get_or_past {X = ℕ} [] (8 * 0 + i) 0 (omega arith))) ∙ no_bytes

pub leaf_word_past : (leaf : List ℕ × ℕ) (i : ℕ) → 2 + words_of_key (length leaf.0) ≤ i → i < 32 → get_or (leaf_words leaf) i 0 ≡ 0
leaf_word_past leaf i past low =
    let j : ℕ = i - 2 in
    ap (λ n. get_or (leaf_words leaf) n 0) (let e : i ≡ 2 + j = omega (arith, past) in e) ∙
    ((leaf_words_parts leaf (leaf_words leaf) refl).bytes j (omega (arith, low, past)) ∙ key_word_past leaf.0 j (omega (arith, past)))

-- the value and the length, in the place of two of as many zeros as a leaf has words
abbrev pub first_words : ℕ → ℕ → List ℕ
first_words value size = set (set (replicate LEAF_FIELDS 0) 0 value) 1 size

pub first_long : (value size : ℕ) → length (first_words value size) ≡ LEAF_FIELDS
first_long value size = length-set (set (replicate LEAF_FIELDS 0) 0 value) 1 size ∙ (length-set (replicate LEAF_FIELDS 0) 0 value ∙ length-replicate {A = ℕ} LEAF_FIELDS 0)

pub first_size : (value size : ℕ) → get_or (first_words value size) 1 0 ≡ size
first_size value size = get_or-set_same (set (replicate LEAF_FIELDS 0) 0 value) 1 size 0 (omega (arith, length-set (replicate LEAF_FIELDS 0) 0 value, length-replicate {A = ℕ} LEAF_FIELDS 0))

pub first_rest : (value size o : ℕ) → 2 ≤ o → get_or (first_words value size) o 0 ≡ 0
first_rest value size o past =
    get_or-set_other (set (replicate LEAF_FIELDS 0) 0 value) 1 o size 0 (λ e. omega (arith, e, past)) ∙
    (get_or-set_other (replicate LEAF_FIELDS 0) 0 o value 0 (λ e. omega (arith, e, past)) ∙ zero_in LEAF_FIELDS o)
