-- Entries against their words.
use Rattle.record_words.proofs.Common.{ℕ, ◌≡◌, ◌<◌, ◌≤◌, ⊎_elim, arith, List, [], ◌∷◌, get_or, length, refl, sym, ap, suc, ◌∙◌, slice_get, cases_lt, slice_get_past, same_Some, fill_by_all, length-map-range_with_len, get_or-map-range_with_len, Entry}
use Rattle.record_words.specs.Entry.{entry_word}
use Rattle.record_words.specs.Node.{HaveEntryWords, entry_words}
use Rattle.record_words.proofs.Spellings.{same_entry}

-- lists with the same elements are the same
same_elements : {A : Type 0} (xs ys : List A) → ((i : ℕ) → slice_get xs i ≡ slice_get ys i) → xs ≡ ys
same_elements [] [] same = refl
same_elements [] (y ∷ ys) same = cc (same 0)
same_elements (x ∷ xs) [] same = cc (same 0)
same_elements (x ∷ xs) (y ∷ ys) same =
    let head : x ≡ y = same_Some x y (same 0) in
    let tail : xs ≡ ys = same_elements xs ys (λ i. same (suc i)) in
    cc

pub length-entry_words : (entries : List Entry) → length (entry_words entries) ≡ 32
unfolding entry_words
length-entry_words entries = length-map-range_with_len (λ i. entry_word (slice_get entries i)) 0 32

-- the word at a place
pub entry_words_at : (entries : List Entry) (words : List ℕ) → entry_words entries ≡ words → (i : ℕ) → i < 32 → get_or words i 0 ≡ entry_word (slice_get entries i)
unfolding entry_words
entry_words_at entries words same i small =
    ap (λ ws. get_or ws i 0) (sym same) ∙ get_or-map-range_with_len (λ k. entry_word (slice_get entries k)) 0 32 i i 0 small (omega arith)

pub entry_words_made : (entries : List Entry) (words : List ℕ) → length words ≡ 32 → ((i : ℕ) → i < 32 → get_or words i 0 ≡ entry_word (slice_get entries i)) → entry_words entries ≡ words
unfolding entry_words
entry_words_made entries words whole same = sym (fill_by_all (λ i. entry_word (slice_get entries i)) words 32 0 whole same)

-- the words decide the entries
pub same_entries : (xs ys : List Entry) (words : List ℕ) → HaveEntryWords xs → HaveEntryWords ys → entry_words xs ≡ words → entry_words ys ≡ words → xs ≡ ys
same_entries xs ys words has_x has_y same_x same_y = same_elements xs ys (λ i. ⊎_elim
    (λ (inside : i < 32). same_entry (slice_get xs i) (slice_get ys i) (has_x.each i) (has_y.each i) (sym (entry_words_at xs words same_x i inside) ∙ entry_words_at ys words same_y i inside))
    (λ (past : 32 ≤ i). slice_get_past xs i (omega (arith, has_x.room)) ∙ sym (slice_get_past ys i (omega (arith, has_y.room))))
    (cases_lt i 32))
