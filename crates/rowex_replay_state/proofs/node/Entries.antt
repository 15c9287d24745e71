-- Entries against their words, which are read one after another.
use Rattle.rowex_replay_state.proofs.Common.{ℕ, ◌≡◌, ◌+◌, ◌<◌, ◌≤◌, ⊎_elim, arith, List, [], ◌∷◌, ◌++◌, Option, Some, None, Ok, get_or, length, refl, sym, ap, zero, suc, ◌∙◌, ◌≢◌, below_more, length-append, cases_lt, slice_get_past, ArrayVec, Entry, Leaf, Node, HasEntryWord, entry_word, HaveEntryWords, entry_words, IsReading, WordFault, entry_words_at, entry_words_made, same_entries}
use Rattle.std.specs.Prelude.{slice_get}
use Rattle.record_words.proofs.Spellings.{same_entry}
use Rattle.rowex_replay_state.proofs.leaf.Readings.{reads_one}

some_inside : (xs : List Entry) (i : ℕ) → i < length xs → slice_get xs i ≡ None → ⊥
some_inside [] i inside none = absurd (omega arith)
some_inside (x ∷ xs) zero inside none = cc
some_inside (x ∷ xs) (suc i) inside none = some_inside xs i (omega arith) none

-- the entries have the words up to place n
pub record AreSoFar (entries : List Entry) (words : List ℕ) (n : ℕ) : Type 0 where
  pub few : length entries ≤ n
  pub each : (i : ℕ) → HasEntryWord (slice_get entries i)
  pub same : (i : ℕ) → i < n → get_or words i 0 ≡ entry_word (slice_get entries i)

pub none_so_far : (words : List ℕ) → AreSoFar [] words 0
none_so_far words = record { few = omega arith; each = λ i. tt; same = λ i none. absurd (omega arith) }

slice_get-push : (entries : List Entry) (entry : Entry) (i : ℕ) → i < length entries → slice_get (entries ++ entry ∷ []) i ≡ slice_get entries i
slice_get-push [] entry i inside = absurd (omega arith)
slice_get-push (x ∷ entries) entry zero inside = refl
slice_get-push (x ∷ entries) entry (suc i) inside = slice_get-push entries entry i (omega arith)

slice_get-last : (entries : List Entry) (entry : Entry) → slice_get (entries ++ entry ∷ []) (length entries) ≡ Some entry
slice_get-last [] entry = refl
slice_get-last (x ∷ entries) entry = slice_get-last entries entry

-- one entry more, and a word more
pub one_more : (entries : List Entry) (words : List ℕ) (n : ℕ) (entry : Entry) → AreSoFar entries words n → length entries ≡ n → HasEntryWord (Some entry) → entry_word (Some entry) ≡ get_or words n 0 → AreSoFar (entries ++ entry ∷ []) words (n + 1)
one_more entries words n entry so_far here has same = record {
  few = omega (arith, length-append entries (entry ∷ []));
  each = λ i. ⊎_elim (λ (inside : i < n). rw (slice_get-push entries entry i (omega arith)) (so_far.each i))
      (λ (past : n ≤ i). ⊎_elim (λ (now : i < n + 1). let at : i ≡ length entries = omega arith in rw (at, slice_get-last entries entry) has)
      (λ (later : n + 1 ≤ i). rw (slice_get_past (entries ++ entry ∷ []) i (omega (arith, length-append entries (entry ∷ [])))) tt) (cases_lt i (n + 1)))
      (cases_lt i n);
  same = below_more _ n (λ i inside. so_far.same i inside ∙ ap (λ (o : Option Entry). entry_word o) (sym (slice_get-push entries entry i (omega arith))))
      (sym same ∙ ap (λ (o : Option Entry). entry_word o) (sym (rw here at (slice_get-last entries entry))));
}

-- no entry more, and a word more
pub none_more : (entries : List Entry) (words : List ℕ) (n : ℕ) → AreSoFar entries words n → get_or words n 0 ≡ 0 → AreSoFar entries words (n + 1)
none_more entries words n so_far zero_word = record {
  few = omega (arith, so_far.few);
  each = so_far.each;
  same = below_more _ n so_far.same (zero_word ∙ ap (λ (o : Option Entry). entry_word o) (sym (slice_get_past entries n so_far.few)));
}

entry_word-pos : (entry : Entry) → 0 < entry_word (Some entry)
entry_word-pos (Leaf number) = omega arith
entry_word-pos (Node number height) = omega arith

-- after a word 0 no entry's word comes
pub no_entry_later : (entries others : List Entry) (words : List ℕ) (n : ℕ) (entry : Entry) → AreSoFar entries words n → n < 32 → length entries ≢ n → entry_word (Some entry) ≡ get_or words n 0 → HaveEntryWords others → entry_words others ≡ words → ⊥
no_entry_later entries others words n entry so_far small apart word has same =
    let last : ℕ = length entries in
    let none : slice_get others last ≡ None = same_entry (slice_get others last) None (has.each last) tt
    (sym (entry_words_at others words same last (omega (arith, so_far.few))) ∙ (so_far.same last (omega (arith, so_far.few)) ∙ ap (λ (o : Option Entry). entry_word o) (slice_get_past entries last (omega arith)))) in
    let ended : length others ≤ last = ⊎_elim (λ (inside : last < length others). absurd (some_inside others last inside none)) (λ (past : length others ≤ last). past) (cases_lt last (length others)) in
    let zero_word : get_or words n 0 ≡ 0 = entry_words_at others words same n small ∙ ap (λ (o : Option Entry). entry_word o) (slice_get_past others n (omega (arith, so_far.few))) in
    omega (arith, entry_word-pos entry)

-- entries that have all words are what reading them answers
pub entries_read : (entries : ArrayVec Entry) (words : List ℕ) → length words ≡ 32 → AreSoFar entries.items words 32 →
    IsReading {E = WordFault} (λ (list : ArrayVec Entry). HaveEntryWords list.items) (λ list. entry_words list.items) words (Ok entries)
entries_read entries words whole so_far =
    let has : HaveEntryWords entries.items = record { room = so_far.few; each = so_far.each } in
    let same : entry_words entries.items ≡ words = entry_words_made entries.items words whole so_far.same in
    reads_one entries has same (λ other other_has other_same. same_lists entries.items other.items (same_entries entries.items other.items words has other_has same other_same))
  where
    same_lists : (xs ys : List Entry) → xs ≡ ys → ◌≡◌ {A = ArrayVec Entry} (record { items = xs }) (record { items = ys })
    same_lists xs ys same = rw same
