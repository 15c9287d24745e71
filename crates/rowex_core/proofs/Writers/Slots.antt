-- An entry word stored to a node: the words spell the node with that entry.
use Rattle.rowex_core.proofs.Common.{◌≡◌, ◌≢◌, inl, inr, ⊎_elim, ℕ, ◌+◌, ◌-◌, ◌<◌, ◌≤◌, ◌^◌, List, ◌++◌, length, get_or, set, Bool, true, false, nat_lt, Some, refl, sym, ap, subst, ◌∙◌, arith, All, slice_get, cases_eq, cases_lt, get_or-set_same, get_or-set_other, set-append_right, slice_get-get_or, slice_get_past, All-set, Entry, NodeView, StandsBelow, head_of, piece, replaced_lawful, piece-replaced, Place, Fork, size, HasEntryWord, entry_word, HasNodeWords, head_words, entry_words, node_words, length-entry_words, entry_words_at, entry_words_made, whole, Subtrie, with_entry, NodeWords}
use Rattle.std.specs.Prelude.{if◌then◌else◌}
use Rattle.std.proofs.lemmas.List.{length-set}
use Rattle.node_tries.specs.Changes.{replaced}
use Rattle.rowex_core.specs.Reading.{node_words_of}
use Rattle.rowex_core.proofs.Reading.{node_is}
use Rattle.rowex_core.proofs.Cores.Published.{entry_small}
use Rattle.rowex_core.specs.Writers.{SlotIsStored}

-- the subtrie with another entry is the piece with it
pub replaced_entry : (p : Subtrie) (i : ℕ) (e : Entry) → replaced i e p ≡ with_entry p i e
replaced_entry (Place x) i e = refl
replaced_entry (Fork q a b) i e = go (nat_lt i (size a)) (replaced_entry a i e) (replaced_entry b (i - size a) e)
  where
    go : (u : Bool) → replaced i e a ≡ with_entry a i e → replaced (i - size a) e b ≡ with_entry b (i - size a) e →
        (if u then Fork q (replaced i e a) b else Fork q a (replaced (i - size a) e b)) ≡ (if u then Fork q (with_entry a i e) b else Fork q a (with_entry b (i - size a) e))
    go true f g = ap (λ z. Fork q z b) f
    go false f g = ap (λ z. Fork q a z) g

slice_set : {X : Type 0} (xs : List X) (j i : ℕ) (x : X) → j < length xs → (i ≡ j → slice_get (set xs j x) i ≡ Some x) × (i ≢ j → slice_get (set xs j x) i ≡ slice_get xs i)
slice_set xs j i x low = (
  λ e. slice_get-get_or (set xs j x) i x (omega (arith, length-set xs j x)) ∙ ap Some (ap (λ z. get_or (set xs j x) z x) e ∙ get_or-set_same xs j x x low),
  λ ne. ⊎_elim
      (λ (h : i < length xs). slice_get-get_or (set xs j x) i x (omega (arith, length-set xs j x)) ∙ (ap Some (get_or-set_other xs j i x x ne) ∙ sym (slice_get-get_or xs i x h)))
      (λ (h : length xs ≤ i). slice_get_past (set xs j x) i (omega (arith, length-set xs j x)) ∙ sym (slice_get_past xs i h)) (cases_lt i (length xs)),
)

module _ (view : NodeView) (words : List ℕ) (has : HasNodeWords view) (same : node_words view ≡ words) (j : ℕ) (low : j < length view.entries) (e : Entry) (word : HasEntryWord (Some e))
    (stands : StandsBelow view.height e) where
  abbrev stored : NodeView
  stored = record view { entries = set view.entries j e }

  pub stored_has : HasNodeWords stored
  stored_has = record {
    lawful = replaced_lawful view has.lawful j e stands;
    entries = record {
      room = omega (arith, length-set view.entries j e, has.entries.room);
      each = λ i. (let s = slice_set view.entries j i e low in
          elim (cases_eq i j) [ inl z ↦ subst HasEntryWord (sym (s.0 z)) word | inr z ↦ subst HasEntryWord (sym (s.1 z)) (has.entries.each i) ]);
    };
  }

  tail_words : entry_words stored.entries ≡ set (entry_words view.entries) j (entry_word (Some e))
  tail_words = entry_words_made stored.entries (set (entry_words view.entries) j (entry_word (Some e))) (length-set (entry_words view.entries) j (entry_word (Some e)) ∙ length-entry_words view.entries)
      (λ i h. let s = slice_set view.entries j i e low in
      let long : length (entry_words view.entries) ≡ 32 = length-entry_words view.entries in
      elim (cases_eq i j) [
        | inl z ↦ ap (λ n. get_or (set (entry_words view.entries) j (entry_word (Some e))) n 0) z ∙
            (get_or-set_same (entry_words view.entries) j (entry_word (Some e)) 0 (omega (arith, has.entries.room)) ∙ ap entry_word (sym (s.0 z)))
        | inr z ↦ get_or-set_other (entry_words view.entries) j i (entry_word (Some e)) 0 z ∙ (entry_words_at view.entries (entry_words view.entries) refl i h ∙ ap entry_word (sym (s.1 z)))
      ])

  pub stored_same : node_words stored ≡ set words (25 + j) (entry_word (Some e))
  stored_same =
      let long : length (head_words (head_of view)) ≡ 25 = whole view has.lawful (head_words (head_of view)) refl in
      let at : 25 + j - 25 ≡ j = omega arith in
      ap (λ z. head_words (head_of view) ++ z) (tail_words ∙ ap (λ n. set (entry_words view.entries) n (entry_word (Some e))) (sym at)) ∙
      (sym (set-append_right (head_words (head_of view)) (entry_words view.entries) 25 (25 + j) (entry_word (Some e)) long (omega arith)) ∙ ap (λ z. set z (25 + j) (entry_word (Some e))) same)

  pub stored_node : (small : All (λ w. w < 2 ^ 64) words) → entry_word (Some e) < 2 ^ 64 →
      node_words_of (set words (25 + j) (entry_word (Some e))) ≡ record { fixed = (node_words_of words).fixed; subtrie = with_entry (node_words_of words).subtrie j e }
  stored_node small fits =
      let was = node_is view words small has same in
      let now = node_is stored (set words (25 + j) (entry_word (Some e))) (All-set (λ w. w < 2 ^ 64) words (25 + j) (entry_word (Some e)) fits small) stored_has stored_same in
      now ∙ sym (ap (λ (z : NodeWords). let s : NodeWords = record { fixed = z.fixed; subtrie = with_entry z.subtrie j e } in s) was ∙
      ap (λ p. let s : NodeWords = record { fixed = record { height = view.height; columns = view.columns; rows = view.rows }; subtrie = p } in s)
      (sym (replaced_entry (piece view) j e) ∙ sym (piece-replaced view has.lawful j e low)))

pub slot_is_stored : SlotIsStored
slot_is_stored view words has same small j e low word stands =
    (stored_has view words has same j low e word stands, stored_same view words has same j low e word stands, stored_node view words has same j low e word stands small (entry_small (Some e) word))
