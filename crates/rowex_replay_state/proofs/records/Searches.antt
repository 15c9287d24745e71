-- A search that looks at one number after the other; and a leaf's key.
use Rattle.rowex_replay_state.proofs.Common.{◌≡◌, ◌↔◌, ◌⊎◌, inl, inr, ◌+◌, ◌<◌, ℕ, List, Some, Bool, true, false, sym, ap, ◌∙◌, subst, arith, cases_lt, false≢true, same_Some, HasLeafWords, leaf_words, up_to_key, a_leaf, IsPacked}
use Rattle.rowex_replay_state.specs.Records.{RecordsView, IsEncodedIn, words_in}

-- None of those before this one is it, nor is this one.
pub none_yet : (P : ℕ → Type 0) (b : Bool) (i : ℕ) → ((k : ℕ) → k < i → ¬ (P k)) → ((b ≡ true) ↔ P i) → b ≡ false → (k : ℕ) → k < i + 1 → ¬ (P k)
none_yet P b i none test f k low p = elim (cases_lt k i) [
  | inl l ↦ none k l p
  | inr h ↦ let same : k ≡ i = omega (arith, low, h) in false≢true (sym f ∙ test.1 (subst P same p))
]

-- No words spell a leaf if those that stand there don't.
pub not_spelled : (s : RecordsView) (n : ℕ) (words : List ℕ) → words_in s (a_leaf n) ≡ Some words →
    ((pair : List ℕ × ℕ) → HasLeafWords pair → leaf_words pair ≡ up_to_key words → ⊥) → ¬ (IsEncodedIn s (a_leaf n))
unfolding IsPacked
not_spelled s n words at none (x, there, packed) = none packed.0 packed.1 (packed.2 ∙ ap up_to_key (same_Some x words (sym there ∙ at)))

-- One of the two is so exactly where the second is, if the first isn't.
pub second : (b : Bool) (A B : Type 0) → ¬ A → ((b ≡ true) ↔ B) → ((b ≡ true) ↔ (A ⊎ B))
second b A B not test = ((λ t. inr (test.0 t)), λ h. elim h [ inl x ↦ absurd (not x) | inr x ↦ test.1 x ])
