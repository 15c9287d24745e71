-- The words of one record changed at one offset.
use Rattle.rowex_core.proofs.Common.{◌≡◌, ◌≢◌, ◌⊎◌, inl, inr, ℕ, ◌-◌, ◌^◌, ◌<◌, List, set, true, false, sym, ◌∙◌, subst, cases_Bool, false≢true, All-set, length-set, Rec, same_rec, same_rec_refl, same_rec_true}
use Rattle.rowex_core.specs.Cores.{IsSized}
use Rattle.rowex_core.specs.Events.{with_word}

-- a property of each record's words, after one word has changed
pub word_at_record : (words : Rec → List ℕ) (r : Rec) (offset w : ℕ) (P : Rec → List ℕ → Type 0) → P r (set (words r) (offset - 1) w) → ((i : Rec) → i ≢ r → P i (words i)) →
    (i : Rec) → P i (with_word words r offset w i)
word_at_record words r offset w P here there i = go (cases_Bool (same_rec i r))
  where
    go : ((same_rec i r ≡ true) ⊎ (same_rec i r ≡ false)) → P i (with_word words r offset w i)
    go (inl e) = rw e (subst (λ z. P z (set (words r) (offset - 1) w)) (sym (same_rec_true i r e)) here)
    go (inr e) = rw e (there i (λ x. false≢true (sym e ∙ subst (λ z. same_rec i z ≡ true) x (same_rec_refl i))))

pub sized_after : (words : Rec → List ℕ) (r : Rec) (offset w : ℕ) → w < 2 ^ 64 → ((i : Rec) → IsSized i (words i)) → (i : Rec) → IsSized i (with_word words r offset w i)
sized_after words r offset w small sized = word_at_record words r offset w IsSized
    (length-set (words r) (offset - 1) w ∙ (sized r).0, All-set (λ z. z < 2 ^ 64) (words r) (offset - 1) w small (sized r).1) (λ i ne. sized i)
