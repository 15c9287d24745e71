-- Which of a pass's locks are kept.
use Rattle.rowex_core.proofs.Common.{◌≡◌, inl, inr, ℕ, List, [], ◌∷◌, Bool, true, false, refl, sym, ap, subst, ◌∙◌, not, cases_Bool, false≢true, Rec, a_node, was_true, same_rec, IsOneOf, AreApart, same_rec_refl, same_rec_true, of_filter, filter_of}
use Rattle.std.proofs.Common.{filter}
use Rattle.std.specs.Prelude.{if◌then◌else◌}
use Rattle.rowex_core.specs.Having.{AreKept, is_among, kept_locks}

among : (r : Rec) (xs : List Rec) → is_among r xs ≡ true → IsOneOf r xs
among r [] e = absurd (false≢true e)
among r (x ∷ xs) e = go (λ h. among r xs h) (same_rec r x) refl e
  where
    go : (is_among r xs ≡ true → IsOneOf r xs) → (b : Bool) → same_rec r x ≡ b → (if b then true else is_among r xs) ≡ true → IsOneOf r (x ∷ xs)
    go rest true s h = inl (same_rec_true r x s)
    go rest false s h = inr (rest h)

not_among : (r : Rec) (xs : List Rec) → is_among r xs ≡ false → IsOneOf r xs → ⊥
not_among r [] e h = absurd h
not_among r (x ∷ xs) e h = go (λ e i. not_among r xs e i) (same_rec r x) refl e h
  where
    go : (is_among r xs ≡ false → IsOneOf r xs → ⊥) → (b : Bool) → same_rec r x ≡ b → (if b then true else is_among r xs) ≡ false → IsOneOf r (x ∷ xs) → ⊥
    go rest true s h i = false≢true (sym h)
    go rest false s h (inl i) = false≢true (sym s ∙ subst (λ z. same_rec r z ≡ true) i (same_rec_refl r))
    go rest false s h (inr i) = rest h i

-- of the locked nodes that are unlinked go, and the others are kept
pub kept_are_not_gone : (held : List ℕ) (gone : List Rec) → AreKept held gone (kept_locks held gone)
kept_are_not_gone held gone = record {
  only = λ n h. elim (cases_Bool (is_among (a_node n) gone)) [
    | inl e ↦ inr (among (a_node n) gone e)
    | inr e ↦ inl (filter_of (λ m. not (is_among (a_node m) gone)) n held h (ap not e))
  ];
  each = λ n h. (let (i, out) = of_filter (λ m. not (is_among (a_node m) gone)) n held h in (i, not_among (a_node n) gone (was_true (is_among (a_node n) gone) out)));
}

-- what is apart stays so with some left out
pub filter_apart : {X : Type 0} (p : X → Bool) (xs : List X) → AreApart xs → AreApart (filter p xs)
filter_apart p [] a = tt
filter_apart p (x ∷ xs) a = go (p x) refl (filter_apart p xs a.1)
  where
    go : (b : Bool) → p x ≡ b → AreApart (filter p xs) → AreApart (filter p (x ∷ xs))
    go true e rest = rw e ((λ h. a.0 (of_filter p x xs h).0), rest)
    go false e rest = rw e rest
