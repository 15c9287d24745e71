-- What is taken from the end of a list of two, and what was made without an error.
use Rattle.std.proofs.Common.{◌≡◌, List, [], ◌∷◌, ◌++◌, length, Some, refl, ap, arith, subst, sym}
use Rattle.std.specs.Prelude.{Result, Ok, Err, IfOk, IsErrAnd, MatchResult, slice_get}
use Rattle.std.proofs.lemmas.List.{length-append}
use Rattle.hot_index_calls.specs.Passes.{PassView}

pub of_two : (zs xs ys : List PassView) (a b : PassView) → length xs ≡ 2 → xs ≡ ys ++ b ∷ [] → ys ≡ zs ++ a ∷ [] →
    (slice_get xs 0 ≡ Some a) × (slice_get xs 1 ≡ Some b)
of_two [] xs ys a b two e f = rw (e, f) (refl, refl)
of_two (z ∷ zs) xs ys a b two e f =
    absurd (omega (arith, two, ap length e, length-append ys (b ∷ []), ap length f, length-append (z ∷ zs) (a ∷ [])))

-- what was made is told, where what refused it is told by another error
pub told_made : {T E D : Type 0} (Q : E → D → Type 0) (IsMade : T → Type 0) (r : Result T E) (s : Result T D) (x : T) → s ≡ Ok x →
    MatchResult r (λ y. s ≡ Ok y) (λ e. IsErrAnd s (Q e)) → IfOk r IsMade → IsMade x
told_made Q IsMade (Ok y) s x is same made = subst (λ t. IfOk t IsMade) is (subst (λ t. IfOk t IsMade) (sym same) made)
told_made Q IsMade (Err e) (Ok y) x is same made = absurd same
told_made Q IsMade (Err e) (Err d) x is same made = cc
