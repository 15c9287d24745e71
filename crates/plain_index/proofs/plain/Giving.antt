-- A limit lets through some of a list that goes on behind the first part, where that part is shorter than the limit.
use Rattle.std.proofs.Common.{◌≡◌, ◌≢◌, ℕ, zero, suc, ◌<◌, List, [], ◌∷◌, ◌++◌, length, take, subst, arith}

taken : {X : Type 0} (x : X) (xs : List X) (n : ℕ) → 0 < n → take n (x ∷ xs) ≢ []
taken x xs zero some = absurd (omega arith)
taken x xs (suc n) some = λ none. cc

pub gives_one : {X : Type 0} (xs : List X) (y : X) (ys all : List X) (n : ℕ) → xs ++ y ∷ ys ≡ all → length xs < n → take n all ≢ []
gives_one [] y ys all n is some = subst (λ zs. take n zs ≢ []) is (taken y ys n (omega arith))
gives_one (x ∷ xs) y ys all n is some = subst (λ zs. take n zs ≢ []) is (taken x (xs ++ y ∷ ys) n (omega arith))
