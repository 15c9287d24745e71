-- Filtered lists.
use Rattle.rowex_core.proofs.Common.{◌≡◌, ◌⊎◌, inl, inr, zero, suc, List, [], ◌∷◌, Bool, true, false, refl, ap, ◌∙◌, arith, Contains, filter, All-contains, All-contains_itself, All-filter, cases_Bool}
use Rattle.std.specs.Prelude.{map}

-- a map that the test does not see
pub filter_mapped : {X Y : Type 0} (p : Y → Bool) (o : X → Bool) (f : X → Y) → ((x : X) → p (f x) ≡ o x) → (xs : List X) → filter p (map f xs) ≡ map f (filter o xs)
filter_mapped p o f e [] = refl
filter_mapped p o f e (x ∷ xs) = go (filter_mapped p o f e xs) (cases_Bool (o x))
  where
    go : filter p (map f xs) ≡ map f (filter o xs) → ((o x ≡ true) ⊎ (o x ≡ false)) → filter p (map f (x ∷ xs)) ≡ map f (filter o (x ∷ xs))
    go h (inl t) = rw (e x, t) (ap (λ l. f x ∷ l) h)
    go h (inr t) = rw (e x, t) h

-- two tests in either order
pub filter_swapped : {X : Type 0} (p o : X → Bool) (xs : List X) → filter p (filter o xs) ≡ filter o (filter p xs)
filter_swapped p o [] = refl
filter_swapped p o (x ∷ xs) = go (filter_swapped p o xs) (cases_Bool (p x)) (cases_Bool (o x))
  where
    go : filter p (filter o xs) ≡ filter o (filter p xs) → ((p x ≡ true) ⊎ (p x ≡ false)) → ((o x ≡ true) ⊎ (o x ≡ false)) → filter p (filter o (x ∷ xs)) ≡ filter o (filter p (x ∷ xs))
    go h (inl a) (inl b) = rw (a, b) (rw a (ap (λ l. x ∷ l) h))
    go h (inl a) (inr b) = rw (a, b) h
    go h (inr a) (inl b) = rw (a, b) (rw a h)
    go h (inr a) (inr b) = rw (a, b) h

-- what a list has that passes the test, the filtered list has
pub kept : {X : Type 0} (p : X → Bool) (xs : List X) (x : X) → p x ≡ true → Contains xs x → Contains (filter p xs) x
kept p [] x passes (i, low, is) = absurd (omega arith)
kept p (y ∷ ys) x passes (zero, low, is) = let first : p y ≡ true = ap p is ∙ passes in rw first (0, omega arith, is)
kept p (y ∷ ys) x passes (suc i, low, is) = go (kept p ys x passes (i, omega arith, is)) (p y) refl
  where
    go : Contains (filter p ys) x → (b : Bool) → p y ≡ b → Contains (filter p (y ∷ ys)) x
    go (n, below, at) true e = rw e (suc n, omega arith, at)
    go has false e = rw e has

-- and what the filtered list has, the list has
pub was_there : {X : Type 0} (p : X → Bool) (xs : List X) (x : X) → Contains (filter p xs) x → Contains xs x
was_there {X} p xs x h = All-contains (Contains xs) (filter p xs) x (All-filter p (Contains xs) xs (All-contains_itself xs)) h
