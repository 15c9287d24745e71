-- What is among the elements of a list.
use Rattle.versions.proofs.Common.{◌≡◌, ◌⊎◌, inl, inr, List, [], ◌∷◌, ◌++◌, map, filter, Bool, true, false, refl, sym, ap, subst, ◌∙◌, All, cases_Bool, false≢true}
use Rattle.std.proofs.lemmas.List.Elements.{All-head, All-tail}
use Rattle.versions.specs.Trades.{IsOneOf, AreApart}

pub of_append : {X : Type 0} (x : X) (xs ys : List X) → IsOneOf x (xs ++ ys) → IsOneOf x xs ⊎ IsOneOf x ys
of_append x [] ys h = inr h
of_append x (z ∷ xs) ys (inl e) = inl (inl e)
of_append x (z ∷ xs) ys (inr h) = elim (of_append x xs ys h) [ inl y ↦ inl (inr y) | inr y ↦ inr y ]

pub of_left : {X : Type 0} (x : X) (xs ys : List X) → IsOneOf x xs → IsOneOf x (xs ++ ys)
of_left x [] ys h = absurd h
of_left x (z ∷ xs) ys (inl e) = inl e
of_left x (z ∷ xs) ys (inr h) = inr (of_left x xs ys h)

pub of_right : {X : Type 0} (x : X) (xs ys : List X) → IsOneOf x ys → IsOneOf x (xs ++ ys)
of_right x [] ys h = h
of_right x (z ∷ xs) ys h = inr (of_right x xs ys h)

pub of_map : {X Y : Type 0} (f : X → Y) (y : Y) (xs : List X) → IsOneOf y (map f xs) → (x : X) × IsOneOf x xs × (y ≡ f x)
of_map f y [] h = absurd h
of_map f y (x ∷ xs) (inl e) = (x, inl refl, e)
of_map f y (x ∷ xs) (inr h) = let (z, i, e) = of_map f y xs h in (z, inr i, e)

pub map_of : {X Y : Type 0} (f : X → Y) (x : X) (xs : List X) → IsOneOf x xs → IsOneOf (f x) (map f xs)
map_of f x [] h = absurd h
map_of f x (z ∷ xs) (inl e) = inl (ap f e)
map_of f x (z ∷ xs) (inr h) = inr (map_of f x xs h)

pub of_filter : {X : Type 0} (p : X → Bool) (x : X) (xs : List X) → IsOneOf x (filter p xs) → IsOneOf x xs × (p x ≡ true)
of_filter p x [] h = absurd h
of_filter p x (z ∷ xs) h = go (of_filter p x xs) (cases_Bool (p z)) h
  where
    go : (IsOneOf x (filter p xs) → IsOneOf x xs × (p x ≡ true)) → ((p z ≡ true) ⊎ (p z ≡ false)) → IsOneOf x (filter p (z ∷ xs)) → IsOneOf x (z ∷ xs) × (p x ≡ true)
    go rest (inl e) i = elim (rw e at i) [ inl y ↦ (inl y, ap p y ∙ e) | inr y ↦ (inr (rest y).0, (rest y).1) ]
    go rest (inr e) i = let o = rest (rw e at i) in (inr o.0, o.1)

pub filter_of : {X : Type 0} (p : X → Bool) (x : X) (xs : List X) → IsOneOf x xs → p x ≡ true → IsOneOf x (filter p xs)
filter_of p x [] h t = absurd h
filter_of p x (z ∷ xs) h t = go (λ i. filter_of p x xs i t) (cases_Bool (p z)) h
  where
    go : (IsOneOf x xs → IsOneOf x (filter p xs)) → ((p z ≡ true) ⊎ (p z ≡ false)) → IsOneOf x (z ∷ xs) → IsOneOf x (filter p (z ∷ xs))
    go rest (inl e) (inl y) = rw e (inl y)
    go rest (inl e) (inr y) = rw e (inr (rest y))
    go rest (inr e) (inl y) = absurd (false≢true (sym e ∙ (ap p (sym y) ∙ t)))
    go rest (inr e) (inr y) = rw e (rest y)

pub all_of : {X : Type 0} (P : X → Type 0) (x : X) (xs : List X) → All P xs → IsOneOf x xs → P x
all_of P x [] a h = absurd h
all_of P x (z ∷ xs) a (inl e) = subst P (sym e) (All-head P z xs a)
all_of P x (z ∷ xs) a (inr h) = all_of P x xs (All-tail P z xs a) h

-- a list of which nothing is an element is empty
pub none_of : {X : Type 0} (xs : List X) → ((x : X) → IsOneOf x xs → ⊥) → xs ≡ []
none_of [] h = refl
none_of (x ∷ xs) h = absurd (h x (inl refl))

-- a list with one more at its end that it has not
pub apart_push : {X : Type 0} (xs : List X) (x : X) → AreApart xs → (IsOneOf x xs → ⊥) → AreApart (xs ++ x ∷ [])
apart_push [] x apart none = (λ h. h, tt)
apart_push (y ∷ xs) x apart none = (
  λ h. elim (of_append y xs (x ∷ []) h) [ inl i ↦ apart.0 i | inr i ↦ elim i [ inl e ↦ none (inl (sym e)) | inr j ↦ absurd j ] ],
  apart_push xs x apart.1 (λ h. none (inr h)),
)
