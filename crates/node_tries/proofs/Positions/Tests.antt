-- Tests on the elements of lists.
use Rattle.std.proofs.Common.{Bool, List, [], ap, drop, eqb, false, get_or, map, refl, sym, true, ℕ, ⊎_elim, ◌&&◌, ◌++◌, ◌||◌, ◌∷◌, ◌≡◌}
use Rattle.std.proofs.lemmas.Bool.{and_from, and_parts, eqb-true, false≢true, or_cases}
use Rattle.node_tries.specs.Positions.{has, all, any}

pub same_bools : (x y : Bool) → (x ≡ true → y ≡ true) → (y ≡ true → x ≡ true) → x ≡ y
same_bools true y f g = sym (f refl)
same_bools false true f g = g refl
same_bools false false f g = refl

pub map_same : {X Y : Type 0} (f g : X → Y) (xs : List X) → ((x : X) → f x ≡ g x) → map f xs ≡ map g xs
map_same f g [] h = refl
map_same f g (x ∷ xs) h = rw (h x, map_same f g xs h) refl

module _ {X : Type 0} (t : X → Bool) where
  pub any-append : (xs ys : List X) → any t (xs ++ ys) ≡ (any t xs || any t ys)
  any-append [] ys = refl
  any-append (x ∷ xs) ys = elim (t x) as (λ v. (v || any t (xs ++ ys)) ≡ ((v || any t xs) || any t ys)) [ true ↦ refl | false ↦ any-append xs ys ]

  pub any-map : {Y : Type 0} (f : Y → X) (ys : List Y) → any t (map f ys) ≡ any (λ y. t (f y)) ys
  any-map f [] = refl
  any-map f (y ∷ ys) = ap (λ b. t (f y) || b) (any-map f ys)

  -- a further condition that is the same for all elements
  pub any_under : (v : Bool) (xs : List X) → any (λ x. v && t x) xs ≡ (v && any t xs)
  any_under true xs = refl
  any_under false [] = refl
  any_under false (x ∷ xs) = any_under false xs

-- tests that agree on the elements
module _ {X : Type 0} (t u : X → Bool) where
  abbrev pub Agree : List X → Type 0
  Agree [] = Unit {0}
  Agree (x ∷ xs) = (t x ≡ u x) × Agree xs

  pub any_agree : (xs : List X) → Agree xs → any t xs ≡ any u xs
  any_agree [] h = refl
  any_agree (x ∷ xs) h = rw (h.0, any_agree xs h.1)

-- all and has
pub all_at : (t : ℕ → Bool) (ps : List ℕ) (p : ℕ) → all t ps ≡ true → has ps p ≡ true → t p ≡ true
all_at t [] p h e = absurd (false≢true e)
all_at t (q ∷ ps) p h e =
    ⊎_elim (λ s. let same : q ≡ p = eqb-true q p s in let g : t q ≡ true = (and_parts (t q) (all t ps) h).0 in rw same at g)
    (λ s. all_at t ps p (and_parts (t q) (all t ps) h).1 s) (or_cases (eqb q p) (has ps p) e)

pub all_from : (t : ℕ → Bool) (ps : List ℕ) → ((p : ℕ) → t p ≡ true) → all t ps ≡ true
all_from t [] h = refl
all_from t (p ∷ ps) h = rw (h p, all_from t ps h)

pub all_weaker : (t u : ℕ → Bool) (ps : List ℕ) → ((p : ℕ) → t p ≡ true → u p ≡ true) → all t ps ≡ true → all u ps ≡ true
all_weaker t u [] h e = refl
all_weaker t u (p ∷ ps) h e = let q : (t p ≡ true) × (all t ps ≡ true) = and_parts (t p) (all t ps) e in and_from (u p) (all u ps) (h p q.0) (all_weaker t u ps h q.1)

pub all-put : (t : ℕ → Bool) (p : ℕ) (xs ys : List ℕ) → t p ≡ true → all t (xs ++ ys) ≡ true → all t (xs ++ p ∷ ys) ≡ true
all-put t p [] ys h g = and_from (t p) (all t ys) h g
all-put t p (x ∷ xs) ys h g = let q : (t x ≡ true) × (all t (xs ++ ys) ≡ true) = and_parts (t x) (all t (xs ++ ys)) g in and_from (t x) (all t (xs ++ p ∷ ys)) q.0 (all-put t p xs ys h q.1)

-- tests that give the same flags agree on the elements
pub same_from_flags : (f g : ℕ → Bool) (cs : List ℕ) → map f cs ≡ map g cs → (c : ℕ) → has cs c ≡ true → f c ≡ g c
same_from_flags f g [] e c h = absurd (false≢true h)
same_from_flags f g (x ∷ cs) e c h = ⊎_elim
    (λ (s : eqb x c ≡ true). let same : x ≡ c = eqb-true x c s in let first : f x ≡ g x = ap (λ bs. get_or bs 0 false) e in rw same at first)
    (λ (s : has cs c ≡ true). same_from_flags f g cs (ap (drop 1) e) c s) (or_cases (eqb x c) (has cs c) h)
