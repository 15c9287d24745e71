-- The place of the last element of a list that passes a test.
use Rattle.std.proofs.Common.{Bool, List, [], ap, arith, cond, false, get_or, length, map, refl, suc, true, zero, ℕ, ⊎_elim, ◌++◌, ◌+◌, ◌<◌, ◌||◌, ◌∷◌, ◌≡◌}
use Rattle.std.proofs.lemmas.Bool.{cases_Bool, or_parts, or_right}
use Rattle.node_tries.proofs.Positions.Tests.{any-append, any-map, Agree, any_agree}
use Rattle.node_tries.specs.Highest.{highest}
use Rattle.node_tries.specs.Positions.{any}

module _ {X : Type 0} (t : X → Bool) where
  pub highest_none : (xs : List X) → any t xs ≡ false → highest t xs ≡ 0
  highest_none [] h = refl
  highest_none (x ∷ xs) h = rw (or_parts (t x) (any t xs) h).1 refl

  pub highest-append : (xs ys : List X) → highest t (xs ++ ys) ≡ cond (any t ys) (length xs + highest t ys) (highest t xs)
  highest-append [] ys =
      ⊎_elim (λ e. rw e (omega arith)) (λ e. rw e (highest_none ys e)) (cases_Bool (any t ys))
  highest-append (x ∷ xs) ys = rw (any-append t xs ys, highest-append xs ys) (
      elim (any t ys) as (λ v. cond (any t xs || v) (suc (cond v (length xs + highest t ys) (highest t xs))) 0 ≡ cond v (suc (length xs) + highest t ys) (cond (any t xs) (suc (highest t xs)) 0)) [
        | true ↦ elim (any t xs) as (λ u. cond (u || true) (suc (length xs + highest t ys)) 0 ≡ suc (length xs) + highest t ys) [ true ↦ omega arith | false ↦ omega arith ]
        | false ↦ elim (any t xs) as (λ u. cond (u || false) (suc (highest t xs)) 0 ≡ cond u (suc (highest t xs)) 0) [ true ↦ refl | false ↦ refl ]
      ])

  pub highest-map : {Y : Type 0} (f : Y → X) (ys : List Y) → highest t (map f ys) ≡ highest (λ y. t (f y)) ys
  highest-map f [] = refl
  highest-map f (y ∷ ys) = rw (any-map t f ys, highest-map f ys)

  pub highest_at : (xs : List X) (i : ℕ) (d : X) → i < length xs → t (get_or xs i d) ≡ true →
      ((k : ℕ) → i < k → k < length xs → t (get_or xs k d) ≡ false) → i ≡ highest t xs
  highest_at [] i d h e f = omega arith
  highest_at (x ∷ xs) zero d h e f = rw (none_of xs (λ k l. f (suc k) (omega arith) (omega arith)))
    where
      none_of : (ys : List X) → ((k : ℕ) → k < length ys → t (get_or ys k d) ≡ false) → any t ys ≡ false
      none_of [] g = refl
      none_of (y ∷ ys) g = rw (g 0 (omega arith), none_of ys (λ k l. g (suc k) (omega arith)))
  highest_at (x ∷ xs) (suc i) d h e f =
      rw (some_at xs i (omega arith) e) (ap suc (highest_at xs i d (omega arith) e (λ k l m. f (suc k) (omega arith) (omega arith))))
    where
      some_at : (ys : List X) (j : ℕ) → j < length ys → t (get_or ys j d) ≡ true → any t ys ≡ true
      some_at [] j l g = absurd (omega arith)
      some_at (y ∷ ys) zero l g = rw g
      some_at (y ∷ ys) (suc j) l g = or_right (t y) (any t ys) (some_at ys j (omega arith) g)

module _ {X : Type 0} (t u : X → Bool) where
  pub highest_agree : (xs : List X) → Agree t u xs → highest t xs ≡ highest u xs
  highest_agree [] h = refl
  highest_agree (x ∷ xs) h = rw (any_agree t u xs h.1, highest_agree xs h.1)
