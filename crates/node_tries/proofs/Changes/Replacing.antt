-- What another thing at a place does: the forks stay.
use Rattle.std.proofs.Common.{List, ap, arith, cond, eqb, false, map, nat_lt, refl, suc, sym, true, zero, ℕ, ⊎_elim, ◌++◌, ◌+◌, ◌-◌, ◌<◌, ◌||◌, ◌∙◌, ◌∷◌, ◌≡◌, ◌≤◌}
use Rattle.std.proofs.lemmas.Bool.{cases_Bool, ltb-false, ltb-true}
use Rattle.std.proofs.lemmas.List.{set-append_left, set-append_right}
use Rattle.std.specs.Prelude.{set}
use Rattle.node_tries.proofs.Piece.{length-places}
use Rattle.node_tries.specs.Changes.{replaced}
use Rattle.node_tries.specs.Piece.{Piece, Place, Fork, places, size, paths, RisesFrom, UsesOnly, uses}

module _ {A : Type 0} (x : A) where
  pub paths-replaced : (i : ℕ) (P : Piece A) → paths (replaced i x P) ≡ paths P
  paths-replaced i (Place y) = refl
  paths-replaced i (Fork p a b) = elim (nat_lt i (size a)) as (λ v. paths (cond v (Fork p (replaced i x a) b) (Fork p a (replaced (i - size a) x b))) ≡ paths (Fork p a b)) [
    | true ↦ ap (λ ps. ps ++ map (λ path. p ∷ path) (paths b)) (paths-replaced i a)
    | false ↦ ap (λ ps. paths a ++ map (λ path. p ∷ path) ps) (paths-replaced (i - size a) b)
  ]

  pub places-replaced : (i : ℕ) (P : Piece A) → i < size P → places (replaced i x P) ≡ set (places P) i x
  places-replaced zero (Place y) l = refl
  places-replaced (suc i) (Place y) l = absurd (omega arith)
  places-replaced i (Fork p a b) l = ⊎_elim
      (λ (e : nat_lt i (size a) ≡ true). let m : i < size a = ltb-true i (size a) e in
      rw e (ap (λ xs. xs ++ places b) (places-replaced i a m) ∙ sym (set-append_left (places a) (places b) i x (rw (length-places a) m))))
      (λ (e : nat_lt i (size a) ≡ false). let m : size a ≤ i = ltb-false i (size a) e in
      rw e (ap (λ xs. places a ++ xs) (places-replaced (i - size a) b (omega arith)) ∙ sym (set-append_right (places a) (places b) (size a) i x (length-places a) m)))
      (cases_Bool (nat_lt i (size a)))

  pub uses-replaced : (i : ℕ) (P : Piece A) (q : ℕ) → uses (replaced i x P) q ≡ uses P q
  uses-replaced i (Place y) q = refl
  uses-replaced i (Fork p a b) q = elim (nat_lt i (size a)) as (λ v. uses (cond v (Fork p (replaced i x a) b) (Fork p a (replaced (i - size a) x b))) q ≡ uses (Fork p a b) q)
      [ true ↦ ap (λ u. eqb p q || (u || uses b q)) (uses-replaced i a q) | false ↦ ap (λ u. eqb p q || (uses a q || u)) (uses-replaced (i - size a) b q) ]

  pub UsesOnly-replaced : (cs : List ℕ) (i : ℕ) (P : Piece A) → UsesOnly cs P → UsesOnly cs (replaced i x P)
  UsesOnly-replaced cs i (Place y) u = tt
  UsesOnly-replaced cs i (Fork p a b) u = elim (nat_lt i (size a)) as (λ v. UsesOnly cs (cond v (Fork p (replaced i x a) b) (Fork p a (replaced (i - size a) x b))))
      [ true ↦ (u.0, UsesOnly-replaced cs i a u.1, u.2) | false ↦ (u.0, u.1, UsesOnly-replaced cs (i - size a) b u.2) ]

  pub RisesFrom-replaced : (low i : ℕ) (P : Piece A) → RisesFrom low P → RisesFrom low (replaced i x P)
  RisesFrom-replaced low i (Place y) r = tt
  RisesFrom-replaced low i (Fork p a b) r = elim (nat_lt i (size a)) as (λ v. RisesFrom low (cond v (Fork p (replaced i x a) b) (Fork p a (replaced (i - size a) x b))))
      [ true ↦ (r.0, RisesFrom-replaced (p + 1) i a r.1, r.2) | false ↦ (r.0, r.1, RisesFrom-replaced (p + 1) (i - size a) b r.2) ]
