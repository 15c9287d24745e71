-- What is left of a piece where a place is taken out.
pub mod Beside
pub mod Replacing
pub mod Seams
use Rattle.std.proofs.Common.{List, [], ap, arith, cond, false, nat_lt, refl, suc, sym, true, zero, ℕ, ⊎_elim, ◌++◌, ◌+◌, ◌-◌, ◌<◌, ◌∙◌, ◌≡◌, ◌≤◌}
use Rattle.std.proofs.lemmas.Bool.{cases_Bool, false≢true, ltb-false, ltb-true}
use Rattle.std.proofs.lemmas.List.{append-nil}
use Rattle.std.proofs.lemmas.List.Edits.{remove-append_left, remove-append_right}
use Rattle.std.specs.List.{remove}
use Rattle.node_tries.proofs.Piece.{size_pos, length-places, RisesFrom-weaker}
use Rattle.node_tries.specs.Changes.{is_place, without}
use Rattle.node_tries.specs.Piece.{Piece, Place, Fork, places, size, RisesFrom, UsesOnly}

module _ {A : Type 0} where
  pub size_alone : (P : Piece A) → is_place P ≡ true → size P ≡ 1
  size_alone (Place x) e = refl
  size_alone (Fork p a b) e = absurd (false≢true e)

  pub size_forked : (P : Piece A) → is_place P ≡ false → 2 ≤ size P
  size_forked (Place x) e = absurd (false≢true (sym e))
  size_forked (Fork p a b) e = omega (arith, size_pos a, size_pos b)

  places_alone : (P : Piece A) (i : ℕ) → is_place P ≡ true → i < size P → remove (places P) i ≡ []
  places_alone (Place x) zero e l = refl
  places_alone (Place x) (suc i) e l = absurd (omega arith)
  places_alone (Fork p a b) i e l = absurd (false≢true e)

  pub places-without : (i : ℕ) (P : Piece A) → is_place P ≡ false → i < size P → places (without i P) ≡ remove (places P) i
  places-without i (Place x) more l = absurd (false≢true (sym more))
  places-without i (Fork p a b) more l = ⊎_elim
      (λ (e : nat_lt i (size a) ≡ true). let m : i < size a = ltb-true i (size a) e in rw (e, remove-append_left (places a) (places b) i (rw (length-places a) m)) (⊎_elim
      (λ f. rw f (sym (ap (λ xs. xs ++ places b) (places_alone a i f m))))
      (λ f. rw f (ap (λ xs. xs ++ places b) (places-without i a f m))) (cases_Bool (is_place a))))
      (λ (e : nat_lt i (size a) ≡ false). let m : size a ≤ i = ltb-false i (size a) e in rw (e, remove-append_right (places a) (places b) (size a) i (length-places a) m) (⊎_elim
      (λ f. rw f (sym (ap (λ xs. places a ++ xs) (places_alone b (i - size a) f (omega arith)) ∙ append-nil (places a))))
      (λ f. rw f (ap (λ xs. places a ++ xs) (places-without (i - size a) b f (omega arith)))) (cases_Bool (is_place b))))
      (cases_Bool (nat_lt i (size a)))

  pub RisesFrom-without : (low i : ℕ) (P : Piece A) → RisesFrom low P → RisesFrom low (without i P)
  RisesFrom-without low i (Place x) r = tt
  RisesFrom-without low i (Fork p a b) r = let k : low < p + 1 = r.0 in
      elim (nat_lt i (size a)) as (λ v. RisesFrom low (cond v (cond (is_place a) b (Fork p (without i a) b)) (cond (is_place b) a (Fork p a (without (i - size a) b))))) [
        | true ↦ elim (is_place a) as (λ v. RisesFrom low (cond v b (Fork p (without i a) b))) [ true ↦ RisesFrom-weaker low (p + 1) b (omega arith) r.2 | false ↦ (k, RisesFrom-without (p + 1) i a r.1, r.2) ]
        | false ↦ elim (is_place b) as (λ v. RisesFrom low (cond v a (Fork p a (without (i - size a) b)))) [ true ↦ RisesFrom-weaker low (p + 1) a (omega arith) r.1 | false ↦ (k, r.1, RisesFrom-without (p + 1) (i - size a) b r.2) ]
      ]

  pub UsesOnly-without : (cs : List ℕ) (i : ℕ) (P : Piece A) → UsesOnly cs P → UsesOnly cs (without i P)
  UsesOnly-without cs i (Place x) u = tt
  UsesOnly-without cs i (Fork p a b) u =
      elim (nat_lt i (size a)) as (λ v. UsesOnly cs (cond v (cond (is_place a) b (Fork p (without i a) b)) (cond (is_place b) a (Fork p a (without (i - size a) b))))) [
        | true ↦ elim (is_place a) as (λ v. UsesOnly cs (cond v b (Fork p (without i a) b))) [ true ↦ u.2 | false ↦ (u.0, UsesOnly-without cs i a u.1, u.2) ]
        | false ↦ elim (is_place b) as (λ v. UsesOnly cs (cond v a (Fork p a (without (i - size a) b)))) [ true ↦ u.1 | false ↦ (u.0, u.1, UsesOnly-without cs (i - size a) b u.2) ]
      ]
