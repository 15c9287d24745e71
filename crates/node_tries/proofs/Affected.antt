-- The affected range, and when no fork there has the position.
use Rattle.std.proofs.Common.{Bool, List, [], ap, arith, false, nat_lt, not, refl, sym, true, ℕ, ⊎_elim, ◌&&◌, ◌+◌, ◌-◌, ◌<◌, ◌||◌, ◌∙◌, ◌∷◌, ◌≡◌, ◌≤◌}
use Rattle.std.proofs.lemmas.Bool.{cases_Bool, cases_lt, false≢true, le-ltb, lt-ltb, ltb-false, ltb-true}
use Rattle.std.proofs.lemmas.Bool.Decides.{nat_tests}
use Rattle.node_tries.proofs.Growth.{affected_fits}
use Rattle.node_tries.proofs.Positions.{has_after}
use Rattle.node_tries.proofs.Positions.Tests.{same_bools}
use Rattle.node_tries.specs.Growth.{affected_first, affected_count}
use Rattle.node_tries.specs.Piece.{Piece, Place, Fork, size, RisesFrom, UsesOnly}
use Rattle.node_tries.specs.Positions.{Ascends}

-- k is one of the n places from f on
abbrev pub within : ℕ → ℕ → ℕ → Bool
within f n k = nat_lt k (f + n) && not (nat_lt k f)

pub within_past : (f n k : ℕ) → f + n ≤ k → within f n k ≡ false
within_past f n k l = rw (le-ltb k (f + n) l) refl

pub within_before : (f n k : ℕ) → k < f → within f n k ≡ false
within_before f n k l = rw (lt-ltb k f l) (elim (nat_lt k (f + n)) as (λ v. (v && false) ≡ false) [ true ↦ refl | false ↦ refl ])

pub within_shift : (m f n k : ℕ) → m ≤ k → within (m + f) n k ≡ within f n (k - m)
within_shift m f n k l = same_bools _ _ (λ e. grind (arith, nat_tests)) (λ e. grind (arith, nat_tests))

pub within_all : (n k : ℕ) → k < n → within 0 n k ≡ true
within_all n k l = rw (lt-ltb k (0 + n) (omega arith), le-ltb k 0 (omega arith)) refl

-- ---- from rows as numbers
pub within_in : (f n k : ℕ) → f ≤ k → k < f + n → within f n k ≡ true
within_in f n k l m = rw (lt-ltb k (f + n) m, le-ltb k f l) refl

pub within_true : (f n k : ℕ) → within f n k ≡ true → (f ≤ k) × (k < f + n)
within_true f n k e = ⊎_elim (λ (l : k < f). absurd (false≢true (sym (within_before f n k l) ∙ e)))
    (λ l. ⊎_elim (λ m. (l, m)) (λ (m : f + n ≤ k). absurd (false≢true (sym (within_past f n k m) ∙ e))) (cases_lt k (f + n))) (cases_lt k f)

module _ {A : Type 0} where
  pub rises_after : (position : ℕ) (ys : List ℕ) (P : Piece A) → Ascends position ys → UsesOnly ys P → (low : ℕ) → RisesFrom low P → RisesFrom position P
  rises_after position ys (Place x) a u low r = tt
  rises_after position ys (Fork p s t) a u low r = (let m : position ≤ p = has_after position p ys a u.0 in omega arith, r.1, r.2)

  module _ (position : ℕ) where
    pub whole_first : (P : Piece A) (i : ℕ) → RisesFrom position P → (affected_first position i P ≡ 0) × (affected_count position i P ≡ size P)
    whole_first (Place x) i r = (refl, refl)
    whole_first (Fork p s t) i r = let k : position < p + 1 = r.0 in let e : nat_lt p position ≡ false = le-ltb p position (omega arith) in rw e (refl, refl)

module _ {A : Type 0} (p : ℕ) where
  first_left : (q : ℕ) (s t : Piece A) (j : ℕ) → nat_lt q p ≡ true → nat_lt j (size s) ≡ true → affected_first p j (Fork q s t) ≡ affected_first p j s
  first_left q s t j e f = rw (e, f) refl

  count_left : (q : ℕ) (s t : Piece A) (j : ℕ) → nat_lt q p ≡ true → nat_lt j (size s) ≡ true → affected_count p j (Fork q s t) ≡ affected_count p j s
  count_left q s t j e f = rw (e, f) refl

  first_right : (q : ℕ) (s t : Piece A) (j : ℕ) → nat_lt q p ≡ true → nat_lt j (size s) ≡ false → affected_first p j (Fork q s t) ≡ size s + affected_first p (j - size s) t
  first_right q s t j e f = rw (e, f) refl

  count_right : (q : ℕ) (s t : Piece A) (j : ℕ) → nat_lt q p ≡ true → nat_lt j (size s) ≡ false → affected_count p j (Fork q s t) ≡ affected_count p (j - size s) t
  count_right q s t j e f = rw (e, f) refl

  -- the first affected place has the same affected part
  pub affected_again : (P : Piece A) (i : ℕ) → i < size P →
      (affected_first p (affected_first p i P) P ≡ affected_first p i P) × (affected_count p (affected_first p i P) P ≡ affected_count p i P)
  affected_again (Place x) i l = (refl, refl)
  affected_again (Fork q s t) i l = ⊎_elim
      (λ (e : nat_lt q p ≡ true). ⊎_elim
      (λ (f : nat_lt i (size s) ≡ true). let j : ℕ = affected_first p i s in
      let in_s : nat_lt j (size s) ≡ true = lt-ltb j (size s) (let h : (j + affected_count p i s ≤ size s) × (0 < affected_count p i s) = affected_fits p s i in omega (arith, h.0, h.1)) in
      let h : (affected_first p j s ≡ j) × (affected_count p j s ≡ affected_count p i s) = affected_again s i (ltb-true i (size s) f) in
      let at : affected_first p i (Fork q s t) ≡ j = first_left q s t i e f in (
        ap (λ m. affected_first p m (Fork q s t)) at ∙ first_left q s t j e in_s ∙ h.0 ∙ sym at,
        ap (λ m. affected_count p m (Fork q s t)) at ∙ count_left q s t j e in_s ∙ h.1 ∙ sym (count_left q s t i e f),
      ))
      (λ (f : nat_lt i (size s) ≡ false). let m : size s ≤ i = ltb-false i (size s) f in let j : ℕ = affected_first p (i - size s) t in
      let k : ℕ = size s + j in
      let in_t : nat_lt k (size s) ≡ false = le-ltb k (size s) (omega arith) in
      let back : k - size s ≡ j = omega arith in
      let h : (affected_first p j t ≡ j) × (affected_count p j t ≡ affected_count p (i - size s) t) = affected_again t (i - size s) (omega arith) in
      let at : affected_first p i (Fork q s t) ≡ k = first_right q s t i e f in (
        ap (λ n. affected_first p n (Fork q s t)) at ∙ first_right q s t k e in_t ∙ ap (λ n. size s + affected_first p n t) back ∙ ap (λ n. size s + n) h.0 ∙ sym at,
        ap (λ n. affected_count p n (Fork q s t)) at ∙ count_right q s t k e in_t ∙ ap (λ n. affected_count p n t) back ∙ h.1 ∙ sym (count_right q s t i e f),
      ))
      (cases_Bool (nat_lt i (size s))))
      (λ (e : nat_lt q p ≡ false). rw e (refl, refl)) (cases_Bool (nat_lt q p))
