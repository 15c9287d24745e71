-- The forks between neighbouring places, and the place beside one told by them.
use Rattle.std.proofs.Common.{Bool, ap, arith, cond, false, nat_lt, refl, suc, sym, true, zero, ℕ, ⊎_elim, Option, None, Some, ◌+◌, ◌-◌, ◌<◌, ◌∙◌, ◌≡◌, ◌≤◌}
use Rattle.std.specs.Prelude.{nat_eq}
use Rattle.std.proofs.lemmas.Bool.{cases_Bool, cases_eq, cases_lt, eq-eqb, false≢true, le-ltb, lt-ltb, ltb-false, ltb-true, ne_eqb}
use Rattle.node_tries.proofs.Changes.Beside.{found}
use Rattle.node_tries.proofs.Piece.{RisesFrom-weaker, size_pos}
use Rattle.node_tries.proofs.Changes.{size_alone, size_forked}
use Rattle.node_tries.specs.Changes.{beside, is_place, moved_by}
use Rattle.node_tries.specs.Piece.{Piece, Place, Fork, size, RisesFrom}

-- One more than the position of the fork between place k and the one before, and 0 where no such fork is
abbrev pub seam : {A : Type 0} → ℕ → Piece A → ℕ
seam k (Place x) = 0
seam k (Fork p a b) = cond (nat_lt k (size a)) (seam k a) (cond (nat_eq k (size a)) (p + 1) (seam (k - size a) b))

-- the place beside i, told by the forks before i - 1, before i, after i and after i + 1
abbrev pub beside_by : ℕ → (before own after second : ℕ) → Option (ℕ × ℕ)
beside_by i before own after second =
    cond (nat_lt own after) (cond (nat_lt after second) None (found (i + 1) (after - 1))) (cond (nat_lt own before) None (found (i - 1) (own - 1)))

-- what counts of them
by_same : (i before own after second before' own' after' second' : ℕ) → nat_lt own after ≡ nat_lt own' after' →
    (nat_lt own after ≡ true → (after ≡ after') × (nat_lt after second ≡ nat_lt after' second')) →
    (nat_lt own after ≡ false → (own ≡ own') × (nat_lt own before ≡ nat_lt own' before')) →
    beside_by i before own after second ≡ beside_by i before' own' after' second'
by_same i before own after second before' own' after' second' same up down = ⊎_elim
    (λ (e : nat_lt own after ≡ true). let f : nat_lt own' after' ≡ true = sym same ∙ e in
    rw (e, f, (up e).1) (ap (λ n. cond (nat_lt after' second') None (found (i + 1) (n - 1))) (up e).0))
    (λ (e : nat_lt own after ≡ false). let f : nat_lt own' after' ≡ false = sym same ∙ e in
    rw (e, f, (down e).1) (ap (λ n. cond (nat_lt own' before') None (found (i - 1) (n - 1))) (down e).0))
    (cases_Bool (nat_lt own after))

-- from a place that was moved
by_moved : (n i before own after second : ℕ) → (i ≡ 0 → nat_lt own after ≡ true) → moved_by n (beside_by i before own after second) ≡ beside_by (n + i) before own after second
by_moved n i before own after second first = ⊎_elim
    (λ (e : nat_lt own after ≡ true). let at : n + (i + 1) ≡ n + i + 1 = omega arith in
    rw e (elim (nat_lt after second) as (λ v. moved_by n (cond v None (found (i + 1) (after - 1))) ≡ cond v None (found (n + i + 1) (after - 1))) [ true ↦ refl | false ↦ ap (λ k. found k (after - 1)) at ]))
    (λ (e : nat_lt own after ≡ false). let at : n + (i - 1) ≡ n + i - 1 = ⊎_elim (λ (z : i ≡ 0). absurd (false≢true (sym e ∙ first z))) (λ z. omega arith) (cases_eq i 0) in
    rw e (elim (nat_lt own before) as (λ v. moved_by n (cond v None (found (i - 1) (own - 1))) ≡ cond v None (found (n + i - 1) (own - 1))) [ true ↦ refl | false ↦ ap (λ k. found k (own - 1)) at ]))
    (cases_Bool (nat_lt own after))

module _ {A : Type 0} where
  pub seam_left : (k p : ℕ) (a b : Piece A) → k < size a → seam k (Fork p a b) ≡ seam k a
  seam_left k p a b l = rw (lt-ltb k (size a) l) refl

  pub seam_between : (p : ℕ) (a b : Piece A) → seam (size a) (Fork p a b) ≡ p + 1
  seam_between p a b = rw (le-ltb (size a) (size a) (omega arith), eq-eqb (size a) (size a) refl) refl

  pub seam_right : (k j p : ℕ) (a b : Piece A) → k ≡ size a + j → 0 < j → seam k (Fork p a b) ≡ seam j b
  seam_right k j p a b e l = let back : k - size a ≡ j = omega arith in
      rw (le-ltb k (size a) (omega arith), ne_eqb k (size a) (omega arith), back) refl

  -- before the first place and behind the last there is none
  pub seam_first : (P : Piece A) → seam 0 P ≡ 0
  seam_first (Place x) = refl
  seam_first (Fork p a b) = seam_left 0 p a b (size_pos a) ∙ seam_first a

  pub seam_past : (k : ℕ) (P : Piece A) → size P ≤ k → seam k P ≡ 0
  seam_past k (Place x) l = refl
  seam_past k (Fork p a b) l = seam_right k (k - size a) p a b (omega arith) (omega (arith, size_pos b)) ∙ seam_past (k - size a) b (omega arith)

  -- a fork is at the piece's first position or after it
  pub seam_above : (low k : ℕ) (P : Piece A) → RisesFrom low P → 0 < k → k < size P → low < seam k P
  seam_above low k (Place x) r l m = absurd (omega arith)
  seam_above low k (Fork p a b) r l m = let f : low < p + 1 = r.0 in ⊎_elim
      (λ (n : k < size a). omega (arith, seam_left k p a b n, seam_above (p + 1) k a r.1 l n))
      (λ (n : size a ≤ k). ⊎_elim
      (λ (z : k ≡ size a). omega (arith, ap (λ i. seam i (Fork p a b)) z, seam_between p a b))
      (λ z. omega (arith, seam_right k (k - size a) p a b (omega arith) (omega arith), seam_above (p + 1) (k - size a) b r.2 (omega arith) (omega arith)))
      (cases_eq k (size a)))
      (cases_lt k (size a))

-- each of the four cases
module _ (i before own after second : ℕ) where
  pub by_next : own < after → second ≤ after → beside_by i before own after second ≡ found (i + 1) (after - 1)
  by_next l m = rw (lt-ltb own after l, le-ltb after second m) refl

  pub by_several_next : own < after → after < second → beside_by i before own after second ≡ None
  by_several_next l m = rw (lt-ltb own after l, lt-ltb after second m) refl

  pub by_before : after ≤ own → before ≤ own → beside_by i before own after second ≡ found (i - 1) (own - 1)
  by_before l m = rw (le-ltb own after l, le-ltb own before m) refl

  pub by_several_before : after ≤ own → own < before → beside_by i before own after second ≡ None
  by_several_before l m = rw (le-ltb own after l, lt-ltb own before m) refl

module _ {A : Type 0} where
  abbrev told : ℕ → Piece A → Option (ℕ × ℕ)
  told i P = beside_by i (seam (i - 1) P) (seam i P) (seam (i + 1) P) (seam (i + 2) P)

  -- place i on the first side, which has several
  told_left : (p i : ℕ) (a b : Piece A) → RisesFrom (p + 1) a → 2 ≤ size a → i < size a → told i a ≡ told i (Fork p a b)
  told_left p i a b r several l =
      let P : Piece A = Fork p a b in
      let own : seam i P ≡ seam i a = seam_left i p a b l in
      ⊎_elim
      (λ (m : i + 1 < size a). let after : seam (i + 1) P ≡ seam (i + 1) a = seam_left (i + 1) p a b m in
      by_same i (seam (i - 1) a) (seam i a) (seam (i + 1) a) (seam (i + 2) a) (seam (i - 1) P) (seam i P) (seam (i + 1) P) (seam (i + 2) P)
      (rw (own, after) refl)
      (λ e. (
        sym after,
        rw after (⊎_elim
            (λ (n : i + 2 < size a). rw (seam_left (i + 2) p a b n) refl)
            (λ (n : size a ≤ i + 2). let z : i + 2 ≡ size a = omega arith in let high : p + 1 < seam (i + 1) a = seam_above (p + 1) (i + 1) a r (omega arith) m in
            le-ltb (seam (i + 1) a) (seam (i + 2) a) (omega (arith, seam_past (i + 2) a n)) ∙ sym (le-ltb (seam (i + 1) a) (seam (i + 2) P) (omega (arith, ap (λ k. seam k P) z, seam_between p a b))))
            (cases_lt (i + 2) (size a))),
      ))
      (λ e. (sym own, rw (own, seam_left (i - 1) p a b (omega arith)) refl)))
      (λ (m : size a ≤ i + 1). let z : i + 1 ≡ size a = omega arith in
      let high : p + 1 < seam i a = seam_above (p + 1) i a r (omega arith) l in
      let none : nat_lt (seam i a) (seam (i + 1) a) ≡ false = le-ltb (seam i a) (seam (i + 1) a) (omega (arith, seam_past (i + 1) a m)) in
      by_same i (seam (i - 1) a) (seam i a) (seam (i + 1) a) (seam (i + 2) a) (seam (i - 1) P) (seam i P) (seam (i + 1) P) (seam (i + 2) P)
      (none ∙ sym (le-ltb (seam i P) (seam (i + 1) P) (omega (arith, own, ap (λ k. seam k P) z, seam_between p a b))))
      (λ e. absurd (false≢true (sym none ∙ e)))
      (λ e. (sym own, rw (own, seam_left (i - 1) p a b (omega arith)) refl)))
      (cases_lt (i + 1) (size a))

  -- and on the other one
  told_right : (p i j : ℕ) (a b : Piece A) → RisesFrom (p + 1) b → 2 ≤ size b → j < size b → i ≡ size a + j → moved_by (size a) (told j b) ≡ told i (Fork p a b)
  told_right p i j a b r several l e =
      let P : Piece A = Fork p a b in
      let n : ℕ = size a in
      let after : seam (i + 1) P ≡ seam (j + 1) b = seam_right (i + 1) (j + 1) p a b (omega arith) (omega arith) in
      let second : seam (i + 2) P ≡ seam (j + 2) b = seam_right (i + 2) (j + 2) p a b (omega arith) (omega arith) in
      let first_rises : j ≡ 0 → p + 1 < seam (j + 1) b = λ z. seam_above (p + 1) (j + 1) b r (omega arith) (omega arith) in
      let from_first : j ≡ 0 → seam j b ≡ 0 = λ z. ap (λ k. seam k b) z ∙ seam_first b in
      let at_first : j ≡ 0 → nat_lt (seam j b) (seam (j + 1) b) ≡ true = λ z. lt-ltb (seam j b) (seam (j + 1) b) (omega (arith, from_first z, first_rises z)) in
      let own_first : j ≡ 0 → seam i P ≡ p + 1 = λ z. let k : i ≡ size a = omega arith in ap (λ k. seam k P) k ∙ seam_between p a b in
      let own_later : 0 < j → seam i P ≡ seam j b = λ m. seam_right i j p a b e m in
      let whole : told i P ≡ beside_by (n + j) (seam (i - 1) P) (seam i P) (seam (i + 1) P) (seam (i + 2) P) = ap (λ k. beside_by k (seam (i - 1) P) (seam i P) (seam (i + 1) P) (seam (i + 2) P)) e in
      by_moved n j (seam (j - 1) b) (seam j b) (seam (j + 1) b) (seam (j + 2) b) at_first
      ∙ by_same (n + j) (seam (j - 1) b) (seam j b) (seam (j + 1) b) (seam (j + 2) b) (seam (i - 1) P) (seam i P) (seam (i + 1) P) (seam (i + 2) P)
      (rw after (⊎_elim
      (λ (z : j ≡ 0). at_first z ∙ sym (lt-ltb (seam i P) (seam (j + 1) b) (omega (arith, own_first z, first_rises z))))
      (λ (z : j ≡ 0 → ⊥). rw (own_later (omega arith)) refl) (cases_eq j 0)))
      (λ f. (sym after, rw (after, second) refl))
      (λ f. ⊎_elim
      (λ (z : j ≡ 0). absurd (false≢true (sym f ∙ at_first z)))
      (λ (z : j ≡ 0 → ⊥). let own : seam i P ≡ seam j b = own_later (omega arith) in (
        sym own,
        rw own (⊎_elim
            (λ (o : j ≡ 1). let back : i - 1 ≡ size a = omega arith in let zero : j - 1 ≡ 0 = omega arith in
            let high : p + 1 < seam j b = seam_above (p + 1) j b r (omega arith) l in
            le-ltb (seam j b) (seam (j - 1) b) (omega (arith, ap (λ k. seam k b) zero, seam_first b)) ∙ sym (le-ltb (seam j b) (seam (i - 1) P) (omega (arith, ap (λ k. seam k P) back, seam_between p a b))))
            (λ (o : j ≡ 1 → ⊥). rw (seam_right (i - 1) (j - 1) p a b (omega arith) (omega arith)) refl)
            (cases_eq j 1)),
      ))
      (cases_eq j 0))
      ∙ sym whole

  -- a side that place i has alone
  told_alone_left : (p i : ℕ) (x : A) (b : Piece A) → RisesFrom (p + 1) b → i < 1 → cond (is_place b) (found 1 p) None ≡ told i (Fork p (Place x) b)
  told_alone_left p zero x (Place y) r l = let e : p ≡ p + 1 - 1 = omega arith in ap (found 1) e ∙ sym (by_next 0 0 0 (p + 1) 0 (omega arith) (omega arith))
  told_alone_left p zero x (Fork q c d) r l =
      sym (by_several_next 0 0 0 (p + 1) (seam 1 (Fork q c d)) (omega arith) (seam_above (p + 1) 1 (Fork q c d) r (omega arith) (omega (arith, size_pos c, size_pos d))))
  told_alone_left p (suc i) x b r l = absurd (omega arith)

  told_alone_right : (p i : ℕ) (a : Piece A) (y : A) → RisesFrom (p + 1) a → i ≡ size a → cond (is_place a) (found 0 p) None ≡ told i (Fork p a (Place y))
  told_alone_right p i (Place x) y r e = let f : p ≡ p + 1 - 1 = omega arith in rw e (ap (found 0) f ∙ sym (by_before 1 0 (p + 1) 0 0 (omega arith) (omega arith)))
  told_alone_right p i (Fork o a b) y r e =
      let P : Piece A = Fork p (Fork o a b) (Place y) in
      let own : seam i P ≡ p + 1 = ap (λ k. seam k P) e ∙ seam_between p (Fork o a b) (Place y) in
      let several : 2 ≤ size (Fork o a b) = omega (arith, size_pos a, size_pos b) in
      sym (by_several_before i (seam (i - 1) P) (seam i P) (seam (i + 1) P) (seam (i + 2) P) (omega (arith, own, seam_past (i + 1) P (omega arith)))
      (omega (arith, own, seam_left (i - 1) p (Fork o a b) (Place y) (omega arith), seam_above (p + 1) (i - 1) (Fork o a b) r (omega arith) (omega arith))))

  on_left : (p i : ℕ) (a b : Piece A) → i < size a → beside i (Fork p a b) ≡ cond (is_place a) (cond (is_place b) (found 1 p) None) (beside i a)
  on_left p i a b l = rw (lt-ltb i (size a) l) refl

  on_right : (p i : ℕ) (a b : Piece A) → size a ≤ i → beside i (Fork p a b) ≡ cond (is_place b) (cond (is_place a) (found 0 p) None) (moved_by (size a) (beside (i - size a) b))
  on_right p i a b l = rw (le-ltb i (size a) l) refl

  -- THE PLACE BESIDE ONE, told by four forks
  pub beside_seams : (low i : ℕ) (P : Piece A) → RisesFrom low P → is_place P ≡ false → i < size P →
      beside i P ≡ beside_by i (seam (i - 1) P) (seam i P) (seam (i + 1) P) (seam (i + 2) P)
  beside_seams low i (Place x) r more l = absurd (false≢true (sym more))
  beside_seams low i (Fork p (Place x) (Place y)) r more l = ⊎_elim
      (λ (m : i < 1). on_left p i (Place x) (Place y) m ∙ told_alone_left p i x (Place y) tt m)
      (λ (m : 1 ≤ i). on_right p i (Place x) (Place y) m ∙ told_alone_right p i (Place x) y tt (omega arith))
      (cases_lt i 1)
  beside_seams low i (Fork p (Place x) (Fork q c d)) r more l = ⊎_elim
      (λ (m : i < 1). on_left p i (Place x) (Fork q c d) m ∙ told_alone_left p i x (Fork q c d) r.2 m)
      (λ (m : 1 ≤ i). on_right p i (Place x) (Fork q c d) m ∙ ap (moved_by 1) (beside_seams (p + 1) (i - 1) (Fork q c d) r.2 refl (omega arith))
      ∙ told_right p i (i - 1) (Place x) (Fork q c d) r.2 (omega (arith, size_pos c, size_pos d)) (omega arith) (omega arith))
      (cases_lt i 1)
  beside_seams low i (Fork p (Fork o a b) (Place y)) r more l = ⊎_elim
      (λ (m : i < size (Fork o a b)). on_left p i (Fork o a b) (Place y) m ∙ beside_seams (p + 1) i (Fork o a b) r.1 refl m ∙ told_left p i (Fork o a b) (Place y) r.1 (omega (arith, size_pos a, size_pos b)) m)
      (λ (m : size (Fork o a b) ≤ i). on_right p i (Fork o a b) (Place y) m ∙ told_alone_right p i (Fork o a b) y r.1 (omega arith))
      (cases_lt i (size (Fork o a b)))
  beside_seams low i (Fork p (Fork o a b) (Fork q c d)) r more l = ⊎_elim
      (λ (m : i < size (Fork o a b)). on_left p i (Fork o a b) (Fork q c d) m ∙ beside_seams (p + 1) i (Fork o a b) r.1 refl m
      ∙ told_left p i (Fork o a b) (Fork q c d) r.1 (omega (arith, size_pos a, size_pos b)) m)
      (λ (m : size (Fork o a b) ≤ i). on_right p i (Fork o a b) (Fork q c d) m ∙ ap (moved_by (size (Fork o a b))) (beside_seams (p + 1) (i - size (Fork o a b)) (Fork q c d) r.2 refl (omega arith))
      ∙ told_right p i (i - size (Fork o a b)) (Fork o a b) (Fork q c d) r.2 (omega (arith, size_pos c, size_pos d)) (omega arith) (omega arith))
      (cases_lt i (size (Fork o a b)))
