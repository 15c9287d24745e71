-- The one place on the other side of the last fork on a path.
use Rattle.std.proofs.Common.{ap, arith, cond, false, get_or, length, nat_lt, refl, sym, true, ℕ, ⊎_elim, Option, None, Some, ◌++◌, ◌+◌, ◌-◌, ◌<◌, ◌∙◌, ◌≡◌, ◌≤◌}
use Rattle.std.proofs.lemmas.Bool.{cases_Bool, le-ltb, lt-ltb, ltb-false, ltb-true}
use Rattle.std.proofs.lemmas.List.{get_or-append-add, get_or_append_left}
use Rattle.std.proofs.lemmas.Option.{get_or_from_slice_get}
use Rattle.std.specs.List.{slice_get}
use Rattle.node_tries.proofs.Grafts.{size-replaced}
use Rattle.node_tries.proofs.Piece.{length-places}
use Rattle.node_tries.specs.Changes.{beside, collapsed, is_place, moved_by, replaced, sibling, without}
use Rattle.node_tries.specs.Piece.{Piece, Place, Fork, places, size}

abbrev pub found : ℕ → ℕ → Option (ℕ × ℕ)
found j q = Some (j, q)

pub same_place : (i j p q : ℕ) → found i p ≡ found j q → (i ≡ j) × (p ≡ q)
same_place i j p q e = (
  ap (λ (o : Option (ℕ × ℕ)). elim o as (λ _. ℕ) [ None ↦ 0 | Some g ↦ g.0 ]) e,
  ap (λ (o : Option (ℕ × ℕ)). elim o as (λ _. ℕ) [ None ↦ 0 | Some g ↦ g.1 ]) e,
)

-- what it was before it was moved
pub unmoved : (n j q : ℕ) (o : Option (ℕ × ℕ)) → moved_by n o ≡ found j q → (k : ℕ) × (o ≡ found k q) × (n + k ≡ j)
unmoved n j q None e = absurd cc
unmoved n j q (Some f) e =
    let s : (n + f.0 ≡ j) × (f.1 ≡ q) = same_place (n + f.0) j f.1 q e in
    (f.0, ap (λ r. found f.0 r) s.1, s.0)

module _ {A : Type 0} where
  -- it is another place
  pub beside_elsewhere : (i j q : ℕ) (P : Piece A) → i < size P → beside i P ≡ Some (j, q) → (j < size P) × (j ≡ i → ⊥)
  beside_elsewhere i j q (Place x) l e = absurd cc
  beside_elsewhere i j q (Fork p (Place x) (Place y)) l e = ⊎_elim
      (λ (f : nat_lt i 1 ≡ true). let m : i < 1 = ltb-true i 1 f in let s : (1 ≡ j) × (p ≡ q) = same_place 1 j p q (rw f at e) in (omega (arith, s.0), λ z. omega (arith, s.0)))
      (λ (f : nat_lt i 1 ≡ false). let m : 1 ≤ i = ltb-false i 1 f in let s : (0 ≡ j) × (p ≡ q) = same_place 0 j p q (rw f at e) in (omega (arith, s.0), λ z. omega (arith, s.0)))
      (cases_Bool (nat_lt i 1))
  beside_elsewhere i j q (Fork p (Place x) (Fork r c d)) l e = ⊎_elim
      (λ (f : nat_lt i 1 ≡ true). let g : None ≡ found j q = (rw f at e) in absurd cc)
      (λ (f : nat_lt i 1 ≡ false). let m : 1 ≤ i = ltb-false i 1 f in
      let u : (k : ℕ) × (beside (i - 1) (Fork r c d) ≡ found k q) × (1 + k ≡ j) = unmoved 1 j q (beside (i - 1) (Fork r c d)) (rw f at e) in
      let h : (u.0 < size (Fork r c d)) × (u.0 ≡ i - 1 → ⊥) = beside_elsewhere (i - 1) u.0 q (Fork r c d) (omega arith) u.1 in
      (omega (arith, h.0, u.2), λ z. h.1 (omega (arith, u.2))))
      (cases_Bool (nat_lt i 1))
  beside_elsewhere i j q (Fork p (Fork o a b) (Place y)) l e = ⊎_elim
      (λ (f : nat_lt i (size (Fork o a b)) ≡ true). let h : (j < size (Fork o a b)) × (j ≡ i → ⊥) = beside_elsewhere i j q (Fork o a b) (ltb-true i (size (Fork o a b)) f) (rw f at e) in (omega (arith, h.0), h.1))
      (λ (f : nat_lt i (size (Fork o a b)) ≡ false). let g : None ≡ found j q = (rw f at e) in absurd cc)
      (cases_Bool (nat_lt i (size (Fork o a b))))
  beside_elsewhere i j q (Fork p (Fork o a b) (Fork r c d)) l e = ⊎_elim
      (λ (f : nat_lt i (size (Fork o a b)) ≡ true). let h : (j < size (Fork o a b)) × (j ≡ i → ⊥) = beside_elsewhere i j q (Fork o a b) (ltb-true i (size (Fork o a b)) f) (rw f at e) in (omega (arith, h.0), h.1))
      (λ (f : nat_lt i (size (Fork o a b)) ≡ false). let n : ℕ = size (Fork o a b) in let m : n ≤ i = ltb-false i n f in
      let u : (k : ℕ) × (beside (i - n) (Fork r c d) ≡ found k q) × (n + k ≡ j) = unmoved n j q (beside (i - n) (Fork r c d)) (rw f at e) in
      let h : (u.0 < size (Fork r c d)) × (u.0 ≡ i - n → ⊥) = beside_elsewhere (i - n) u.0 q (Fork r c d) (omega arith) u.1 in
      (omega (arith, h.0, u.2), λ z. h.1 (omega (arith, u.2))))
      (cases_Bool (nat_lt i (size (Fork o a b))))

  left_place : (p : ℕ) (a b : Piece A) (j : ℕ) (x : A) → j < size a → get_or (places (Fork p a b)) j x ≡ x → get_or (places a) j x ≡ x
  left_place p a b j x l e = sym (get_or_append_left (places a) (places b) x j (rw (length-places a) l)) ∙ e

  right_place : (p : ℕ) (a b : Piece A) (n k j : ℕ) (x : A) → n ≡ size a → n + k ≡ j → get_or (places (Fork p a b)) j x ≡ x → get_or (places b) k x ≡ x
  right_place p a b n k j x s m e = let at : length (places a) + k ≡ j = omega (arith, length-places a) in
      sym (ap (λ i. get_or (places a ++ places b) i x) (sym at) ∙ get_or-append-add (places a) (places b) k x) ∙ e

  sibling_at : (i j q : ℕ) (x : A) (P : Piece A) → i < size P → beside i P ≡ Some (j, q) → get_or (places P) j x ≡ x → sibling i P ≡ Some (q, Place x)
  sibling_at i j q x (Place y) l e g = absurd cc
  sibling_at i j q x (Fork p (Place y) (Place z)) l e g = ⊎_elim
      (λ (f : nat_lt i 1 ≡ true). let s : (1 ≡ j) × (p ≡ q) = same_place 1 j p q (rw f at e) in
      let h : z ≡ x = ap (λ k. get_or (places (Fork p (Place y) (Place z))) k x) s.0 ∙ g in rw f (rw (s.1, h) refl))
      (λ (f : nat_lt i 1 ≡ false). let s : (0 ≡ j) × (p ≡ q) = same_place 0 j p q (rw f at e) in
      let h : y ≡ x = ap (λ k. get_or (places (Fork p (Place y) (Place z))) k x) s.0 ∙ g in rw f (rw (s.1, h) refl))
      (cases_Bool (nat_lt i 1))
  sibling_at i j q x (Fork p (Place y) (Fork r c d)) l e g = ⊎_elim
      (λ (f : nat_lt i 1 ≡ true). let n : None ≡ found j q = (rw f at e) in absurd cc)
      (λ (f : nat_lt i 1 ≡ false). let m : 1 ≤ i = ltb-false i 1 f in
      let u : (k : ℕ) × (beside (i - 1) (Fork r c d) ≡ found k q) × (1 + k ≡ j) = unmoved 1 j q (beside (i - 1) (Fork r c d)) (rw f at e) in
      rw f (sibling_at (i - 1) u.0 q x (Fork r c d) (omega arith) u.1 (right_place p (Place y) (Fork r c d) 1 u.0 j x refl u.2 g)))
      (cases_Bool (nat_lt i 1))
  sibling_at i j q x (Fork p (Fork o a b) (Place z)) l e g = ⊎_elim
      (λ (f : nat_lt i (size (Fork o a b)) ≡ true). let m : i < size (Fork o a b) = ltb-true i (size (Fork o a b)) f in
      let h : beside i (Fork o a b) ≡ found j q = (rw f at e) in
      rw f (sibling_at i j q x (Fork o a b) m h (left_place p (Fork o a b) (Place z) j x (beside_elsewhere i j q (Fork o a b) m h).0 g)))
      (λ (f : nat_lt i (size (Fork o a b)) ≡ false). let n : None ≡ found j q = (rw f at e) in absurd cc)
      (cases_Bool (nat_lt i (size (Fork o a b))))
  sibling_at i j q x (Fork p (Fork o a b) (Fork r c d)) l e g = ⊎_elim
      (λ (f : nat_lt i (size (Fork o a b)) ≡ true). let m : i < size (Fork o a b) = ltb-true i (size (Fork o a b)) f in
      let h : beside i (Fork o a b) ≡ found j q = (rw f at e) in
      rw f (sibling_at i j q x (Fork o a b) m h (left_place p (Fork o a b) (Fork r c d) j x (beside_elsewhere i j q (Fork o a b) m h).0 g)))
      (λ (f : nat_lt i (size (Fork o a b)) ≡ false). let n : ℕ = size (Fork o a b) in let m : n ≤ i = ltb-false i n f in
      let u : (k : ℕ) × (beside (i - n) (Fork r c d) ≡ found k q) × (n + k ≡ j) = unmoved n j q (beside (i - n) (Fork r c d)) (rw f at e) in
      rw f (sibling_at (i - n) u.0 q x (Fork r c d) (omega arith) u.1 (right_place p (Fork o a b) (Fork r c d) n u.0 j x refl u.2 g)))
      (cases_Bool (nat_lt i (size (Fork o a b))))

  -- what stands there is the whole other side
  pub sibling_beside : (i j q : ℕ) (x : A) (P : Piece A) → i < size P → beside i P ≡ Some (j, q) → slice_get (places P) j ≡ Some x → sibling i P ≡ Some (q, Place x)
  sibling_beside i j q x P l e g = sibling_at i j q x P l e (get_or_from_slice_get (places P) j x x g)

  is_place-replaced : (j : ℕ) (x : A) (P : Piece A) → is_place (replaced j x P) ≡ is_place P
  is_place-replaced j x (Place y) = refl
  is_place-replaced j x (Fork p a b) = elim (nat_lt j (size a)) as (λ v. is_place (cond v (Fork p (replaced j x a) b) (Fork p a (replaced (j - size a) x b))) ≡ false) [ true ↦ refl | false ↦ refl ]

  -- x there and place i taken out: x closes the fork between them
  pub without-beside : (i j q : ℕ) (x : A) (P : Piece A) → i < size P → beside i P ≡ Some (j, q) → without i (replaced j x P) ≡ collapsed i x P
  without-beside i j q x (Place y) l e = absurd cc
  without-beside i j q x (Fork p (Place y) (Place z)) l e = ⊎_elim
      (λ (f : nat_lt i 1 ≡ true). let s : (1 ≡ j) × (p ≡ q) = same_place 1 j p q (rw f at e) in rw (← s.0, f) refl)
      (λ (f : nat_lt i 1 ≡ false). let s : (0 ≡ j) × (p ≡ q) = same_place 0 j p q (rw f at e) in rw (← s.0, f) refl)
      (cases_Bool (nat_lt i 1))
  without-beside i j q x (Fork p (Place y) (Fork r c d)) l e = ⊎_elim
      (λ (f : nat_lt i 1 ≡ true). let n : None ≡ found j q = (rw f at e) in absurd cc)
      (λ (f : nat_lt i 1 ≡ false). let m : 1 ≤ i = ltb-false i 1 f in
      let u : (k : ℕ) × (beside (i - 1) (Fork r c d) ≡ found k q) × (1 + k ≡ j) = unmoved 1 j q (beside (i - 1) (Fork r c d)) (rw f at e) in
      let back : j - 1 ≡ u.0 = omega (arith, u.2) in
      rw (le-ltb j 1 (omega (arith, u.2)), back, f, is_place-replaced u.0 x (Fork r c d)) (ap (Fork p (Place y)) (without-beside (i - 1) u.0 q x (Fork r c d) (omega arith) u.1)))
      (cases_Bool (nat_lt i 1))
  without-beside i j q x (Fork p (Fork o a b) (Place z)) l e = ⊎_elim
      (λ (f : nat_lt i (size (Fork o a b)) ≡ true). let n : ℕ = size (Fork o a b) in let m : i < n = ltb-true i n f in
      let h : beside i (Fork o a b) ≡ found j q = (rw f at e) in
      rw (lt-ltb j n (beside_elsewhere i j q (Fork o a b) m h).0, size-replaced j x (Fork o a b), f, is_place-replaced j x (Fork o a b))
      (ap (λ s. Fork p s (Place z)) (without-beside i j q x (Fork o a b) m h)))
      (λ (f : nat_lt i (size (Fork o a b)) ≡ false). let n : None ≡ found j q = (rw f at e) in absurd cc)
      (cases_Bool (nat_lt i (size (Fork o a b))))
  without-beside i j q x (Fork p (Fork o a b) (Fork r c d)) l e = ⊎_elim
      (λ (f : nat_lt i (size (Fork o a b)) ≡ true). let n : ℕ = size (Fork o a b) in let m : i < n = ltb-true i n f in
      let h : beside i (Fork o a b) ≡ found j q = (rw f at e) in
      rw (lt-ltb j n (beside_elsewhere i j q (Fork o a b) m h).0, size-replaced j x (Fork o a b), f, is_place-replaced j x (Fork o a b))
      (ap (λ s. Fork p s (Fork r c d)) (without-beside i j q x (Fork o a b) m h)))
      (λ (f : nat_lt i (size (Fork o a b)) ≡ false). let n : ℕ = size (Fork o a b) in let m : n ≤ i = ltb-false i n f in
      let u : (k : ℕ) × (beside (i - n) (Fork r c d) ≡ found k q) × (n + k ≡ j) = unmoved n j q (beside (i - n) (Fork r c d)) (rw f at e) in
      let back : j - n ≡ u.0 = omega (arith, u.2) in
      rw (le-ltb j n (omega (arith, u.2)), back, f, is_place-replaced u.0 x (Fork r c d)) (ap (Fork p (Fork o a b)) (without-beside (i - n) u.0 q x (Fork r c d) (omega arith) u.1)))
      (cases_Bool (nat_lt i (size (Fork o a b))))
