-- The part of a subtrie that a key's insertion affects, by its places and by the key.
use Rattle.insert_cases.proofs.Common.{◌≡◌, ◌≢◌, ℕ, ◌+◌, ◌-◌, ◌<◌, Bool, true, false, nat_lt, refl, ap, sym, ◌∙◌, subst, arith, ⊎_elim, cases_Bool, lt-ltb, le-ltb, Entry, affected_first, affected_count, IsFresh, forked, grown, Place, Fork, size, subtrie_affected, subtrie_forked, subtrie_grown, Key, bit, spot, Subtrie, spot_below}
use Rattle.node_tries.proofs.Growth.{affected_fits}

-- the subtrie's first fork is not at the position
abbrev pub FirstForkIsNot : ℕ → Subtrie → Type 0
FirstForkIsNot p (Place e) = Unit {0}
FirstForkIsNot p (Fork q x y) = q ≢ p

module _ (p q : ℕ) (x y : Subtrie) (e : nat_lt q p ≡ true) where
  pub first_zero : (i : ℕ) → i < size x → affected_first p i (Fork q x y) ≡ affected_first p i x
  first_zero i h = let f : nat_lt i (size x) ≡ true = lt-ltb i (size x) h in rw (e, f) refl

  pub first_one : (i : ℕ) → affected_first p (size x + i) (Fork q x y) ≡ size x + affected_first p i y
  first_one i =
      let f : nat_lt (size x + i) (size x) ≡ false = le-ltb (size x + i) (size x) (omega arith) in
      let g : size x + i - size x ≡ i = omega arith in rw (e, f, g) refl

  count_zero : (i : ℕ) → i < size x → affected_count p i (Fork q x y) ≡ affected_count p i x
  count_zero i h = let f : nat_lt i (size x) ≡ true = lt-ltb i (size x) h in rw (e, f) refl

  count_one : (i : ℕ) → affected_count p (size x + i) (Fork q x y) ≡ affected_count p i y
  count_one i =
      let f : nat_lt (size x + i) (size x) ≡ false = le-ltb (size x + i) (size x) (omega arith) in
      let g : size x + i - size x ≡ i = omega arith in rw (e, f, g) refl

  fresh_zero : (i : ℕ) → i < size x → IsFresh p i x → IsFresh p i (Fork q x y)
  fresh_zero i h r = let f : nat_lt i (size x) ≡ true = lt-ltb i (size x) h in rw (e, f) r

  fresh_one : (i : ℕ) → IsFresh p i y → IsFresh p (size x + i) (Fork q x y)
  fresh_one i r =
      let f : nat_lt (size x + i) (size x) ≡ false = le-ltb (size x + i) (size x) (omega arith) in
      let g : size x + i - size x ≡ i = omega arith in rw (e, f, g) r

  grown_zero : (u : Bool) (d : Entry) (i : ℕ) → i < size x → grown p u d i (Fork q x y) ≡ Fork q (grown p u d i x) y
  grown_zero u d i h = let f : nat_lt i (size x) ≡ true = lt-ltb i (size x) h in rw (e, f) refl

  grown_one : (u : Bool) (d : Entry) (i : ℕ) → grown p u d (size x + i) (Fork q x y) ≡ Fork q x (grown p u d i y)
  grown_one u d i =
      let f : nat_lt (size x + i) (size x) ≡ false = le-ltb (size x + i) (size x) (omega arith) in
      let g : size x + i - size x ≡ i = omega arith in rw (e, f, g) refl

forked_same : (u : Bool) (p : ℕ) (d : Entry) (x : Subtrie) → forked p u d x ≡ subtrie_forked u p d x
forked_same true p d x = refl
forked_same false p d x = refl

-- the affected places are the part that the key's search leads to
pub record IsKeyPart (k : Key) (p : ℕ) (x : Subtrie) : Type 0 where
  pub count : affected_count p (spot k x) x ≡ size (subtrie_affected p k x)
  pub grows : (d : Entry) → grown p (bit k p) d (affected_first p (spot k x) x) x ≡ subtrie_grown p k d x
  pub fresh : FirstForkIsNot p (subtrie_affected p k x) → IsFresh p (affected_first p (spot k x) x) x

pub key_part : (k : Key) (p : ℕ) (x : Subtrie) → IsKeyPart k p x
key_part k p (Place d) = record { count = refl; grows = λ e. forked_same (bit k p) p e (Place d); fresh = λ n. tt }
key_part k p (Fork q x y) = ⊎_elim (λ e. ⊎_elim (λ b. at_one e b (key_part k p y)) (λ b. at_zero e b (key_part k p x)) (cases_Bool (bit k q))) whole (cases_Bool (nat_lt q p))
  where
    whole : nat_lt q p ≡ false → IsKeyPart k p (Fork q x y)
    whole e = record {
      count = rw e refl;
      grows = λ d. rw e (forked_same (bit k p) p d (Fork q x y));
      fresh = λ n. let m : FirstForkIsNot p (Fork q x y) = rw e at n in rw e m;
    }

    at_one : nat_lt q p ≡ true → bit k q ≡ true → IsKeyPart k p y → IsKeyPart k p (Fork q x y)
    at_one e b r =
        let i : spot k (Fork q x y) ≡ size x + spot k y = rw b refl in
        let f : affected_first p (spot k (Fork q x y)) (Fork q x y) ≡ size x + affected_first p (spot k y) y = ap (λ j. affected_first p j (Fork q x y)) i ∙ first_one p q x y e (spot k y) in
        let pa : subtrie_affected p k (Fork q x y) ≡ subtrie_affected p k y = rw (e, b) refl in
        record {
          count = ap (λ j. affected_count p j (Fork q x y)) i ∙ (count_one p q x y e (spot k y) ∙ (r.count ∙ sym (ap size pa)));
          grows = λ d.
              let pg : subtrie_grown p k d (Fork q x y) ≡ Fork q x (subtrie_grown p k d y) = rw (e, b) refl in
              ap (λ j. grown p (bit k p) d j (Fork q x y)) f ∙ (grown_one p q x y e (bit k p) d (affected_first p (spot k y) y) ∙ (ap (Fork q x) (r.grows d) ∙ sym pg));
          fresh = λ n. subst (λ j. IsFresh p j (Fork q x y)) (sym f) (fresh_one p q x y e (affected_first p (spot k y) y) (r.fresh (subst (FirstForkIsNot p) pa n)));
        }

    at_zero : nat_lt q p ≡ true → bit k q ≡ false → IsKeyPart k p x → IsKeyPart k p (Fork q x y)
    at_zero e b r =
        let i : spot k (Fork q x y) ≡ spot k x = rw b refl in
        let low : spot k x < size x = spot_below k x in
        let f : affected_first p (spot k (Fork q x y)) (Fork q x y) ≡ affected_first p (spot k x) x = ap (λ j. affected_first p j (Fork q x y)) i ∙ first_zero p q x y e (spot k x) low in
        let fits : affected_first p (spot k x) x < size x = let h = affected_fits p x (spot k x) in omega (arith, h.0, h.1) in
        let pa : subtrie_affected p k (Fork q x y) ≡ subtrie_affected p k x = rw (e, b) refl in
        record {
          count = ap (λ j. affected_count p j (Fork q x y)) i ∙ (count_zero p q x y e (spot k x) low ∙ (r.count ∙ sym (ap size pa)));
          grows = λ d.
              let pg : subtrie_grown p k d (Fork q x y) ≡ Fork q (subtrie_grown p k d x) y = rw (e, b) refl in
              ap (λ j. grown p (bit k p) d j (Fork q x y)) f ∙ (grown_zero p q x y e (bit k p) d (affected_first p (spot k x) x) fits ∙ (ap (λ z. Fork q z y) (r.grows d) ∙ sym pg));
          fresh = λ n. subst (λ j. IsFresh p j (Fork q x y)) (sym f) (fresh_zero p q x y e (affected_first p (spot k x) x) fits (r.fresh (subst (FirstForkIsNot p) pa n)));
        }
