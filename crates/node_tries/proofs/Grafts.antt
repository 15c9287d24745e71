-- A fork in the place of an entry, and an entry with a fork before it, in the two sides of a root fork.
use Rattle.std.proofs.Common.{Bool, ap, arith, false, nat_lt, refl, true, ℕ, ⊎_elim, ◌+◌, ◌-◌, ◌<◌, ◌∙◌, ◌≡◌, ◌≤◌}
use Rattle.std.proofs.lemmas.Bool.{cases_Bool, lt-ltb, le-ltb, ltb-true, ltb-false}
use Rattle.node_tries.proofs.Growth.{affected_fits}
use Rattle.node_tries.specs.Changes.{replaced}
use Rattle.node_tries.specs.Growth.{affected_first, affected_count, IsAffected, forked, grown}
use Rattle.node_tries.specs.Piece.{Piece, Place, Fork, size}
use Rattle.node_tries.specs.Grafts.{grafted, IsAbovePath}

-- the index of the old entry of a place that gets a fork with a new one
abbrev pub old_at : Bool → ℕ → ℕ
old_at true i = i
old_at false i = i + 1

module _ {A : Type 0} where
  pub size-replaced : (i : ℕ) (x : A) (P : Piece A) → size (replaced i x P) ≡ size P
  size-replaced i x (Place y) = refl
  size-replaced i x (Fork p a b) = ⊎_elim
      (λ e. rw e (ap (λ n. n + size b) (size-replaced i x a)))
      (λ e. rw e (ap (λ n. size a + n) (size-replaced (i - size a) x b)))
      (cases_Bool (nat_lt i (size a)))

  pub size-grown : (position : ℕ) (bit : Bool) (x : A) (i : ℕ) (P : Piece A) → size (grown position bit x i P) ≡ size P + 1
  size-grown position true x i (Place y) = refl
  size-grown position false x i (Place y) = refl
  size-grown position bit x i (Fork p a b) = ⊎_elim
      (λ e. rw e (⊎_elim
      (λ f. rw f (omega (arith, size-grown position bit x i a)))
      (λ f. rw f (omega (arith, size-grown position bit x (i - size a) b)))
      (cases_Bool (nat_lt i (size a)))))
      (λ e. rw e (whole bit))
      (cases_Bool (nat_lt p position))
    where
      whole : (bit : Bool) → size (forked position bit x (Fork p a b)) ≡ size a + size b + 1
      whole true = refl
      whole false = omega arith

  -- the affected places of a root fork before the position are those of the side that has them
  pub affected_one : (p : ℕ) (s t : Piece A) (position first last : ℕ) → p < position → size s ≤ first →
      IsAffected (Fork p s t) position first last → IsAffected t position (first - size s) (last - size s)
  affected_one p s t position first last l f a =
      let e : nat_lt p position ≡ true = lt-ltb p position l in
      let g : nat_lt first (size s) ≡ false = le-ltb first (size s) f in
      let from : size s + affected_first position (first - size s) t ≡ first = rw (e, g) at a.from in
      let upto : affected_count position (first - size s) t + first ≡ last + 1 = rw (e, g) at a.upto in
      let some : 0 < affected_count position (first - size s) t = (affected_fits position t (first - size s)).1 in
      record { from = omega arith; upto = omega arith; fresh = rw (e, g) at a.fresh }

  -- the last affected place is none before the first
  pub affected_rises : (P : Piece A) (position first last : ℕ) → IsAffected P position first last → first ≤ last
  affected_rises P position first last a = omega (arith, a.upto, (affected_fits position P first).1)

  -- a place alone is affected where the position is above its path
  pub affected_alone : (position i : ℕ) (x : A) (P : Piece A) → i < size P → IsAbovePath position i P → IsAffected (replaced i x P) position i i
  affected_alone position i x (Place y) h a = record { from = omega arith; upto = omega arith; fresh = tt }
  affected_alone position i x (Fork p s t) h a = ⊎_elim
      (λ e. let g : nat_lt i (size (replaced i x s)) ≡ true = rw (size-replaced i x s) e in
      let z = affected_alone position i x s (ltb-true i (size s) e) (rw e at a.1) in
      rw e (record { from = rw (l, g) z.from; upto = rw (l, g) z.upto; fresh = rw (l, g) z.fresh }))
      (λ e. let above : size s ≤ i = ltb-false i (size s) e in
      let z = affected_alone position (i - size s) x t (omega arith) (rw e at a.1) in
      rw e (record {
        from = rw (l, e) (omega (arith, z.from));
        upto = rw (l, e) (omega (arith, z.upto));
        fresh = rw (l, e) z.fresh;
      }))
      (cases_Bool (nat_lt i (size s)))
    where
      l : nat_lt p position ≡ true
      l = lt-ltb p position a.0

  -- a new entry beside place i, and then another thing at place i: a fork there
  pub replaced-grown : (position : ℕ) (bit : Bool) (x y z : A) (i : ℕ) (P : Piece A) → i < size P → IsAbovePath position i P →
      replaced (old_at bit i) y (grown position bit x i (replaced i z P)) ≡ grafted i (forked position bit x (Place y)) P
  replaced-grown position true x y z i (Place w) h a = let e : i ≡ 0 = omega arith in rw e refl
  replaced-grown position false x y z i (Place w) h a = let e : i ≡ 0 = omega arith in rw e refl
  replaced-grown position bit x y z i (Fork p s t) h a = ⊎_elim
      (λ e. let below : i < size s = ltb-true i (size s) e in
      let g : nat_lt i (size (replaced i z s)) ≡ true = rw (size-replaced i z s) e in
      let big : size (grown position bit x i (replaced i z s)) ≡ size s + 1 = size-grown position bit x i (replaced i z s) ∙ ap (λ n. n + 1) (size-replaced i z s) in
      let f : nat_lt (old_at bit i) (size (grown position bit x i (replaced i z s))) ≡ true = rw big (lt-ltb (old_at bit i) (size s + 1) (old_low bit i (size s) below)) in
      rw (e, l, g, f) (ap (λ q. Fork p q t) (replaced-grown position bit x y z i s below (rw e at a.1))))
      (λ e. let above : size s ≤ i = ltb-false i (size s) e in
      let f : nat_lt (old_at bit i) (size s) ≡ false = le-ltb (old_at bit i) (size s) (old_high bit i (size s) above) in
      rw (e, l, e, f, old_less bit i (size s) above) (ap (λ q. Fork p s q) (replaced-grown position bit x y z (i - size s) t (omega arith) (rw e at a.1))))
      (cases_Bool (nat_lt i (size s)))
    where
      l : nat_lt p position ≡ true
      l = lt-ltb p position a.0

      old_low : (bit : Bool) (i n : ℕ) → i < n → old_at bit i < n + 1
      old_low true i n h = omega arith
      old_low false i n h = omega arith

      old_high : (bit : Bool) (i n : ℕ) → n ≤ i → n ≤ old_at bit i
      old_high true i n h = omega arith
      old_high false i n h = omega arith

      old_less : (bit : Bool) (i n : ℕ) → n ≤ i → old_at bit i - n ≡ old_at bit (i - n)
      old_less true i n h = refl
      old_less false i n h = omega arith
