-- Which positions a piece uses.
use Rattle.std.proofs.Common.{Bool, List, [], ap, arith, cond, eqb, false, length, map, refl, true, ℕ, ⊎_elim, ◌+◌, ◌<◌, ◌||◌, ◌∙◌, ◌∷◌, ◌≡◌, ◌≤◌}
use Rattle.std.proofs.lemmas.Bool.{and_from, and_parts, cases_Bool, eq-eqb, eqb-true, false≢true, ne_eqb, or_cases, or_left, or_right}
use Rattle.node_tries.proofs.Piece.{size_pos, length-paths, RisesFrom-weaker}
use Rattle.node_tries.proofs.Positions.Tests.{any-append, any-map}
use Rattle.node_tries.specs.Piece.{Piece, Place, Fork, size, paths, RisesFrom, UsesOnly, uses, used_columns}
use Rattle.node_tries.specs.Positions.{has, all, any, Ascends}

-- ---- counted
-- ---- a piece has more places than columns
count : (ℕ → Bool) → List ℕ → ℕ
count t [] = 0
count t (c ∷ cs) = cond (t c) 1 0 + count t cs

count_all : (t : ℕ → Bool) (cs : List ℕ) → all t cs ≡ true → count t cs ≡ length cs
unfolding count
count_all t [] h = refl
count_all t (c ∷ cs) h = let q : (t c ≡ true) × (all t cs ≡ true) = and_parts (t c) (all t cs) h in rw q.0 (omega (arith, count_all t cs q.1))

count_or : (t u : ℕ → Bool) (cs : List ℕ) → count (λ c. t c || u c) cs ≤ count t cs + count u cs
unfolding count
count_or t u [] = omega arith
count_or t u (c ∷ cs) = elim (t c) as (λ v. cond (v || u c) 1 0 + count (λ c. t c || u c) cs ≤ cond v 1 0 + count t cs + (cond (u c) 1 0 + count u cs))
    [ true ↦ omega (arith, count_or t u cs) | false ↦ omega (arith, count_or t u cs) ]

count_one_past : (p low : ℕ) (cs : List ℕ) → p < low → Ascends low cs → count (eqb p) cs ≡ 0
unfolding count
count_one_past p low [] l a = refl
count_one_past p low (c ∷ cs) l a = let k : low < c + 1 = a.0 in rw (ne_eqb p c (omega arith)) (omega (arith, count_one_past p (c + 1) cs (omega arith) a.1))

count_one : (p low : ℕ) (cs : List ℕ) → Ascends low cs → count (eqb p) cs ≤ 1
unfolding count
count_one p low [] a = omega arith
count_one p low (c ∷ cs) a = ⊎_elim
    (λ e. let same : p ≡ c = eqb-true p c e in rw e (omega (arith, count_one_past p (c + 1) cs (omega arith) a.1)))
    (λ e. rw e (omega (arith, count_one p (c + 1) cs a.1))) (cases_Bool (eqb p c))

any_true : (zs : List (List ℕ)) → 0 < length zs → any (λ z. true) zs ≡ true
any_true [] l = absurd (omega arith)
any_true (z ∷ zs) l = refl

module _ {A : Type 0} where
  count_uses : (P : Piece A) (low : ℕ) (cs : List ℕ) → Ascends low cs → count (uses P) cs + 1 ≤ size P
  unfolding count
  count_uses (Place x) low cs a = rw (none cs) (omega arith)
    where
      none : (cs : List ℕ) → count (λ c. false) cs ≡ 0
      none [] = refl
      none (c ∷ cs) = rw (none cs) refl
  count_uses (Fork p s t) low cs a = omega (arith, count_uses s low cs a, count_uses t low cs a, count_or (eqb p) (λ c. uses s c || uses t c) cs, count_or (uses s) (uses t) cs, count_one p low cs a)

  -- a piece has more places than positions in use
  pub fewer_columns : (P : Piece A) (columns : List ℕ) → Ascends 0 columns → all (uses P) columns ≡ true → length columns < size P
  fewer_columns P columns rise used = omega (arith, count_uses P 0 columns rise, count_all (uses P) columns used)

  -- ---- among columns
  pub UsesOnly-more : (cs ds : List ℕ) (P : Piece A) → ((c : ℕ) → has cs c ≡ true → has ds c ≡ true) → UsesOnly cs P → UsesOnly ds P
  UsesOnly-more cs ds (Place x) h u = tt
  UsesOnly-more cs ds (Fork p a b) h u = (h p u.0, UsesOnly-more cs ds a h u.1, UsesOnly-more cs ds b h u.2)

  pub later_columns : (c : ℕ) (cs : List ℕ) (P : Piece A) → UsesOnly (c ∷ cs) P → RisesFrom (c + 1) P → UsesOnly cs P
  later_columns c cs (Place x) u r = tt
  later_columns c cs (Fork p s t) u r =
      let k : c + 1 < p + 1 = r.0 in let h : (eqb c p || has cs p) ≡ true = u.0 in
      ((rw (ne_eqb c p (omega arith)) at h), later_columns c cs s u.1 (RisesFrom-weaker (c + 1) (p + 1) s (omega arith) r.1), later_columns c cs t u.2 (RisesFrom-weaker (c + 1) (p + 1) t (omega arith) r.2))

  pub uses_after : (low : ℕ) (P : Piece A) (q : ℕ) → RisesFrom low P → uses P q ≡ true → low ≤ q
  uses_after low (Place x) q r u = absurd (false≢true u)
  uses_after low (Fork p s t) q r u = let k : low < p + 1 = r.0 in ⊎_elim
      (λ e. let same : p ≡ q = eqb-true p q e in omega arith)
      (λ e. ⊎_elim (λ f. let m : p + 1 ≤ q = uses_after (p + 1) s q r.1 f in omega arith) (λ f. let m : p + 1 ≤ q = uses_after (p + 1) t q r.2 f in omega arith) (or_cases (uses s q) (uses t q) e))
      (or_cases (eqb p q) (uses s q || uses t q) u)

  pub any-uses : (P : Piece A) (c : ℕ) → any (λ z. has z c) (paths P) ≡ uses P c
  any-uses (Place x) c = refl
  any-uses (Fork p s t) c =
      any-append (λ z. has z c) (paths s) (map (λ path. p ∷ path) (paths t))
      ∙ (rw (any-uses s c, any-map (λ z. has z c) (λ path. p ∷ path) (paths t))
      (elim (eqb p c) as (λ v. (uses s c || any (λ y. v || has y c) (paths t)) ≡ (v || (uses s c || uses t c))) [
        | true ↦ rw (any_true (paths t) (rw (length-paths t) (size_pos t))) (elim (uses s c) as (λ v. (v || true) ≡ true) [ true ↦ refl | false ↦ refl ])
        | false ↦ ap (λ v. uses s c || v) (any-uses t c)
      ]))

pub has-used : {A : Type 0} (Q : Piece A) (cs : List ℕ) (p : ℕ) → has cs p ≡ true → uses Q p ≡ true → has (used_columns Q cs) p ≡ true
has-used Q [] p h u = h
has-used Q (c ∷ cs) p h u = ⊎_elim
    (λ (e : eqb c p ≡ true). let same : c ≡ p = eqb-true c p e in let v : uses Q c ≡ true = rw same u in rw v (or_left (eqb c p) (has (used_columns Q cs) p) e))
    (λ (e : has cs p ≡ true). elim (uses Q c) as (λ v. has (cond v (c ∷ used_columns Q cs) (used_columns Q cs)) p ≡ true)
    [ true ↦ or_right (eqb c p) (has (used_columns Q cs) p) (has-used Q cs p e u) | false ↦ has-used Q cs p e u ])
    (or_cases (eqb c p) (has cs p) h)

pub all-used : {A : Type 0} (Q : Piece A) (cs : List ℕ) → all (uses Q) (used_columns Q cs) ≡ true
all-used Q [] = refl
all-used Q (c ∷ cs) = ⊎_elim (λ e. rw e (and_from (uses Q c) (all (uses Q) (used_columns Q cs)) e (all-used Q cs))) (λ e. rw e (all-used Q cs)) (cases_Bool (uses Q c))

module _ {A : Type 0} where
  pub UsesOnly-used : (Q : Piece A) (cs : List ℕ) (P : Piece A) → ((p : ℕ) → uses P p ≡ true → uses Q p ≡ true) → UsesOnly cs P → UsesOnly (used_columns Q cs) P
  UsesOnly-used Q cs (Place x) h u = tt
  UsesOnly-used Q cs (Fork p s t) h u = (
    has-used Q cs p u.0 (h p (or_left (eqb p p) (uses s p || uses t p) (eq-eqb p p refl))),
    UsesOnly-used Q cs s (λ q v. h q (or_right (eqb p q) (uses s q || uses t q) (or_left (uses s q) (uses t q) v))) u.1,
    UsesOnly-used Q cs t (λ q v. h q (or_right (eqb p q) (uses s q || uses t q) (or_right (uses s q) (uses t q) v))) u.2,
  )
