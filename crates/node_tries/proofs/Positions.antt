-- Positions in rising lists.
pub mod Tests
use Rattle.std.proofs.Common.{Bool, List, [], ap, arith, cond, drop, eqb, false, get_or, length, map, nat_lt, refl, replicate, slice_index, suc, sym, take, true, zero, ℕ, ⊎_elim, ◌++◌, ◌+◌, ◌<◌, ◌||◌, ◌∙◌, ◌∷◌, ◌≡◌, ◌≢◌, ◌≤◌}
use Rattle.std.proofs.lemmas.Bool.{cases_Bool, eq-eqb, eqb-true, false_from_ne_true, false≢true, le-ltb, lt-ltb, ltb-false, ltb-true, ne_eqb, or_cases, or_left, or_parts, or_right}
use Rattle.node_tries.proofs.Positions.Tests.{same_bools}
use Rattle.node_tries.specs.Kept.{kept}
use Rattle.node_tries.specs.Positions.{has, Ascends, AllBelow, front_below, with_position}

-- j of the positions are below this one, and the next is not
pub record IsPlaceOf (columns : List ℕ) (position j : ℕ) : Type 0 where
  pub in_range : j ≤ length columns
  pub below : (k : ℕ) → k < j → slice_index columns k < position
  pub above : j < length columns → position ≤ slice_index columns j

pub has-bigger : (xs ys : List ℕ) (p c : ℕ) → has (xs ++ ys) c ≡ true → has (xs ++ p ∷ ys) c ≡ true
has-bigger [] ys p c h = or_right (eqb p c) (has ys c) h
has-bigger (x ∷ xs) ys p c h = elim (eqb x c) as (λ v. (v || has (xs ++ ys) c) ≡ true → (v || has (xs ++ p ∷ ys) c) ≡ true) [ true ↦ (λ g. refl) | false ↦ has-bigger xs ys p c ] h

pub has-here : (xs ys : List ℕ) (p : ℕ) → has (xs ++ p ∷ ys) p ≡ true
has-here [] ys p = or_left (eqb p p) (has ys p) (eq-eqb p p refl)
has-here (x ∷ xs) ys p = or_right (eqb x p) (has (xs ++ p ∷ ys) p) (has-here xs ys p)

pub has-later : (low c : ℕ) (path cs : List ℕ) → c < low → Ascends low cs → map (has (c ∷ path)) cs ≡ map (has path) cs
has-later low c path [] l a = refl
has-later low c path (e ∷ cs) l a = let k : low < e + 1 = a.0 in rw (ne_eqb c e (omega arith), has-later (e + 1) c path cs (omega arith) a.1) refl

pub has_after : (low p : ℕ) (cs : List ℕ) → Ascends low cs → has cs p ≡ true → low ≤ p
has_after low p [] a h = absurd (false≢true h)
has_after low p (c ∷ cs) a h = let k : low < c + 1 = a.0 in
    ⊎_elim (λ e. let same : c ≡ p = eqb-true c p e in omega arith) (λ e. let m : c + 1 ≤ p = has_after (c + 1) p cs a.1 e in omega arith) (or_cases (eqb c p) (has cs p) h)

pub has-with_position : (p : ℕ) (path : List ℕ) (c : ℕ) → has (with_position p path) c ≡ (has path c || has (p ∷ []) c)
has-with_position p [] c = refl
has-with_position p (q ∷ qs) c = elim (nat_lt q p) as (λ v. has (cond v (q ∷ with_position p qs) (p ∷ q ∷ qs)) c ≡ ((eqb q c || has qs c) || has (p ∷ []) c))
    [ true ↦ rw (has-with_position p qs c) (three (eqb q c) (has qs c) (has (p ∷ []) c)) | false ↦ turned (eqb p c) (eqb q c || has qs c) ]
  where
    three : (x y z : Bool) → (x || (y || z)) ≡ ((x || y) || z)
    three true y z = refl
    three false y z = refl

    turned : (x y : Bool) → (x || y) ≡ (y || (x || false))
    turned true true = refl
    turned true false = refl
    turned false true = refl
    turned false false = refl

-- ---- order
pub Ascends-weaker : (m n : ℕ) (cs : List ℕ) → m ≤ n → Ascends n cs → Ascends m cs
Ascends-weaker m n [] l a = tt
Ascends-weaker m n (c ∷ cs) l a = (let k : n < c + 1 = a.0 in omega arith, a.1)

pub Ascends-front : (low : ℕ) (xs ys : List ℕ) → Ascends low (xs ++ ys) → Ascends low xs
Ascends-front low [] ys a = tt
Ascends-front low (x ∷ xs) ys a = (a.0, Ascends-front (x + 1) xs ys a.1)

pub Ascends-kept : (low : ℕ) (us : List Bool) (cs : List ℕ) → Ascends low cs → Ascends low (kept us cs)
Ascends-kept low [] cs a = tt
Ascends-kept low (u ∷ us) [] a = tt
Ascends-kept low (true ∷ us) (c ∷ cs) a = (a.0, Ascends-kept (c + 1) us cs a.1)
Ascends-kept low (false ∷ us) (c ∷ cs) a = Ascends-weaker low (c + 1) (kept us cs) (let k : low < c + 1 = a.0 in omega arith) (Ascends-kept (c + 1) us cs a.1)

pub AllBelow-kept : (m : ℕ) (us : List Bool) (cs : List ℕ) → AllBelow m cs → AllBelow m (kept us cs)
AllBelow-kept m [] cs b = tt
AllBelow-kept m (u ∷ us) [] b = tt
AllBelow-kept m (true ∷ us) (c ∷ cs) b = (b.0, AllBelow-kept m us cs b.1)
AllBelow-kept m (false ∷ us) (c ∷ cs) b = AllBelow-kept m us cs b.1

pub below_front : (p n : ℕ) (cs : List ℕ) → n ≤ length cs → ((k : ℕ) → k < n → get_or cs k 0 < p) → AllBelow p (take n cs)
below_front p zero cs l h = tt
below_front p (suc n) [] l h = absurd (omega arith)
below_front p (suc n) (c ∷ cs) l h = (h 0 (omega arith), below_front p n cs (omega arith) (λ k m. h (suc k) (omega arith)))

pub ascends_back : (low p n : ℕ) (cs : List ℕ) → n ≤ length cs → Ascends low cs → (n < length cs → p ≤ get_or cs n 0) → Ascends p (drop n cs)
ascends_back low p zero [] l a h = tt
ascends_back low p zero (c ∷ cs) l a h = (let k : p ≤ c = h (omega arith) in omega arith, a.1)
ascends_back low p (suc n) [] l a h = absurd (omega arith)
ascends_back low p (suc n) (c ∷ cs) l a h = ascends_back (c + 1) p n cs (omega arith) a.1 (λ m. h (omega arith))

-- ---- the place of a position
module _ (p : ℕ) where
  pub front_below-place : (cs : List ℕ) → IsPlaceOf cs p (front_below p cs)
  front_below-place [] = record { in_range = omega arith; below = λ k l. absurd (omega arith); above = λ l. absurd (omega arith) }
  front_below-place (c ∷ cs) = ⊎_elim
      (λ (e : nat_lt c p ≡ true). let h : IsPlaceOf cs p (front_below p cs) = front_below-place cs in let r : front_below p cs ≤ length cs = h.in_range in
      rw e (record { in_range = omega arith; below = λ k l. first k (ltb-true c p e) h.below l; above = λ l. h.above (omega arith) }))
      (λ (e : nat_lt c p ≡ false). rw e (record { in_range = omega arith; below = λ k l. absurd (omega arith); above = λ l. ltb-false c p e }))
      (cases_Bool (nat_lt c p))
    where
      first : (k : ℕ) → c < p → ((i : ℕ) → i < front_below p cs → get_or cs i 0 < p) → k < suc (front_below p cs) → get_or (c ∷ cs) k 0 < p
      first zero l h m = l
      first (suc k) l h m = h k (omega arith)

  pub with_position-split : (cs : List ℕ) → with_position p cs ≡ take (front_below p cs) cs ++ p ∷ drop (front_below p cs) cs
  with_position-split [] = refl
  with_position-split (c ∷ cs) = elim (nat_lt c p) as (λ v. cond v (c ∷ with_position p cs) (p ∷ c ∷ cs) ≡ take (cond v (suc (front_below p cs)) 0) (c ∷ cs) ++ p ∷ drop (cond v (suc (front_below p cs)) 0) (c ∷ cs))
      [ true ↦ ap (λ ds. c ∷ ds) (with_position-split cs) | false ↦ refl ]

  pub length-with_position : (cs : List ℕ) → length (with_position p cs) ≡ length cs + 1
  length-with_position [] = refl
  length-with_position (c ∷ cs) = elim (nat_lt c p) as (λ v. length (cond v (c ∷ with_position p cs) (p ∷ c ∷ cs)) ≡ suc (length cs) + 1)
      [ true ↦ omega (arith, length-with_position cs) | false ↦ omega arith ]

  pub AllBelow-with_position : (m : ℕ) (cs : List ℕ) → p < m → AllBelow m cs → AllBelow m (with_position p cs)
  AllBelow-with_position m [] l b = (l, tt)
  AllBelow-with_position m (c ∷ cs) l b = elim (nat_lt c p) as (λ v. AllBelow m (cond v (c ∷ with_position p cs) (p ∷ c ∷ cs)))
      [ true ↦ (b.0, AllBelow-with_position m cs l b.1) | false ↦ (l, b) ]

  pub Ascends-with_position : (low : ℕ) (cs : List ℕ) → low ≤ p → has cs p ≡ false → Ascends low cs → Ascends low (with_position p cs)
  Ascends-with_position low [] l h a = (omega arith, tt)
  Ascends-with_position low (c ∷ cs) l h a = ⊎_elim
      (λ (e : nat_lt c p ≡ true). let m : c < p = ltb-true c p e in rw e (a.0, Ascends-with_position (c + 1) cs (omega arith) (or_parts (eqb c p) (has cs p) h).1 a.1))
      (λ (e : nat_lt c p ≡ false). let m : p ≤ c = ltb-false c p e in let n : c ≢ p = λ f. false≢true (sym (or_parts (eqb c p) (has cs p) h).0 ∙ eq-eqb c p f) in
      rw e (omega arith, (omega arith, a.1)))
      (cases_Bool (nat_lt c p))

  -- among rising positions it stands at its place, or nowhere
  pub has-at : (low : ℕ) (cs : List ℕ) → Ascends low cs → has cs p ≡ true → (front_below p cs < length cs) × (get_or cs (front_below p cs) 0 ≡ p)
  has-at low [] a h = absurd (false≢true h)
  has-at low (c ∷ cs) a h = ⊎_elim
      (λ (e : eqb c p ≡ true). let same : c ≡ p = eqb-true c p e in rw (le-ltb c p (omega arith)) (omega arith, same))
      (λ (e : has cs p ≡ true). let m : c + 1 ≤ p = has_after (c + 1) p cs a.1 e in let r : (front_below p cs < length cs) × (get_or cs (front_below p cs) 0 ≡ p) = has-at (c + 1) cs a.1 e in
      rw (lt-ltb c p (omega arith)) (omega (arith, r.0), r.1))
      (or_cases (eqb c p) (has cs p) h)

  pub has-from : (cs : List ℕ) (j : ℕ) → j < length cs → get_or cs j 0 ≡ p → has cs p ≡ true
  has-from [] j l e = absurd (omega arith)
  has-from (c ∷ cs) zero l e = or_left (eqb c p) (has cs p) (eq-eqb c p e)
  has-from (c ∷ cs) (suc j) l e = or_right (eqb c p) (has cs p) (has-from cs j (omega arith) e)

  -- so one look answers whether it is there
  pub has-found : (low : ℕ) (cs : List ℕ) → Ascends low cs → front_below p cs < length cs → eqb (get_or cs (front_below p cs) 0) p ≡ has cs p
  has-found low cs a l = same_bools _ _ (λ e. has-from cs (front_below p cs) l (eqb-true _ _ e)) (λ h. eq-eqb _ _ (has-at low cs a h).1)

  pub has-past : (low : ℕ) (cs : List ℕ) → Ascends low cs → length cs ≤ front_below p cs → has cs p ≡ false
  has-past low cs a l = false_from_ne_true (has cs p) (λ h. absurd (omega (arith, l, (has-at low cs a h).0)))

-- column j stands at place j
pub front_below-column : (low : ℕ) (cs : List ℕ) (j : ℕ) → Ascends low cs → j < length cs → front_below (get_or cs j 0) cs ≡ j
front_below-column low [] j a l = absurd (omega arith)
front_below-column low (c ∷ cs) zero a l = rw (le-ltb c c (omega arith)) refl
front_below-column low (c ∷ cs) (suc j) a l =
    let m : c + 1 ≤ get_or cs j 0 = rises (c + 1) cs j a.1 (omega arith) in
    rw (lt-ltb c (get_or cs j 0) (omega arith)) (ap suc (front_below-column (c + 1) cs j a.1 (omega arith)))
  where
    rises : (low : ℕ) (cs : List ℕ) (j : ℕ) → Ascends low cs → j < length cs → low ≤ get_or cs j 0
    rises low [] j a l = absurd (omega arith)
    rises low (c ∷ cs) zero a l = let k : low < c + 1 = a.0 in omega arith
    rises low (c ∷ cs) (suc j) a l = let k : low < c + 1 = a.0 in let m : c + 1 ≤ get_or cs j 0 = rises (c + 1) cs j a.1 (omega arith) in omega arith

-- rising lists with the same positions are the same
pub same_rising : (low : ℕ) (cs ds : List ℕ) → Ascends low cs → Ascends low ds → ((q : ℕ) → has cs q ≡ has ds q) → cs ≡ ds
same_rising low [] [] a b h = refl
same_rising low [] (d ∷ ds) a b h = absurd (false≢true (h d ∙ or_left (eqb d d) (has ds d) (eq-eqb d d refl)))
same_rising low (c ∷ cs) [] a b h = absurd (false≢true (sym (h c) ∙ or_left (eqb c c) (has cs c) (eq-eqb c c refl)))
same_rising low (c ∷ cs) (d ∷ ds) a b h =
    let first : c ≡ d = omega (arith, from_first cs c d ds a b h, from_first ds d c cs b a (λ q. sym (h q))) in
    let later : Ascends (c + 1) ds = (rw (← first) at b.1) in
    rw (← first) (ap (λ es. c ∷ es) (same_rising (c + 1) cs ds a.1 later (λ q. same_bools (has cs q) (has ds q)
    (λ g. rest c q ds (ne_eqb c q (let m : c + 1 ≤ q = has_after (c + 1) q cs a.1 g in omega arith)) (rw (← first) at (sym (h q) ∙ or_right (eqb c q) (has cs q) g)))
    (λ g. rest c q cs (ne_eqb c q (let m : c + 1 ≤ q = has_after (c + 1) q ds later g in omega arith)) (h q ∙ or_right (eqb d q) (has ds q) g)))))
  where
    -- the first of the one is not above that of the other
    from_first : (cs : List ℕ) (c d : ℕ) (ds : List ℕ) → Ascends low (c ∷ cs) → Ascends low (d ∷ ds) → ((q : ℕ) → has (c ∷ cs) q ≡ has (d ∷ ds) q) → d ≤ c
    from_first cs c d ds a b h = has_after d c (d ∷ ds) (omega arith, b.1) (sym (h c) ∙ or_left (eqb c c) (has cs c) (eq-eqb c c refl))

    rest : (c q : ℕ) (cs : List ℕ) → eqb c q ≡ false → has (c ∷ cs) q ≡ true → has cs q ≡ true
    rest c q cs e h = rw e at h

-- ---- what flags keep
pub kept_nil : {X : Type 0} (us : List Bool) → kept {X = X} us [] ≡ []
kept_nil [] = refl
kept_nil (u ∷ us) = refl

pub kept_suc : (us : List Bool) (cs : List ℕ) (j : ℕ) → j < length us → j < length cs → kept us (take (suc j) cs) ≡ kept us (take j cs) ++ cond (get_or us j false) (get_or cs j 0 ∷ []) []
kept_suc [] cs j l m = absurd (omega arith)
kept_suc (u ∷ us) [] j l m = absurd (omega arith)
kept_suc (true ∷ us) (c ∷ cs) zero l m = ap (λ ds. c ∷ ds) (kept_nil us)
kept_suc (false ∷ us) (c ∷ cs) zero l m = kept_nil us
kept_suc (true ∷ us) (c ∷ cs) (suc j) l m = ap (λ ds. c ∷ ds) (kept_suc us cs j (omega arith) (omega arith))
kept_suc (false ∷ us) (c ∷ cs) (suc j) l m = kept_suc us cs j (omega arith) (omega arith)

pub kept_over : (us vs : List Bool) (cs : List ℕ) → length us ≡ length cs → kept (us ++ vs) cs ≡ kept us cs
kept_over [] vs [] e = kept_nil vs
kept_over [] vs (c ∷ cs) e = absurd (omega arith)
kept_over (u ∷ us) vs [] e = absurd (omega arith)
kept_over (true ∷ us) vs (c ∷ cs) e = ap (λ ds. c ∷ ds) (kept_over us vs cs (omega arith))
kept_over (false ∷ us) vs (c ∷ cs) e = kept_over us vs cs (omega arith)

pub kept-pad : (us bs : List Bool) (m : ℕ) → length us ≡ length bs → kept (us ++ replicate m false) (bs ++ replicate m false) ≡ kept us bs
kept-pad [] [] zero e = refl
kept-pad [] [] (suc m) e = kept-pad [] [] m e
kept-pad [] (b ∷ bs) m e = absurd (omega arith)
kept-pad (u ∷ us) [] m e = absurd (omega arith)
kept-pad (u ∷ us) (b ∷ bs) m e = rw (kept-pad us bs m (omega arith)) refl

-- ---- kept
pub map-kept : (f : ℕ → Bool) (us : List Bool) (cs : List ℕ) → map f (kept us cs) ≡ kept us (map f cs)
map-kept f [] cs = refl
map-kept f (u ∷ us) [] = refl
map-kept f (true ∷ us) (c ∷ cs) = ap (λ bs. f c ∷ bs) (map-kept f us cs)
map-kept f (false ∷ us) (c ∷ cs) = map-kept f us cs

pub length-kept : {X : Type 0} (us : List Bool) (xs : List X) → length (kept us xs) ≤ length xs
length-kept [] xs = omega arith
length-kept (u ∷ us) [] = omega arith
length-kept (true ∷ us) (x ∷ xs) = omega (arith, length-kept us xs)
length-kept (false ∷ us) (x ∷ xs) = omega (arith, length-kept us xs)
