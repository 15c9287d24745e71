-- Where a scan starts: a fork parts its first key from those that stand beside the key that was found.
use Rattle.version_laws.proofs.Common.{◌≡◌, ◌⊎◌, inl, inr, ℕ, suc, ◌+◌, ◌-◌, ◌<◌, ◌≤◌, List, [], ◌∷◌, Bool, true, false, refl, ap, sym, ◌∙◌, subst, arith, if◌then◌else◌, ltb, le_refl, ⊎_elim, cases_lt, ltb-true, ltb-false, size_pos, Place, Fork, size, Node, subtrie_affected, Key, bit, AgreeBelow, IsParted, IsBefore, spot, shape, Kin, tips, forks, IsUnder, Subtrie, Tree, leaf, node, fork, subtrie, IsTrie, IsTip, spot_below, spot_shape, shape_tips, has_under, under_below, kin_tips, IsGrown, Past, IsKeptSince, KeepsFixedWordsSince, a_node, Direction, Upwards, Downwards}
use Rattle.version_laws.specs.Scan.{AgreeUpToPlace, IsPlaced, HadShapeSince, MayStandAt, HadKeyBelow, Frame, IsStack, Range, IsInRange}
use Rattle.version_laws.specs.Directions.{gap_before, gap_behind, first_gap, first_key, IsEarlier, IsNoLater, IsToCome, WasPassed, ComesOnWay, IsScanBy, IsPastKey}
use Rattle.version_laws.proofs.Scan.Persist.{may_stand_grown, placed_grown, shaped_grown}
use Rattle.version_laws.proofs.Scan.{may_stand_at_child_place, had_key_may_stand, child_had_key, root_had_key, shaped, stood_kin, stood_trie}
use Rattle.version_laws.proofs.Directions.{come_before, come_earlier, come_further, from_first, may_stand_earlier, never_earlier, passed_behind, passed_or_comes, stack_shape}

-- The key may stand at the place of each frame.
abbrev pub AreAt : Past → ℕ → Key → List Frame → Type 0
AreAt s m k [] = Unit {0}
AreAt s m k (f ∷ fs) = MayStandAt s m f.number f.place k × AreAt s m k fs

-- The first place of the part of a subtrie that an insertion of the key with first mismatch `p` affects.
abbrev pub affected_from : ℕ → Key → Subtrie → ℕ
affected_from p k (Place e) = 0
affected_from p k (Fork q x y) = if ltb q p then (if bit k q then size x + affected_from p k y else affected_from p k x) else 0

-- The place from which on a subtrie has the keys above this one, where a key that differs from it first at `p` was found in it: before
-- the affected part, or behind it.
abbrev pub start_place : ℕ → Key → Subtrie → ℕ
start_place p k x = if bit k p then affected_from p k x + size (subtrie_affected p k x) else affected_from p k x

-- ---- the affected part of a subtrie, by the key
part_fits : (d : ℕ) (v : Key) (x : Subtrie) → affected_from d v x + size (subtrie_affected d v x) ≤ size x
part_fits d v (Place e) = omega arith
part_fits d v (Fork q x y) = go (ltb q d) (bit v q) (part_fits d v x) (part_fits d v y)
  where
    go : (u o : Bool) → affected_from d v x + size (subtrie_affected d v x) ≤ size x → affected_from d v y + size (subtrie_affected d v y) ≤ size y →
        (if u then (if o then size x + affected_from d v y else affected_from d v x) else 0) +
        size (if u then (if o then subtrie_affected d v y else subtrie_affected d v x) else Fork q x y) ≤ size x + size y
    go true true e f = omega (arith, e, f)
    go true false e f = omega (arith, e, f)
    go false o e f = omega arith

pub start_fits : (d : ℕ) (v : Key) (x : Subtrie) → start_place d v x ≤ size x
start_fits d v x = go (bit v d) (part_fits d v x)
  where
    go : (u : Bool) → affected_from d v x + size (subtrie_affected d v x) ≤ size x → (if u then affected_from d v x + size (subtrie_affected d v x) else affected_from d v x) ≤ size x
    go true h = h
    go false h = omega (arith, h)

-- it depends on the forks alone
from_shape : (d : ℕ) (v : Key) (x : Subtrie) → affected_from d v (shape x) ≡ affected_from d v x
from_shape d v (Place e) = refl
from_shape d v (Fork q x y) = go (ltb q d) (bit v q) (from_shape d v x) (from_shape d v y)
  where
    go : (u o : Bool) → affected_from d v (shape x) ≡ affected_from d v x → affected_from d v (shape y) ≡ affected_from d v y →
        (if u then (if o then size (shape x) + affected_from d v (shape y) else affected_from d v (shape x)) else 0) ≡ (if u then (if o then size x + affected_from d v y else affected_from d v x) else 0)
    go true true e f = let t = shape_tips x in omega (arith, t, f)
    go true false e f = e
    go false o e f = refl

count_shape : (d : ℕ) (v : Key) (x : Subtrie) → size (subtrie_affected d v (shape x)) ≡ size (subtrie_affected d v x)
count_shape d v (Place e) = refl
count_shape d v (Fork q x y) = go (ltb q d) (bit v q) (count_shape d v x) (count_shape d v y)
  where
    go : (u o : Bool) → size (subtrie_affected d v (shape x)) ≡ size (subtrie_affected d v x) → size (subtrie_affected d v (shape y)) ≡ size (subtrie_affected d v y) →
        size (if u then (if o then subtrie_affected d v (shape y) else subtrie_affected d v (shape x)) else Fork q (shape x) (shape y)) ≡
        size (if u then (if o then subtrie_affected d v y else subtrie_affected d v x) else Fork q x y)
    go true true e f = f
    go true false e f = e
    go false o e f = let t = shape_tips x in let r = shape_tips y in omega (arith, t, r)

-- ---- beside a key that was found
-- Where z stands beside y, by its place: left or right of the affected places a fork before d parts them; among these, y is alone or
-- they agree through d.
abbrev pub IsBeside : (d : ℕ) (y z : Key) (f n j : ℕ) → Type 0
IsBeside d y z f n j =
    ((j < f) × (q : ℕ) × (q < d) × IsParted q z y) ⊎ (((f + n ≤ j) × (q : ℕ) × (q < d) × IsParted q y z) ⊎ ((f ≤ j) × (j < f + n) × ((n ≡ 1) ⊎ AgreeBelow (suc d) y z)))

beside_shift : (d : ℕ) (y z : Key) (f n j m : ℕ) → IsBeside d y z f n j → IsBeside d y z (m + f) n (m + j)
beside_shift d y z f n j m (inl (lt, q, low, parted)) = inl (omega (arith, lt), q, low, parted)
beside_shift d y z f n j m (inr (inl (le, q, low, parted))) = inr (inl (omega (arith, le), q, low, parted))
beside_shift d y z f n j m (inr (inr (le, lt, among))) = inr (inr (omega (arith, le), omega (arith, lt), among))

-- the two sides of a fork, by keys that stand there
bit_zero : (q : ℕ) (a b : Tree) (i : ℕ) (k : Key) → IsTrie (fork q a b) → i < size (subtrie a) → IsUnder (fork q a b) i k → bit k q ≡ false
bit_zero q a b i k t lt (inl u) = t.3 k (has_under a i k u)
bit_zero q a b i k t lt (inr (j, e, u)) = absurd (omega (arith, e, lt))

bit_one : (q : ℕ) (a b : Tree) (i j : ℕ) (k : Key) → i ≡ size (subtrie a) + j → IsTrie (fork q a b) → IsUnder (fork q a b) i k → bit k q ≡ true
bit_one q a b i j k e t (inl u) = absurd (let h = under_below a i k u in omega (arith, e, h))
bit_one q a b i j k e t (inr (o, g, u)) = t.4 k (has_under b o k u)

under_zero : (q : ℕ) (a b : Tree) (i : ℕ) (k : Key) → i < size (subtrie a) → IsUnder (fork q a b) i k → IsUnder a i k
under_zero q a b i k lt (inl u) = u
under_zero q a b i k lt (inr (j, e, u)) = absurd (omega (arith, e, lt))

under_one : (q : ℕ) (a b : Tree) (j : ℕ) (k : Key) → IsUnder (fork q a b) (size (subtrie a) + j) k → IsUnder b j k
under_one q a b j k (inl u) = absurd (let h = under_below a (size (subtrie a) + j) k u in omega (arith, h))
under_one q a b j k (inr (o, e, u)) = subst (λ i. IsUnder b i k) (let g : o ≡ j = omega (arith, e) in g) u

tip_place : (e : Tree) (j : ℕ) (l : Key) → IsTip e → IsUnder e j l → j ≡ 0
tip_place (leaf n k v) j l t u = u.0
tip_place (node n x b) j l t u = u.0
tip_place (fork q a b) j l t u = elim t [ ]

abbrev PartsIn : (d : ℕ) (v k l y z : Key) → Tree → Tree → ℕ → Type 0
PartsIn d v k l y z b e j = IsUnder b (spot v (subtrie b)) k → AgreeUpToPlace (subtrie b) (spot v (subtrie b)) k y → IsUnder e j l → AgreeUpToPlace (subtrie e) j l z →
    IsBeside d y z (affected_from d v (subtrie b)) (size (subtrie_affected d v (subtrie b))) j

-- Of a key y at the place of v's search, in a body, and z at any place of a body that is kin: v differs from y at d.
beside : {b e : Tree} → Kin b e → IsTrie b → IsTrie e → (d j : ℕ) (v k l y z : Key) → (bit v d ≡ bit y d → ⊥) → PartsIn d v k l y z b e j
beside (tips {a = fork q a c} x y) r s d j v k l u w ne at f there g = elim x [ ]
beside (tips {a = leaf n h o} {b = e} x y) r s d j v k l u w ne at f there g = let z = tip_place e j l y there in inr (inr (omega (arith, z), omega (arith, z), inl refl))
beside (tips {a = node n h o} {b = e} x y) r s d j v k l u w ne at f there g = let z = tip_place e j l y there in inr (inr (omega (arith, z), omega (arith, z), inl refl))
beside (forks {p = q} {a = a} {b = b} {c = c} {d = e} agree kin_zero kin_one) r s d j v k l y z ne at f there g =
    go (λ i. beside kin_zero r.0 s.0 d i v k l y z ne) (λ i. beside kin_one r.1 s.1 d i v k l y z ne) (ltb q d) refl (bit v q) refl at f
  where
    same : size (subtrie a) ≡ size (subtrie c)
    same = kin_tips kin_zero

    -- before the fork they agree
    near : AgreeBelow q k l
    near = agree k l (has_under (fork q a b) (spot v (subtrie (fork q a b))) k at) (has_under (fork q c e) j l there)

    near_key : AgreeBelow q y z
    near_key o lt = sym (f.0 o (omega (arith, lt))) ∙ (near o lt ∙ g.0 o (omega (arith, lt)))

    y_bit : (u : Bool) → bit k q ≡ u → bit y q ≡ u
    y_bit u h = sym (f.0 q (omega arith)) ∙ h

    z_bit : (u : Bool) → bit l q ≡ u → bit z q ≡ u
    z_bit u h = sym (g.0 q (omega arith)) ∙ h

    back : AgreeBelow q z y
    back o lt = sym (near_key o lt)

    j_below : j < size (subtrie a) + size (subtrie b)
    j_below = let h = under_below (fork q c e) j l there in let t = kin_tips kin_one in omega (arith, h, t, same)

    whole : d ≤ q → bit y q ≡ bit v q → IsBeside d y z 0 (size (subtrie a) + size (subtrie b)) j
    whole le e = inr (inr (omega arith, omega (arith, j_below), inr (λ o lt. near_key o (let h : d < q = ⊎_elim (λ x. x) (λ x. absurd (ne (subst (λ n. bit v n ≡ bit y n) (let w : q ≡ d = omega (arith, le, x) in w) (sym e)))) (cases_lt d q) in omega (arith, lt, h)))))

    at_one : ((i : ℕ) → PartsIn d v k l y z b e i) → q < d → bit v q ≡ true → IsUnder (fork q a b) (size (subtrie a) + spot v (subtrie b)) k → AgreeUpToPlace (Fork q (subtrie a) (subtrie b)) (size (subtrie a) + spot v (subtrie b)) k y →
        IsUnder (fork q c e) j l → IsBeside d y z (size (subtrie a) + affected_from d v (subtrie b)) (size (subtrie_affected d v (subtrie b))) j
    at_one on lt o u h (inl w) = inl (let low = under_below c j l w in omega (arith, low, same), q, lt, (back, z_bit false (s.3 l (has_under c j l w)), y_bit true (bit_one q a b (size (subtrie a) + spot v (subtrie b)) (spot v (subtrie b)) k refl r u)))
    at_one on lt o u h (inr (i, is, w)) =
        let here : j ≡ size (subtrie a) + i = omega (arith, is, same) in
        let shift : size (subtrie a) + spot v (subtrie b) - size (subtrie a) ≡ spot v (subtrie b) = omega arith in
        let down : j - size (subtrie c) ≡ i = omega (arith, is) in
        subst (IsBeside d y z (size (subtrie a) + affected_from d v (subtrie b)) (size (subtrie_affected d v (subtrie b)))) (sym here)
        (beside_shift d y z (affected_from d v (subtrie b)) (size (subtrie_affected d v (subtrie b))) i (size (subtrie a))
        (on i (under_one q a b (spot v (subtrie b)) k u) (subst (λ n. AgreeUpToPlace (subtrie b) n k y) shift (h.2 (omega arith))) w (subst (λ n. AgreeUpToPlace (subtrie e) n l z) down (g.2 (omega (arith, is))))))

    at_zero : ((i : ℕ) → PartsIn d v k l y z a c i) → q < d → bit v q ≡ false → IsUnder (fork q a b) (spot v (subtrie a)) k → AgreeUpToPlace (Fork q (subtrie a) (subtrie b)) (spot v (subtrie a)) k y →
        IsUnder (fork q c e) j l → IsBeside d y z (affected_from d v (subtrie a)) (size (subtrie_affected d v (subtrie a))) j
    at_zero on lt o u h (inl w) =
        let low = under_below c j l w in
        on j (under_zero q a b (spot v (subtrie a)) k (spot_below v (subtrie a)) u) (h.1 (spot_below v (subtrie a))) w (g.1 low)
    at_zero on lt o u h (inr (i, is, w)) =
        let fits = part_fits d v (subtrie a) in
        inr (inl (omega (arith, is, same, fits), q, lt, (near_key, y_bit false (bit_zero q a b (spot v (subtrie a)) k r (spot_below v (subtrie a)) u), z_bit true (s.4 l (has_under e i l w)))))

    go : ((i : ℕ) → PartsIn d v k l y z a c i) → ((i : ℕ) → PartsIn d v k l y z b e i) → (u : Bool) → ltb q d ≡ u → (o : Bool) → bit v q ≡ o → IsUnder (fork q a b) (if o then size (subtrie a) + spot v (subtrie b) else spot v (subtrie a)) k →
        AgreeUpToPlace (Fork q (subtrie a) (subtrie b)) (if o then size (subtrie a) + spot v (subtrie b) else spot v (subtrie a)) k y →
        IsBeside d y z (if u then (if o then size (subtrie a) + affected_from d v (subtrie b) else affected_from d v (subtrie a)) else 0)
        (size (if u then (if o then subtrie_affected d v (subtrie b) else subtrie_affected d v (subtrie a)) else Fork q (subtrie a) (subtrie b))) j
    go zero one true lt true o u h = at_one one (ltb-true q d lt) o u h there
    go zero one true lt false o u h = at_zero zero (ltb-true q d lt) o u h there
    go zero one false le true o u h = whole (ltb-false q d le) (y_bit true (bit_one q a b (size (subtrie a) + spot v (subtrie b)) (spot v (subtrie b)) k refl r u) ∙ sym o)
    go zero one false le false o u h = whole (ltb-false q d le) (y_bit false (bit_zero q a b (spot v (subtrie a)) k r (spot_below v (subtrie a)) u) ∙ sym o)

abbrev IsSoleIn : (d : ℕ) (v k y : Key) → Subtrie → Type 0
IsSoleIn d v k y x = size (subtrie_affected d v x) ≡ 1 → AgreeUpToPlace x (spot v x) k y → AgreeUpToPlace x (spot v x) k v

-- Where one place alone is affected, all forks on the way to it are before d.
sole_alike : (d : ℕ) (x : Subtrie) (v k y : Key) → AgreeBelow d v y → IsSoleIn d v k y x
sole_alike d (Place e) v k y agree one f = tt
sole_alike d (Fork q a b) v k y agree one f = go (sole_alike d a v k y agree) (sole_alike d b v k y agree) (ltb q d) refl (bit v q) one f
  where
    near : q < d → AgreeBelow (suc q) k y → AgreeBelow (suc q) k v
    near lt h o le = h o le ∙ sym (agree o (omega (arith, lt, le)))

    go : IsSoleIn d v k y a → IsSoleIn d v k y b → (u : Bool) → ltb q d ≡ u → (o : Bool) → size (if u then (if o then subtrie_affected d v b else subtrie_affected d v a) else Fork q a b) ≡ 1 →
        AgreeUpToPlace (Fork q a b) (if o then size a + spot v b else spot v a) k y → AgreeUpToPlace (Fork q a b) (if o then size a + spot v b else spot v a) k v
    go zero one true lt true n h =
        let shift : size a + spot v b - size a ≡ spot v b = omega arith in (
          near (ltb-true q d lt) h.0,
          (λ low. absurd (omega (arith, low))),
          (λ high. subst (λ m. AgreeUpToPlace b m k v) (sym shift) (one n (subst (λ m. AgreeUpToPlace b m k y) shift (h.2 high)))),
        )
    go zero one true lt false n h = (
      near (ltb-true q d lt) h.0,
      (λ low. zero n (h.1 low)),
      (λ high. absurd (let l = spot_below v a in omega (arith, high, l))),
    )
    go zero one false lt o n h = absurd (let l = size_pos a in let r = size_pos b in omega (arith, n, l, r))

-- ---- of a record
module _ (s : Past) (m : ℕ) (law : KeepsFixedWordsSince s m) (r : ℕ) (p : Subtrie) (sh : HadShapeSince s m r p) (v y : Key) (d : ℕ) (agree : AgreeBelow d v y) (fit : MayStandAt s m r (spot v p) y) where
  -- The key v may stand where one place alone is affected.
  pub fit_sole : size (subtrie_affected d v p) ≡ 1 → MayStandAt s m r (spot v p) v
  fit_sole one = go fit
    where
      go : MayStandAt s m r (spot v p) y → MayStandAt s m r (spot v p) v
      go (b, k, st, u, f) =
          let e : shape (subtrie b) ≡ p = shaped s m law r p b sh st in
          let at : spot v p ≡ spot v (subtrie b) = ap (spot v) (sym e) ∙ spot_shape v (subtrie b) in
          let n : size (subtrie_affected d v (subtrie b)) ≡ 1 = sym (count_shape d v (subtrie b)) ∙ (ap (λ x. size (subtrie_affected d v x)) e ∙ one) in
          (b, k, st, u, subst (λ i. AgreeUpToPlace (subtrie b) i k v) (sym at) (sole_alike d (subtrie b) v k y agree n (subst (λ i. AgreeUpToPlace (subtrie b) i k y) at f)))

  module _ (ne : bit v d ≡ bit y d → ⊥) where
    stands_beside : (j : ℕ) (z : Key) → MayStandAt s m r j z → IsBeside d y z (affected_from d v p) (size (subtrie_affected d v p)) j
    stands_beside j z = go fit
      where
        go : MayStandAt s m r (spot v p) y → MayStandAt s m r j z → IsBeside d y z (affected_from d v p) (size (subtrie_affected d v p)) j
        go (b, k, st, u, f) (c, l, su, w, g) =
            let e : shape (subtrie b) ≡ p = shaped s m law r p b sh st in
            let at : spot v p ≡ spot v (subtrie b) = ap (spot v) (sym e) ∙ spot_shape v (subtrie b) in
            let from : affected_from d v (subtrie b) ≡ affected_from d v p = sym (from_shape d v (subtrie b)) ∙ ap (affected_from d v) e in
            let count : size (subtrie_affected d v (subtrie b)) ≡ size (subtrie_affected d v p) = sym (count_shape d v (subtrie b)) ∙ ap (λ x. size (subtrie_affected d v x)) e in
            subst (λ i. IsBeside d y z i (size (subtrie_affected d v p)) j) from (subst (λ i. IsBeside d y z (affected_from d v (subtrie b)) i j) count
            (beside (stood_kin s m law r b c st su) (stood_trie s m law r b st) (stood_trie s m law r c su) d j v k l y z ne (subst (λ i. IsUnder b i k) at u) (subst (λ i. AgreeUpToPlace (subtrie b) i k y) at f) w g))

    -- a fork before d parts v from z as it parts y from it
    before_left : (q : ℕ) (z : Key) → q < d → IsParted q z y → IsBefore z v
    before_left q z lt (f, a, b) = (q, (λ o le. f o le ∙ sym (agree o (omega (arith, le, lt))), a, agree q lt ∙ b))

    before_right : (q : ℕ) (z : Key) → q < d → IsParted q y z → IsBefore v z
    before_right q z lt (f, a, b) = (q, (λ o le. agree o (omega (arith, le, lt)) ∙ f o le, agree q lt ∙ a, b))

    other : (u : Bool) → bit v d ≡ u → bit y d ≡ u → ⊥
    other u e f = ne (e ∙ sym f)

    is_true : (u : Bool) → (u ≡ false → ⊥) → u ≡ true
    is_true true n = refl
    is_true false n = absurd (n refl)

    is_false : (u : Bool) → (u ≡ true → ⊥) → u ≡ false
    is_false false n = refl
    is_false true n = absurd (n refl)

    -- among several affected places all keys are on y's side
    among_above : (z : Key) → bit v d ≡ false → AgreeBelow (suc d) y z → IsBefore v z
    among_above z e f = (d, (λ o lt. agree o lt ∙ f o (omega (arith, lt)), e, sym (f d (omega arith)) ∙ is_true (bit y d) (other false e)))

    among_below : (z : Key) → bit v d ≡ true → AgreeBelow (suc d) y z → IsBefore z v
    among_below z e f = (d, (λ o lt. sym (f o (omega (arith, lt))) ∙ sym (agree o lt), sym (f d (omega arith)) ∙ is_false (bit y d) (other true e), e))

    -- Left of the start place all keys are before v, and from there on after it.
    pub sides : 2 ≤ size (subtrie_affected d v p) → (j : ℕ) (z : Key) → MayStandAt s m r j z → (j < start_place d v p → IsBefore z v) × (start_place d v p ≤ j → IsBefore v z)
    sides two j z at = go (bit v d) refl (stands_beside j z at)
      where
        n : ℕ
        n = size (subtrie_affected d v p)

        several : (n ≡ 1) ⊎ AgreeBelow (suc d) y z → AgreeBelow (suc d) y z
        several (inl one) = absurd (omega (arith, one, two))
        several (inr f) = f

        go : (u : Bool) → bit v d ≡ u → IsBeside d y z (affected_from d v p) (size (subtrie_affected d v p)) j →
            (j < (if u then affected_from d v p + size (subtrie_affected d v p) else affected_from d v p) → IsBefore z v) ×
            ((if u then affected_from d v p + size (subtrie_affected d v p) else affected_from d v p) ≤ j → IsBefore v z)
        go u e (inl (lt, q, low, parted)) = (λ h. before_left q z low parted, λ h. absurd (below u h))
          where
            below : (u : Bool) → (if u then affected_from d v p + size (subtrie_affected d v p) else affected_from d v p) ≤ j → ⊥
            below true h = omega (arith, h, lt)
            below false h = omega (arith, h, lt)
        go u e (inr (inl (le, q, low, parted))) = (λ h. absurd (above u h), λ h. before_right q z low parted)
          where
            above : (u : Bool) → j < (if u then affected_from d v p + size (subtrie_affected d v p) else affected_from d v p) → ⊥
            above true h = omega (arith, h, le)
            above false h = omega (arith, h, le)
        go true e (inr (inr (le, lt, f))) = (λ h. among_below z e (several f), λ h. absurd (omega (arith, h, lt)))
        go false e (inr (inr (le, lt, f))) = (λ h. absurd (omega (arith, h, le)), λ h. among_above z e (several f))

-- So it is, and stays: all that is to come at the start place is later than v.
pub sides_beyond : (way : Direction) (s : Past) (m r : ℕ) (p : Subtrie) → HadShapeSince s m r p → (v y : Key) (d : ℕ) → AgreeBelow d v y → MayStandAt s m r (spot v p) y →
    (bit v d ≡ bit y d → ⊥) → 2 ≤ size (subtrie_affected d v p) → IsPastKey way s m v r (start_place d v p)
sides_beyond way s m r p sh v y d agree fit ne two t g law j z come at =
    go way come (sides t m law r p (shaped_grown s t g m r p sh) v y d agree (may_stand_grown s t g m r (spot v p) y fit) ne two j z at)
  where
    go : (way : Direction) → IsToCome way (start_place d v p) j → (j < start_place d v p → IsBefore z v) × (start_place d v p ≤ j → IsBefore v z) → IsEarlier way v z
    go Upwards come h = h.1 come
    go Downwards come h = h.0 come

-- ---- keys that come later
-- Where the key itself may stand, those behind are later.
pub at_beyond : (d : Direction) (s : Past) (m r place : ℕ) (key : Key) → MayStandAt s m r place key → IsPastKey d s m key r (gap_behind d place)
at_beyond d s m r place key fit t g law j z come at =
    may_stand_earlier d t m law r (gap_behind d place) place j key z (passed_behind d place) come (may_stand_grown s t g m r place key fit) at

pub beyond_grown : (d : Direction) (a b : Past) → IsGrown a b → (m r gap : ℕ) (key : Key) → IsPastKey d a m key r gap → IsPastKey d b m key r gap
beyond_grown d a b g m r gap key over t h law j z come at =
    over t (record { longer = omega (arith, g.longer, h.longer); kept = λ n lo. h.kept n (omega (arith, lo, g.longer)) ∙ g.kept n lo }) law j z come at

-- where less is to come,
pub beyond_further : (d : Direction) (s : Past) (m r i gap : ℕ) (key : Key) → ((j : ℕ) → IsToCome d gap j → IsToCome d i j) → IsPastKey d s m key r i → IsPastKey d s m key r gap
beyond_further d s m r i gap key less over t g law j z come at = over t g law j z (less j come) at

-- as behind an entry,
pub beyond_behind : (d : Direction) (s : Past) (m r place : ℕ) (key : Key) → IsPastKey d s m key r (gap_before d place) → IsPastKey d s m key r (gap_behind d place)
beyond_behind d s m r place key = beyond_further d s m r (gap_before d place) (gap_behind d place) key (come_earlier d place)

-- in a node that stands at it,
pub beyond_in_child : (d : Direction) (s : Past) (m r place c h count : ℕ) (key : Key) → IsPlaced s m r place (Node c h) → IsPastKey d s m key r (gap_before d place) →
    IsPastKey d s m key c (first_gap d count)
beyond_in_child d s m r place c h count key placed over t g law j z come at =
    over t g law place z (come_before d place) (may_stand_at_child_place t m law r place c h j z (placed_grown s t g m r place (Node c h) placed) at)

-- and at its own place
pub beyond_at_place : (d : Direction) (s : Past) (m r place : ℕ) (key z : Key) → IsPastKey d s m key r (gap_before d place) → (t : Past) → IsGrown s t → KeepsFixedWordsSince t m →
    MayStandAt t m r place z → IsEarlier d key z
beyond_at_place d s m r place key z over t g law at = over t g law place z (come_before d place) at

pub same_past : (s : Past) → IsGrown s s
same_past s = record { longer = le_refl s.now; kept = λ n lo. refl }

-- ---- the way
-- If the key may stand at the place of the lowest frame, it may so at each.
pub stack_at : (s : Past) (m : ℕ) → KeepsFixedWordsSince s m → (f : Frame) (fs : List Frame) → IsStack s m (f ∷ fs) → (v : Key) → MayStandAt s m f.number f.place v → AreAt s m v (f ∷ fs)
stack_at s m law f [] h v at = (at, tt)
stack_at s m law f (g ∷ gs) h v at = (at, stack_at s m law g gs h.2 v (may_stand_at_child_place s m law g.number g.place f.number f.height f.place v h.0 at))

-- All that may stand before the place of one of the frames is earlier than the key.
abbrev pub IsWayEarlier : Direction → Past → ℕ → Key → List Frame → Type 0
IsWayEarlier d s m v [] = Unit {0}
IsWayEarlier d s m v (f ∷ fs) =
    ((j : ℕ) (z : Key) → WasPassed d (gap_before d f.place) j → MayStandAt s m f.number j z → IsEarlier d z v) × IsWayEarlier d s m v fs

-- as where the key itself may stand at each of these places
pub at_on_way : (d : Direction) (s : Past) (m : ℕ) → KeepsFixedWordsSince s m → (v : Key) (fs : List Frame) → AreAt s m v fs → IsWayEarlier d s m v fs
at_on_way d s m law v [] at = tt
at_on_way d s m law v (f ∷ fs) at =
    ((λ j z passed fit. may_stand_earlier d s m law f.number (gap_before d f.place) j f.place z v passed (come_before d f.place) fit at.0), at_on_way d s m law v fs at.1)

-- A key that was there all the time, not earlier than v, is in the lowest node, or comes on the way.
way_reaches : (d : Direction) (s : Past) (m : ℕ) → KeepsFixedWordsSince s m → (f : Frame) (fs : List Frame) → IsStack s m (f ∷ fs) → (v k : Key) → IsWayEarlier d s m v fs → IsKeptSince s m k →
    IsNoLater d v k → HadKeyBelow s m k (a_node f.number) ⊎ ComesOnWay d s m k fs
way_reaches d s m law f [] h v k at kept le = inl (root_had_key s m k kept (Node f.number f.height) h.0)
way_reaches d s m law f (g ∷ gs) h v k (at, rest) kept le = ⊎_elim here (λ x. inr (inr x)) (way_reaches d s m law g gs h.2 v k rest kept le)
  where
    sh : HadShapeSince s m g.number g.shape
    sh = stack_shape s m g gs h.2

    here : HadKeyBelow s m k (a_node g.number) → HadKeyBelow s m k (a_node f.number) ⊎ ComesOnWay d s m k (g ∷ gs)
    here on = ⊎_elim
        (λ passed. absurd (never_earlier d k v (at (spot k g.shape) k passed (had_key_may_stand s m law g.number g.shape k sh on)) le))
        (λ come. ⊎_elim (λ e. inl (child_had_key s m law k kept g.number g.place g.shape (Node f.number f.height) sh on e h.0)) (λ x. inr (inl (on, x)))
        (come_further d g.place (spot k g.shape) come))
        (passed_or_comes d (gap_before d g.place) (spot k g.shape))

-- A scan may start where all keys before its gap are earlier than its first.
pub scan_started : (d : Direction) (s : Past) (m : ℕ) → KeepsFixedWordsSince s m → (g : Range) (f : Frame) (fs : List Frame) → IsStack s m (f ∷ fs) → IsWayEarlier d s m (first_key d g) fs →
    ((j : ℕ) (z : Key) → WasPassed d f.place j → MayStandAt s m f.number j z → IsEarlier d z (first_key d g)) → IsScanBy d s m g (f ∷ fs) []
scan_started d s m law g f fs stack at before = record {
  stack = stack;
  ordered = tt;
  within = tt;
  held = tt;
  passed = tt;
  short = omega arith;
  covered = λ k kept range. inr (⊎_elim (λ on. inl (on, there k range on)) (λ x. inr x) (way_reaches d s m law f fs stack (first_key d g) k at kept (from_first d g k range)));
}
  where
    there : (k : Key) → IsInRange g k → HadKeyBelow s m k (a_node f.number) → IsToCome d f.place (spot k f.shape)
    there k range on = ⊎_elim
        (λ passed. absurd (never_earlier d k (first_key d g) (before (spot k f.shape) k passed (had_key_may_stand s m law f.number f.shape k (stack_shape s m f fs stack) on)) (from_first d g k range)))
        (λ come. come) (passed_or_comes d f.place (spot k f.shape))
