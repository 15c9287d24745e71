-- What a scan knows.
pub mod Ends
pub mod Fronts
pub mod Loads
pub mod Persist
use Rattle.version_laws.proofs.Common.{◌≡◌, ◌⊎◌, inl, inr, ℕ, suc, ◌+◌, ◌-◌, ◌<◌, ◌≤◌, true, false, refl, ap, ap₂, sym, ◌∙◌, subst, arith, Some, if◌then◌else◌, ltb, cases_order, cases_lt, cond-true, cond-false, lt-ltb, le-ltb, false≢true, IsAtMost, Key, bit, AgreeBelow, IsParted, IsBefore, Fixed, Subtrie, Tree, leaf, node, fork, subtrie, Has, IsTip, IsTrie, IsFork, IsBuilt, Within, here, inside, zero_side, one_side, first_position, Entry, Leaf, Node, size_pos, Place, Fork, size, Follows, child, Kin, tips, forks, between, IsUnder, rec_of, IsRecord, Past, Stands, IsHeldSince, IsKeptSince, WasAbsentSince, IsLed, KeepsFixedWordsSince, a_node, a_leaf, spot, shape, has_first, has_within, within_trans, trie_within, built_within, rises, has_if_follows, follows_if_has, follows_kin, descend, has_child, has_under, under_below, between_low, between_mid, between_high, parting, kin_tips, record_of_subtrie, before_irrefl, spot_below, shape_tips, spot_shape, first, some_same}
use Rattle.version_laws.specs.Scan.{at_place, AgreeUpToPlace, Stood, IsRooted, IsPlaced, HadShapeSince, IsRead, MayStandAt, HadKeyBelow}
use Rattle.version_laws.proofs.Statements.Search.{holds_within}

pub place_same : {a b : Entry} → Place a ≡ Place b → a ≡ b
place_same e = cc

-- Places of a body.
at_low : (p : ℕ) (a b : Tree) (i : ℕ) → i < size (subtrie a) → at_place (fork p a b) i ≡ at_place a i
at_low p a b i h = cond-true (ltb i (size (subtrie a))) _ _ (lt-ltb i (size (subtrie a)) h)

at_high : (p : ℕ) (a b : Tree) (i : ℕ) → size (subtrie a) ≤ i → at_place (fork p a b) i ≡ at_place b (i - size (subtrie a))
at_high p a b i h = cond-false (ltb i (size (subtrie a))) _ _ (le-ltb i (size (subtrie a)) h)

pub under_at : (b : Tree) (i : ℕ) (k : Key) → i < size (subtrie b) → Has (at_place b i) k → IsUnder b i k
under_at (leaf n l v) i k h x = (omega arith, x)
under_at (node n y c) i k h x = (omega arith, x)
under_at (fork p a b) i k h x =
    elim (cases_lt i (size (subtrie a))) as (λ w. IsUnder (fork p a b) i k) [
      | inl l ↦ inl (under_at a i k l (subst (λ z. Has z k) (at_low p a b i l) x))
      | inr g ↦ inr (i - size (subtrie a), omega arith, under_at b (i - size (subtrie a)) k (omega arith) (subst (λ z. Has z k) (at_high p a b i g) x))
    ]

pub within_at : (b : Tree) (i : ℕ) → Within (at_place b i) b
within_at (leaf n l v) i = here
within_at (node n y c) i = here
within_at (fork p a b) i =
    let x = within_at a i in let y = within_at b (i - size (subtrie a)) in
    elim (ltb i (size (subtrie a))) as (λ u. Within (if u then at_place a i else at_place b (i - size (subtrie a))) (fork p a b)) [ true ↦ zero_side x | false ↦ one_side y ]

-- A key's search leads to its place.
pub at_spot : (k : Key) (b : Tree) → child k b ≡ at_place b (spot k (subtrie b))
at_spot k (leaf n l v) = refl
at_spot k (node n y c) = refl
at_spot k (fork p a b) =
    let f = at_spot k a in let g = at_spot k b in let l = spot_below k (subtrie a) in
    let d : (size (subtrie a) + spot k (subtrie b)) - size (subtrie a) ≡ spot k (subtrie b) = omega arith in
    elim (bit k p) as (λ u. (if u then child k b else child k a) ≡ at_place (fork p a b) (if u then size (subtrie a) + spot k (subtrie b) else spot k (subtrie a))) [
      | true ↦ g ∙ sym (at_high p a b (size (subtrie a) + spot k (subtrie b)) (omega arith) ∙ ap (at_place b) d)
      | false ↦ f ∙ sym (at_low p a b (spot k (subtrie a)) l)
    ]

pub under_spot : (b : Tree) (k : Key) → IsTrie b → Has b k → IsUnder b (spot k (subtrie b)) k
under_spot b k i h = under_at b (spot k (subtrie b)) k (spot_below k (subtrie b)) (subst (λ z. Has z k) (at_spot k b) (has_child b i k h))

-- Alike keys.
pub alike_refl : (x : Subtrie) (i : ℕ) (k : Key) → AgreeUpToPlace x i k k
alike_refl (Place e) i k = tt
alike_refl (Fork p a b) i k = ((λ q z. refl), (λ h. alike_refl a i k), (λ h. alike_refl b (i - size a) k))

-- They agree before the first fork.
alike_first : (x : Subtrie) (i : ℕ) (k y : Key) → AgreeUpToPlace x i k y → AgreeBelow (first_position x) k y
alike_first (Place e) i k y f q b = absurd (omega arith)
alike_first (Fork p a c) i k y f q b = f.0 q (omega arith)

pub first_shape : (x : Subtrie) → first_position (shape x) ≡ first_position x
first_shape (Place e) = refl
first_shape (Fork p a b) = refl

alike_left : (x : Subtrie) (i j : ℕ) → i < j → j < size x → (k y : Key) → AgreeUpToPlace x i k y → AgreeBelow (suc (between x i j)) k y
alike_left (Place e) i j h b k y f = absurd (omega arith)
alike_left (Fork p u v) i j h b k y f =
    elim (cases_lt j (size u)) as (λ w. AgreeBelow (suc (between (Fork p u v) i j)) k y) [
      | inl c ↦ subst (λ z. AgreeBelow (suc z) k y) (between_low p u v i j c) (alike_left u i j h c k y (f.1 (omega arith)))
      | inr c ↦ elim (cases_lt i (size u)) as (λ w. AgreeBelow (suc (between (Fork p u v) i j)) k y) [
        | inl d ↦ subst (λ z. AgreeBelow (suc z) k y) (between_mid p u v i j d c) f.0
        | inr d ↦
            subst (λ z. AgreeBelow (suc z) k y) (between_high p u v i j (i - size u) (j - size u) (omega arith) (omega arith))
            (alike_left v (i - size u) (j - size u) (omega arith) (omega arith) k y (f.2 d))
      ]
    ]

alike_right : (x : Subtrie) (i j : ℕ) → i < j → j < size x → (k y : Key) → AgreeUpToPlace x j k y → AgreeBelow (suc (between x i j)) k y
alike_right (Place e) i j h b k y f = absurd (omega arith)
alike_right (Fork p u v) i j h b k y f =
    elim (cases_lt j (size u)) as (λ w. AgreeBelow (suc (between (Fork p u v) i j)) k y) [
      | inl c ↦ subst (λ z. AgreeBelow (suc z) k y) (between_low p u v i j c) (alike_right u i j h c k y (f.1 c))
      | inr c ↦ elim (cases_lt i (size u)) as (λ w. AgreeBelow (suc (between (Fork p u v) i j)) k y) [
        | inl d ↦ subst (λ z. AgreeBelow (suc z) k y) (between_mid p u v i j d c) f.0
        | inr d ↦
            subst (λ z. AgreeBelow (suc z) k y) (between_high p u v i j (i - size u) (j - size u) (omega arith) (omega arith))
            (alike_right v (i - size u) (j - size u) (omega arith) (omega arith) k y (f.2 c))
      ]
    ]

tip_shape : (t : Tree) → IsTip t → shape (subtrie t) ≡ Place (Leaf 0)
tip_shape (leaf n k v) i = refl
tip_shape (node n x b) i = refl
tip_shape (fork p a b) i = elim i [ ]

-- Kin bodies have the same forks.
pub kin_shape : {b c : Tree} → Kin b c → shape (subtrie b) ≡ shape (subtrie c)
kin_shape (tips {a = a} {b = b} x y) = tip_shape a x ∙ sym (tip_shape b y)
kin_shape (forks {p = p} e x y) = ap₂ (Fork p) (kin_shape x) (kin_shape y)

between_shape : (x : Subtrie) (i j : ℕ) → between (shape x) i j ≡ between x i j
between_shape (Place e) i j = refl
between_shape (Fork p x y) i j =
    let t = shape_tips x in let f = between_shape x i j in let g = between_shape y (i - size x) (j - size x) in
    subst (λ z. (if ltb j z then between (shape x) i j else (if ltb i z then p else between (shape y) (i - z) (j - z))) ≡ between (Fork p x y) i j) (sym t)
    (subst (λ z. (if ltb j (size x) then z else (if ltb i (size x) then p else between (shape y) (i - size x) (j - size x))) ≡ between (Fork p x y) i j) (sym f)
    (subst (λ z. (if ltb j (size x) then between x i j else (if ltb i (size x) then p else z)) ≡ between (Fork p x y) i j) (sym g) refl))

shape_between : (x y : Subtrie) (i j : ℕ) → shape x ≡ shape y → between x i j ≡ between y i j
shape_between x y i j e = sym (between_shape x i j) ∙ (ap (λ z. between z i j) e ∙ between_shape y i j)

-- Parted keys stay so when each is changed behind that position.
pub parted_alike : (p : ℕ) (k l y z : Key) → IsParted p k l → AgreeBelow (suc p) k y → AgreeBelow (suc p) l z → IsParted p y z
parted_alike p k l y z h f g =
    ((λ q b. sym (f q (omega arith)) ∙ (h.0 q b ∙ g q (omega arith))), sym (f p (omega arith)) ∙ h.1, sym (g p (omega arith)) ∙ h.2)

-- The keys agree beyond the forks on the way to the place, where a fork beyond agrees with them so far.
alike_deep : (b : Tree) (j p : ℕ) (c d : Tree) → IsTrie b → Within (fork p c d) (at_place b j) → (x y : Key) → AgreeBelow p x y → AgreeUpToPlace (subtrie b) j x y
alike_deep (leaf n l v) j p c d i w x y f = tt
alike_deep (node n h b) j p c d i w x y f = tt
alike_deep (fork q a b) j p c d i w x y f = (
  λ z g. f z (let h : q < p = low in omega arith),
  (λ h. alike_deep a j p c d i.0 (subst (λ z. Within (fork p c d) z) (at_low q a b j h) w) x y f),
  (λ h. alike_deep b (j - size (subtrie a)) p c d i.1 (subst (λ z. Within (fork p c d) z) (at_high q a b j h) w) x y f),
)
  where
    low : q < p
    low = elim (cases_lt j (size (subtrie a))) as (λ z. q < p) [
      | inl h ↦ rises false (within_trans (subst (λ z. Within (fork p c d) z) (at_low q a b j h) w) (within_at a j)) i.0
          (λ k l hk hl. i.2 k l (inl hk) (inl hl)) i.3
      | inr h ↦ rises true (within_trans (subst (λ z. Within (fork p c d) z) (at_high q a b j h) w) (within_at b (j - size (subtrie a)))) i.1
          (λ k l hk hl. i.2 k l (inr hk) (inr hl)) i.4
    ]

-- What is known of bodies of one record in two versions.
pub stood_trie : (s : Past) (m : ℕ) → KeepsFixedWordsSince s m → (r : ℕ) (b : Tree) → Stood s m r b → IsTrie b
stood_trie s m law r b st = trie_within (within_trans (inside here) st.stands.within) (law.trees st.at st.stands.tree st.until st.stands.is_version).0

stood_built : (s : Past) (m : ℕ) → KeepsFixedWordsSince s m → (r : ℕ) (b : Tree) → (st : Stood s m r b) → IsBuilt (node r st.fixed b)
stood_built s m law r b st = built_within st.stands.within (law.trees st.at st.stands.tree st.until st.stands.is_version).1

pub stood_kin : (s : Past) (m : ℕ) → KeepsFixedWordsSince s m → (r : ℕ) (b c : Tree) → Stood s m r b → Stood s m r c → Kin b c
stood_kin s m law r b c st su =
    (law.same (a_node r) st.at su.at (node r st.fixed b) (node r su.fixed c) st.since st.until su.since su.until st.stands su.stands).1

pub shaped : (s : Past) (m : ℕ) → KeepsFixedWordsSince s m → (r : ℕ) (p : Subtrie) (b : Tree) → HadShapeSince s m r p → Stood s m r b → shape (subtrie b) ≡ p
shaped s m law r p b (c, st, e) su = sym (kin_shape (stood_kin s m law r c b st su)) ∙ e

-- A key left of the place of another is before it.
pub may_stand_in_order : (s : Past) (m : ℕ) → KeepsFixedWordsSince s m → (r i j : ℕ) → i < j → (y z : Key) → MayStandAt s m r i y → MayStandAt s m r j z → IsBefore y z
may_stand_in_order s m law r i j lt y z (b, k, st, u, f) (c, l, su, v, g) =
    let kin : Kin b c = stood_kin s m law r b c st su in
    let to = under_below c j l v in
    let t : size (subtrie b) ≡ size (subtrie c) = kin_tips kin in
    let e : between (subtrie c) i j ≡ between (subtrie b) i j = shape_between (subtrie c) (subtrie b) i j (sym (kin_shape kin)) in (
      between (subtrie b) i j,
      parted_alike (between (subtrie b) i j) k l y z (parting kin (stood_trie s m law r b st) (stood_trie s m law r c su) i j lt k l u v)
          (alike_left (subtrie b) i j lt (omega arith) k y f)
          (subst (λ p. AgreeBelow (suc p) l z) e (alike_right (subtrie c) i j lt to l z g)),
    )

-- What an entry word says of the tree that it stands for.
pub node_of : (c h : ℕ) (u : Tree) → subtrie u ≡ Place (Node c h) → (x : Fixed) × (d : Tree) × (u ≡ node c x d) × (x.height ≡ h)
node_of c h (leaf n k v) e = absurd cc
node_of c h (fork n k v) e = absurd cc
node_of c h (node n x d) e = (x, d, (let q : n ≡ c = cc in ap (λ z. node z x d) q), cc)

pub leaf_of : (n : ℕ) (u : Tree) → subtrie u ≡ Place (Leaf n) → (k : Key) × (v : ℕ) × (u ≡ leaf n k v)
leaf_of n (node m k v) e = absurd cc
leaf_of n (fork m k v) e = absurd cc
leaf_of n (leaf m k v) e = (k, v, (let q : m ≡ n = cc in ap (λ z. leaf z k v) q))

pub record_node : (r : ℕ) (u : Tree) → IsRecord (a_node r) u → (x : Fixed) × (d : Tree) × (u ≡ node r x d)
record_node r (leaf m k v) e = absurd cc
record_node r (fork m k v) e = absurd e
record_node r (node m x d) e = (x, d, (let q : m ≡ r = cc in ap (λ z. node z x d) q))

pub record_leaf : (r : ℕ) (u : Tree) → IsRecord (a_leaf r) u → (k : Key) × (v : ℕ) × (u ≡ leaf r k v)
record_leaf r (node m k v) e = absurd cc
record_leaf r (fork m k v) e = absurd e
record_leaf r (leaf m k v) e = (k, v, (let q : m ≡ r = cc in ap (λ z. leaf z k v) q))

-- A placed entry's record stood in that version.
pub placed_stands : (s : Past) (m r j : ℕ) (b : Tree) → (st : Stood s m r b) → (e : Entry) → subtrie (at_place b j) ≡ Place e → Stands s st.at (rec_of e) (at_place b j)
placed_stands s m r j b st e pg = record {
  tree = st.stands.tree;
  is_version = st.stands.is_version;
  within = within_trans (within_trans (within_at b j) (inside here)) st.stands.within;
  is_record = record_of_subtrie e (at_place b j) pg;
}

-- A key that agrees before a child's first fork with one that may stand in the child may stand at the child's place.
fit_kin : (s : Past) (m r j i : ℕ) (b : Tree) (l z : Key) → Stood s m r b → IsTrie b → j < size (subtrie b) → {d e : Tree} → Kin d e → IsFork d →
    Within d (at_place b j) → IsUnder e i l → AgreeBelow (first_position (subtrie e)) l z → MayStandAt s m r j z
fit_kin s m r j i b l z st t lt (tips {a = fork p a c} x y) f w u g = elim x [ ]
fit_kin s m r j i b l z st t lt (tips {a = leaf n k v} x y) f w u g = elim f [ ]
fit_kin s m r j i b l z st t lt (tips {a = node n k v} x y) f w u g = elim f [ ]
fit_kin s m r j i b l z st t lt (forks {p = p} {a = a} {b = a'} {c = c} {d = d} e x y) f w u g = (
  b,
  first a,
  st,
  under_at b j (first a) lt (has_within w (first a) (inl (has_first a))),
  alike_deep b j p a a' t w (first a) z (λ q h. e (first a) l (inl (has_first a)) (has_under (fork p c d) i l u) q h ∙ g q h),
)

body_may_stand : (s : Past) (m : ℕ) → KeepsFixedWordsSince s m → (r j c h i : ℕ) (l z : Key) → IsPlaced s m r j (Node c h) → (d : Tree) → Stood s m c d → IsUnder d i l →
    AgreeBelow (first_position (subtrie d)) l z → MayStandAt s m r j z
body_may_stand s m law r j c h i l z (b, st, lt, pg) d su v g =
    let o = node_of c h (at_place b j) pg in
    let sd = placed_stands s m r j b st (Node c h) pg in
    let here_stands : Stands s st.at (a_node c) (node c o.0 o.1) = subst (λ u. Stands s st.at (a_node c) u) o.2 sd in
    let sc : Stood s m c o.1 = record { at = st.at; since = st.since; until = st.until; fixed = o.0; stands = here_stands } in
    fit_kin s m r j i b l z st (stood_trie s m law r b st) lt (stood_kin s m law c o.1 d sc su) (stood_built s m law c o.1 sc).0
    (subst (λ u. Within o.1 u) (sym o.2) (inside here)) v g

-- A key that may stand in a child may stand at the child's place.
pub may_stand_at_child_place : (s : Past) (m : ℕ) → KeepsFixedWordsSince s m → (r j c h i : ℕ) (z : Key) → IsPlaced s m r j (Node c h) → MayStandAt s m c i z → MayStandAt s m r j z
may_stand_at_child_place s m law r j c h i z at (d, l, su, v, g) = body_may_stand s m law r j c h i l z at d su v (alike_first (subtrie d) i l z g)

-- And so may one that agrees with it before the child's first fork.
pub near_may_stand : (s : Past) (m : ℕ) → KeepsFixedWordsSince s m → (r j c h i : ℕ) (p : Subtrie) (y z : Key) → IsPlaced s m r j (Node c h) → HadShapeSince s m c p → MayStandAt s m c i y →
    AgreeBelow (first_position p) y z → MayStandAt s m r j z
near_may_stand s m law r j c h i p y z at sh (d, l, su, v, g) near =
    let e : first_position (subtrie d) ≡ first_position p = sym (first_shape (subtrie d)) ∙ ap first_position (shaped s m law c p d sh su) in
    body_may_stand s m law r j c h i l z at d su v (λ q b. alike_first (subtrie d) i l y g q b ∙ near q (subst (λ n. q < n) e b))

pub leaf_may_stand : (s : Past) (m : ℕ) → KeepsFixedWordsSince s m → (r j n : ℕ) (k : Key) (v : ℕ) → IsPlaced s m r j (Leaf n) → IsRead s m n k v → MayStandAt s m r j k
leaf_may_stand s m law r j n k v (b, st, lt, pg) (o, lo, hi, sn) =
    let w = leaf_of n (at_place b j) pg in
    let sd : Stands s st.at (a_leaf n) (leaf n w.0 w.1) = subst (λ u. Stands s st.at (a_leaf n) u) w.2 (placed_stands s m r j b st (Leaf n) pg) in
    let e : k ≡ w.0 = (law.same (a_leaf n) o st.at (leaf n k v) (leaf n w.0 w.1) lo hi st.since st.until sn sd) in
    (b, k, st, under_at b j k lt (subst (λ u. Has u k) (sym w.2) e), alike_refl (subtrie b) j k)

-- What is known of a key that was held all the time.
on_stood : (s : Past) (m r : ℕ) (k : Key) → HadKeyBelow s m k (a_node r) → (b : Tree) × Stood s m r b × Has b k
on_stood s m r k (n, u, lo, hi, st, h) =
    let o = record_node r u st.is_record in (
      o.1,
      record { at = n; since = lo; until = hi; fixed = o.0; stands = subst (λ z. Stands s n (a_node r) z) o.2 st },
      subst (λ z. Has z k) o.2 h,
    )

-- It has two places or more.
pub shaped_several : (s : Past) (m : ℕ) → KeepsFixedWordsSince s m → (r : ℕ) (p : Subtrie) → HadShapeSince s m r p → 2 ≤ size p
shaped_several s m law r p (b, st, e) = subst (λ x. 2 ≤ size x) e (subst (λ n. 2 ≤ n) (sym (shape_tips (subtrie b))) (several b (stood_built s m law r b st).0))
  where
    several : (b : Tree) → IsFork b → 2 ≤ size (subtrie b)
    several (leaf n k v) f = elim f [ ]
    several (node n x c) f = elim f [ ]
    several (fork q a c) f = let x = size_pos (subtrie a) in let y = size_pos (subtrie c) in omega (arith, x, y)

shaped_spot : (s : Past) (m : ℕ) → KeepsFixedWordsSince s m → (r : ℕ) (p : Subtrie) (b : Tree) (k : Key) → HadShapeSince s m r p → Stood s m r b → spot k (subtrie b) ≡ spot k p
shaped_spot s m law r p b k sh st = sym (spot_shape k (subtrie b)) ∙ ap (spot k) (shaped s m law r p b sh st)

pub had_key_may_stand : (s : Past) (m : ℕ) → KeepsFixedWordsSince s m → (r : ℕ) (p : Subtrie) (k : Key) → HadShapeSince s m r p → HadKeyBelow s m k (a_node r) → MayStandAt s m r (spot k p) k
had_key_may_stand s m law r p k sh on =
    let o = on_stood s m r k on in
    let e = shaped_spot s m law r p o.0 k sh o.1 in
    (o.0, k, o.1, subst (λ z. IsUnder o.0 z k) e (under_spot o.0 k (stood_trie s m law r o.0 o.1) o.2), alike_refl (subtrie o.0) (spot k p) k)

kept_has : (s : Past) (m : ℕ) (k : Key) → IsKeptSince s m k → (n : ℕ) (t : Tree) → m ≤ n → n ≤ s.now → s.version n ≡ Some t → Has t k
kept_has s m k kept n t lo hi e = let o = kept n lo hi in subst (λ z. Has z k) (some_same (sym o.1 ∙ e)) o.2

pub child_had_key : (s : Past) (m : ℕ) → KeepsFixedWordsSince s m → (k : Key) → IsKeptSince s m k → (r j : ℕ) (p : Subtrie) (e : Entry) → HadShapeSince s m r p →
    HadKeyBelow s m k (a_node r) → spot k p ≡ j → IsPlaced s m r j e → HadKeyBelow s m k (rec_of e)
child_had_key s m law k kept r j p e sh on at (b, st, lt, pg) =
    let o = on_stood s m r k on in
    let t : IsTrie b = stood_trie s m law r b st in
    let f : Follows k b =
    follows_kin (stood_kin s m law r o.0 b o.1 st) (stood_built s m law r o.0 o.1).0 k (follows_if_has o.0 (stood_trie s m law r o.0 o.1) k o.2) in
    let h : Has b k =
    has_if_follows (within_trans (inside here) st.stands.within) (law.trees st.at st.stands.tree st.until st.stands.is_version).0 k f
    (kept_has s m k kept st.at st.stands.tree st.since st.until st.stands.is_version) in (
      st.at,
      at_place b j,
      st.since,
      st.until,
      placed_stands s m r j b st e pg,
      subst (λ z. Has (at_place b z) k) (shaped_spot s m law r p b k sh st ∙ at) (subst (λ z. Has z k) (at_spot k b) (has_child b t k h)),
    )

pub root_had_key : (s : Past) (m : ℕ) (k : Key) → IsKeptSince s m k → (e : Entry) → IsRooted s m e → HadKeyBelow s m k (rec_of e)
root_had_key s m k kept e (n, t, lo, hi, g, pg) =
    (n, t, lo, hi, record { tree = t; is_version = g; within = here; is_record = record_of_subtrie e t pg }, kept_has s m k kept n t lo hi g)

pub leaf_had_key : (s : Past) (m : ℕ) → KeepsFixedWordsSince s m → (n : ℕ) (k l : Key) (v : ℕ) → HadKeyBelow s m k (a_leaf n) → IsRead s m n l v → k ≡ l
leaf_had_key s m law n k l v (o, u, lo, hi, st, h) (a, la, ha, sa) =
    let w = record_leaf n u st.is_record in
    let e : l ≡ w.0 = (law.same (a_leaf n) a o (leaf n l v) (leaf n w.0 w.1) la ha lo hi sa (subst (λ z. Stands s o (a_leaf n) z) w.2 st)) in
    (let g : k ≡ w.0 = subst (λ z. Has z k) w.2 h in g ∙ sym e)

pub read_held : (s : Past) (m n : ℕ) (k : Key) (v : ℕ) → IsRead s m n k v → IsHeldSince s m k v
read_held s m n k v (o, lo, hi, st) = (o, st.tree, lo, hi, st.is_version, holds_within st.within k v (refl, refl))

-- A search that goes by placed entries is led: `hindsight` without the state.
pub led_placed : (s : Past) (m : ℕ) → KeepsFixedWordsSince s m → (k : Key) (r h j : ℕ) (p : Subtrie) (e : Entry) → HadShapeSince s m r p → spot k p ≡ j → IsPlaced s m r j e →
    IsLed s m k (Node r h) → IsLed s m k e
led_placed s m law k r h j p e sh at (b, st, lt, pe) (n, u, lo, hi, su, pg, f) =
    (st.at, at_place b j, st.since, st.until, placed_stands s m r j b st e pe, pe, go f)
  where
    o : (x : Fixed) × (d : Tree) × (u ≡ node r x d) × (x.height ≡ h)
    o = node_of r h u pg

    sd : Stood s m r o.1
    sd = record { at = n; since = lo; until = hi; fixed = o.0; stands = subst (λ z. Stands s n (a_node r) z) o.2 su }

    same : child k b ≡ at_place b j
    same = at_spot k b ∙ ap (at_place b) (shaped_spot s m law r p b k sh st ∙ at)

    w : Within b st.stands.tree
    w = within_trans (inside here) st.stands.within

    either : Follows k (child k b) ⊎ ¬ (Has st.stands.tree k) → Follows k (at_place b j) ⊎ WasAbsentSince s m k
    either (inl x) = inl (subst (Follows k) same x)
    either (inr x) = inr (st.at, st.since, st.until, λ t q h. x (subst (λ z. Has z k) (some_same (sym q ∙ st.stands.is_version)) h))

    go : Follows k u ⊎ WasAbsentSince s m k → Follows k (at_place b j) ⊎ WasAbsentSince s m k
    go (inr x) = inr x
    go (inl x) = either (descend w (law.trees st.at st.stands.tree st.until st.stands.is_version).0 k
        (follows_kin (stood_kin s m law r o.1 b sd st) (stood_built s m law r o.1 sd).0 k (subst (λ z. Follows k z) o.2 x)))

-- The order.
pub before_trans : (a b c : Key) → IsBefore a b → IsBefore b c → IsBefore a c
before_trans a b c (p, f) (q, g) = elim (cases_order p q) as (λ z. IsBefore a c) [
  | inl e ↦ absurd (false≢true (sym g.1 ∙ (ap (bit b) (sym e) ∙ f.2)))
  | inr (inl h) ↦ (p, ((λ z w. f.0 z w ∙ g.0 z (omega arith)), f.1, sym (g.0 p h) ∙ f.2))
  | inr (inr h) ↦ (q, ((λ z w. f.0 z (omega arith) ∙ g.0 z w), f.0 q h ∙ g.1, g.2))
]

pub never_before : (a b : Key) → IsBefore a b → IsAtMost b a → ⊥
never_before a b (p, f) (inl e) = false≢true (sym f.1 ∙ (ap (λ z. bit z p) (sym e) ∙ f.2))
never_before a b x (inr y) = before_irrefl a (before_trans a b a x y)

pub before_most : (a b c : Key) → IsBefore a b → IsAtMost b c → IsBefore a c
before_most a b c x (inl e) = subst (IsBefore a) e x
before_most a b c x (inr y) = before_trans a b c x y
