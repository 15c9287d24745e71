-- Parts of a way, and the locks of their nodes, one more and one less.
use Rattle.rowex_writing.proofs.Common.{◌≡◌, ◌≢◌, inl, inr, ℕ, ◌+◌, ◌-◌, ◌<◌, ◌≤◌, List, [], ◌∷◌, length, get_or, take, drop, refl, sym, ap, subst, ◌∙◌, arith, suc, zero, Contains, slice_range, drop_more, drop_all, length-drop, length-take-le, length-map, All-drop, All-take, All-weaker, Layout, PathNode, Node, EntryStoodSince, IsOneOf, map_of, none_of, of_map, Known, Locked, LocksJust, IsLater, nodes_of, sure_stays}
use Rattle.rowex_writing.specs.locks.Locks.{AreLed, AreNodes, HasJustLocked, HasMetLock, IsLedStep, LocksOne, numbers_of}

-- ---- parts of a list
-- a part that begins one earlier
pub slice_more : {X : Type 0} (xs : List X) (i j : ℕ) (d : X) → i < j → j ≤ length xs → slice_range xs i j ≡ get_or xs i d ∷ slice_range xs (i + 1) j
slice_more xs i j d low high =
    let e : j - i ≡ suc (j - (i + 1)) = omega arith in
    ap (λ n. take n (drop i xs)) e ∙ ap (take (suc (j - (i + 1)))) (drop_more xs i d (omega arith))

pub slice_none : {X : Type 0} (xs : List X) (i : ℕ) → slice_range xs i i ≡ []
slice_none xs i = let e : i - i ≡ 0 = omega arith in ap (λ n. take n (drop i xs)) e

-- ---- nodes that are locked
pub none_taken : (k : Known) → k.locks ≡ [] → HasJustLocked k []
none_taken k e = (record { only = λ l i. subst (λ z. IsOneOf l z) e i; each = λ n i. absurd i }, tt)

-- one more
pub locked_more : (k j : Known) (n : ℕ) (ns : List ℕ) → LocksOne n k j → HasJustLocked k ns → HasJustLocked j (n ∷ ns)
locked_more k j n ns ((words, locks), new, own, anchor) (just, apart) = (record { only = only; each = each }, (not_there, apart))
  where
    only : (l : Locked) → IsOneOf l j.locks → IsOneOf l.node (n ∷ ns)
    only l i = elim (subst (λ z. IsOneOf l z) locks i) [ inl e ↦ inl (ap (λ (z : Locked). z.node) e) | inr older ↦ inr (just.only l older) ]

    each : (m : ℕ) → IsOneOf m (n ∷ ns) → (l : Locked) × IsOneOf l j.locks × (l.node ≡ m)
    each m (inl e) = (record { node = n; words = words }, subst (λ z. IsOneOf (record { node = n; words = words }) z) (sym locks) (inl refl), sym e)
    each m (inr i) = let (l, there, is) = just.each m i in (l, subst (λ z. IsOneOf l z) (sym locks) (inr there), is)

    not_there : IsOneOf n ns → ⊥
    not_there i = let (l, there, is) = just.each n i in new (subst (λ z. IsOneOf z (nodes_of k.locks)) is (map_of (λ (z : Locked). z.node) l k.locks there))

-- the same, where the locks are
pub locked_same : (k j : Known) (ns : List ℕ) → j.locks ≡ k.locks → HasJustLocked k ns → HasJustLocked j ns
locked_same k j ns e (just, apart) = (subst (λ z. LocksJust z ns) (sym e) just, apart)

-- the first of those that are left
pub first_locked : (k : Known) (steps : List PathNode) (i : ℕ) (d : PathNode) → i < length steps → HasJustLocked k (numbers_of (drop i steps)) →
    HasJustLocked k ((get_or steps i d).number ∷ numbers_of (drop (i + 1) steps))
first_locked k steps i d low h = subst (λ (z : List PathNode). HasJustLocked k (numbers_of z)) (drop_more steps i d low) h

-- none is left
pub none_locked : (k : Known) (steps : List PathNode) (i : ℕ) → length steps ≤ i → HasJustLocked k (numbers_of (drop i steps)) → k.locks ≡ []
none_locked k steps i past (just, apart) = none_of k.locks (λ l there. subst (λ (z : List PathNode). IsOneOf l.node (numbers_of z)) (drop_all i steps past) (just.only l there))

-- ---- nodes to which the pass was led
pub led_step_later : (layout : Layout) (k j : Known) (s : PathNode) → IsLater k j → IsLedStep layout k s → IsLedStep layout j s
led_step_later layout k j s later (low, (m, h, (pin, pinned, early), sure)) = (low, (m, h, (pin, later.pin ∙ pinned, early), sure_stays k j (λ past. EntryStoodSince past m (Node s.number h)) later sure))

pub led_at : (layout : Layout) (k j : Known) (way : List PathNode) (i : ℕ) (d : PathNode) → i < length way → IsLater k j → AreLed layout k way → IsLedStep layout j (get_or way i d)
led_at layout k j way i d low later led = led_step_later layout k j (get_or way i d) later (led i d low)

pub led_nodes : (layout : Layout) (k : Known) (way : List PathNode) (i j : ℕ) → AreLed layout k way → AreNodes layout (slice_range way i j)
led_nodes layout k way i j led =
    All-take (λ (s : PathNode). s.number < layout.nodes) (j - i) (drop i way) (All-drop (λ (s : PathNode). s.number < layout.nodes) i way
    (All-weaker (IsLedStep layout k) (λ (s : PathNode). s.number < layout.nodes) (λ s h. h.0) way led))

-- a node that is none of those is not locked
pub not_locked : (k : Known) (n : ℕ) (ns : List ℕ) → HasJustLocked k ns → ¬ (IsOneOf n ns) → ¬ (IsOneOf n (nodes_of k.locks))
not_locked k n ns (just, apart) new i =
    let (l, there, same) = of_map (λ (z : Locked). z.node) n k.locks i in new (subst (λ m. IsOneOf m ns) (sym same) (just.only l there))

-- ---- a lock that was refused some time ago
pub met_since : (layout : Layout) (k i j h : Known) → k.steps ≤ i.steps → i.pass ≡ k.pass → h.failed ≡ j.failed → HasMetLock layout i j → HasMetLock layout k h
met_since layout k i j h count pass same m = record {
  target = m.target;
  failed = m.failed;
  is = subst (λ z. Contains z m.failed) (sym same) m.is;
  by = m.by;
  act = m.act;
  another = subst (λ q. m.by ≢ q) pass m.another;
  below = m.below;
  place = m.place;
  word = m.word;
  now = let l = m.now in omega arith;
}

take_few : {X : Type 0} (n : ℕ) (xs : List X) → length (take n xs) ≤ n
take_few zero xs = omega arith
take_few (suc n) [] = omega arith
take_few (suc n) (x ∷ xs) = let z = take_few n xs in omega (arith, z)

pub slice_few : {X : Type 0} (xs : List X) (i j : ℕ) → length (slice_range xs i j) ≤ j - i
slice_few xs i j = take_few (j - i) (drop i xs)

slice_just : {X : Type 0} (xs : List X) (i j : ℕ) → i ≤ j → j ≤ length xs → length (slice_range xs i j) ≡ j - i
slice_just xs i j low high = length-take-le (j - i) (drop i xs) (omega (arith, length-drop i xs, low, high))

pub numbers_few : (way : List PathNode) (i j : ℕ) → i ≤ j → j ≤ length way → length (numbers_of (slice_range way i j)) ≡ j - i
numbers_few way i j low high = length-map (slice_range way i j) (λ (s : PathNode). s.number) ∙ slice_just way i j low high
