-- The keys of the part that an insertion affects.
use Rattle.tries.proofs.Common.{◌≡◌, ◌≢◌, ◌⊎◌, inl, inr, ℕ, ◌<◌, ◌≤◌, Bool, true, false, refl, ap, sym, ◌∙◌, arith, lt_trans, if◌then◌else◌, ltb, ltb-true, ltb-false, cases_order, Entry, Leaf, Fork}
use Rattle.tries.specs.Keys.{Key, bit, AgreeBelow}
use Rattle.tries.specs.Tree.{subtrie, IsLower, Tree, leaf, node, fork, Has, IsTrie, Within, here, inside, zero_side, one_side}
use Rattle.tries.specs.Search.{Follows, child}
use Rattle.tries.specs.Content.{Item, first}
use Rattle.tries.proofs.Changes.{put, IsPathBelow, IsInOwnSubtrie}
use Rattle.tries.proofs.Place.{grown}
use Rattle.tries.specs.Affected.{affected, IsLeafOrFork, subtrie_affected, subtrie_forked, subtrie_grown, IsLeafOrForkSubtrie, IsLowerSubtrie}
use Rattle.tries.proofs.Tree.{has_first, has_within, within_trans, within_child, rises}

-- A key that follows a stem within a side agrees with the side's keys before the fork, and takes that side.
pub follows_agree : (p : ℕ) (s : Tree) {t : Tree} (u : Bool) → Within s t → IsTrie t →
    ((k l : Key) → Has t k → Has t l → AgreeBelow p k l) → ((k : Key) → Has t k → bit k p ≡ u) →
    (l : Key) → Follows l s → (z : Key) → Has t z → AgreeBelow p l z × (bit l p ≡ u)
follows_agree p (leaf n m v) u w i same side l f z h =
    ((λ q x. ap (λ y. bit y q) f ∙ same m z (has_within w m refl) h q x), ap (λ y. bit y p) f ∙ side m (has_within w m refl))
follows_agree p (node n x b) u w i same side l f z h = follows_agree p b u (within_trans (inside here) w) i same side l f z h
follows_agree p (fork q c d) u w i same side l f z h =
    let a : p < q = rises u w i same side in
    let m = first c in
    let o = has_within w m (inl (has_first c)) in
    ((λ r x. f m (inl (has_first c)) r (lt_trans x a) ∙ same m z o h r x), f m (inl (has_first c)) p a ∙ side m o)

other : (u v : Bool) → u ≢ v → v ≡ (if u then false else true)
other true true n = absurd (n refl)
other true false n = refl
other false true n = refl
other false false n = absurd (n refl)

-- What a writer has to know of a key of the affected part.
abbrev pub DifferFirstAt : ℕ → Key → Key → Type 0
DifferFirstAt p k y = AgreeBelow p k y × (bit y p ≡ (if bit k p then false else true))

pub differ_first_through : (p : ℕ) (k l y : Key) → AgreeBelow p k l → bit k p ≢ bit l p → AgreeBelow p l y → bit l p ≡ bit y p → DifferFirstAt p k y
differ_first_through p k l y g d a e = ((λ q x. g q x ∙ a q x), sym e ∙ other (bit k p) (bit l p) d)

pub part_differs_first : (p : ℕ) (k l : Key) → AgreeBelow p k l → bit k p ≢ bit l p → (b : Tree) → IsTrie b → IsLeafOrFork (affected p k b) → Follows l (child k b) →
    (y : Key) → Has (affected p k b) y → DifferFirstAt p k y
part_differs_first p k l g d (leaf n m v) i h f y z =
    differ_first_through p k l y g d (λ q x. ap (λ o. bit o q) (f ∙ sym z)) (ap (λ o. bit o p) (f ∙ sym z))
part_differs_first p k l g d (node n x b) i h f y z = elim h [ ]
part_differs_first p k l g d (fork q a b) i h f y z =
    go (ltb q p) refl (part_differs_first p k l g d a i.0) (part_differs_first p k l g d b i.1) h z
  where
    behind : p ≤ q → (u : Bool) → bit k q ≡ u → Follows l (if u then child k b else child k a) → Has a y ⊎ Has b y → DifferFirstAt p k y
    behind le true e f z =
        let x = follows_agree q (child k b) true (within_child k b) i.1 (λ m n s t. i.2 m n (inr s) (inr t)) i.4 l f (first b) (has_first b) in
        let j : AgreeBelow q l y = λ r s. x.0 r s ∙ i.2 (first b) y (inr (has_first b)) z r s in
        elim (cases_order p q) [
          | inl o ↦ absurd (d (ap (bit k) o ∙ (e ∙ (sym x.1 ∙ ap (bit l) (sym o)))))
          | inr (inl o) ↦ differ_first_through p k l y g d (λ r s. j r (lt_trans s o)) (j p o)
          | inr (inr o) ↦ absurd (omega arith)
        ]
    behind le false e f z =
        let x = follows_agree q (child k a) false (within_child k a) i.0 (λ m n s t. i.2 m n (inl s) (inl t)) i.3 l f (first a) (has_first a) in
        let j : AgreeBelow q l y = λ r s. x.0 r s ∙ i.2 (first a) y (inl (has_first a)) z r s in
        elim (cases_order p q) [
          | inl o ↦ absurd (d (ap (bit k) o ∙ (e ∙ (sym x.1 ∙ ap (bit l) (sym o)))))
          | inr (inl o) ↦ differ_first_through p k l y g d (λ r s. j r (lt_trans s o)) (j p o)
          | inr (inr o) ↦ absurd (omega arith)
        ]

    down : (u : Bool) → (IsLeafOrFork (affected p k a) → Follows l (child k a) → (y : Key) → Has (affected p k a) y → DifferFirstAt p k y) →
        (IsLeafOrFork (affected p k b) → Follows l (child k b) → (y : Key) → Has (affected p k b) y → DifferFirstAt p k y) →
        IsLeafOrFork (if u then affected p k b else affected p k a) → Follows l (if u then child k b else child k a) →
        Has (if u then affected p k b else affected p k a) y → DifferFirstAt p k y
    down true r s h f z = s h f y z
    down false r s h f z = r h f y z

    go : (u : Bool) → ltb q p ≡ u → (IsLeafOrFork (affected p k a) → Follows l (child k a) → (y : Key) → Has (affected p k a) y → DifferFirstAt p k y) →
        (IsLeafOrFork (affected p k b) → Follows l (child k b) → (y : Key) → Has (affected p k b) y → DifferFirstAt p k y) →
        IsLeafOrFork (if u then (if bit k q then affected p k b else affected p k a) else fork q a b) →
        Has (if u then (if bit k q then affected p k b else affected p k a) else fork q a b) y → DifferFirstAt p k y
    go true e r s h z = down (bit k q) r s h f z
    go false e r s h z = behind (ltb-false q p e) (bit k q) refl f z

-- The part's place: in the record's own subtrie, below forks before `p` alone; and the subtrie with a new leaf there.
abbrev pub at_part : ℕ → Key → (Tree → Tree) → Tree → Tree
at_part p k r (leaf n l v) = r (leaf n l v)
at_part p k r (node n x b) = r (node n x b)
at_part p k r (fork q a b) = if ltb q p then (if bit k q then fork q a (at_part p k r b) else fork q (at_part p k r a) b) else r (fork q a b)

abbrev pub IsPlace : ℕ → Key → Tree → Tree → Type 0
IsPlace p k s b = (w : Within s b) × IsInOwnSubtrie w × IsPathBelow p w ×
    ((e : Entry) (r : Tree) → subtrie r ≡ subtrie_forked (bit k p) p e (subtrie s) → subtrie (put w r) ≡ subtrie_grown p k e (subtrie b)) × ((r : Tree → Tree) → put w (r s) ≡ at_part p k r b)

pub part_place : (p : ℕ) (k : Key) (b : Tree) → IsPlace p k (affected p k b) b
part_place p k (leaf n m v) = (here, tt, tt, λ e r h. h, λ r. refl)
part_place p k (node n x b) = (here, tt, tt, λ e r h. h, λ r. refl)
part_place p k (fork q a b) = go (ltb q p) refl (bit k q) (part_place p k a) (part_place p k b)
  where
    go : (u : Bool) → ltb q p ≡ u → (o : Bool) → IsPlace p k (affected p k a) a → IsPlace p k (affected p k b) b →
        (w : Within (if u then (if o then affected p k b else affected p k a) else fork q a b) (fork q a b)) × IsInOwnSubtrie w × IsPathBelow p w ×
        ((e : Entry) (r : Tree) → subtrie r ≡ subtrie_forked (bit k p) p e (subtrie (if u then (if o then affected p k b else affected p k a) else fork q a b)) →
        subtrie (put w r) ≡ (if u then (if o then Fork q (subtrie a) (subtrie_grown p k e (subtrie b)) else Fork q (subtrie_grown p k e (subtrie a)) (subtrie b)) else
        subtrie_forked (bit k p) p e (Fork q (subtrie a) (subtrie b)))) ×
        ((r : Tree → Tree) → put w (r (if u then (if o then affected p k b else affected p k a) else fork q a b)) ≡
        (if u then (if o then fork q a (at_part p k r b) else fork q (at_part p k r a) b) else r (fork q a b)))
    go true e true x y = (one_side y.0, y.1, (ltb-true q p e, y.2), λ f r h. ap (Fork q (subtrie a)) (y.3 f r h), λ r. ap (fork q a) (y.4 r))
    go true e false x y = (zero_side x.0, x.1, (ltb-true q p e, x.2), λ f r h. ap (λ z. Fork q z (subtrie b)) (x.3 f r h), λ r. ap (λ z. fork q z b) (x.4 r))
    go false e o x y = (here, tt, tt, λ f r h. h, λ r. refl)

pub affected_subtrie : (p : ℕ) (k : Key) (b : Tree) → subtrie (affected p k b) ≡ subtrie_affected p k (subtrie b)
affected_subtrie p k (leaf n l v) = refl
affected_subtrie p k (node n x b) = refl
affected_subtrie p k (fork q a b) = go (ltb q p) (bit k q) (affected_subtrie p k a) (affected_subtrie p k b)
  where
    go : (u o : Bool) → subtrie (affected p k a) ≡ subtrie_affected p k (subtrie a) → subtrie (affected p k b) ≡ subtrie_affected p k (subtrie b) →
        subtrie (if u then (if o then affected p k b else affected p k a) else fork q a b) ≡
        (if u then (if o then subtrie_affected p k (subtrie b) else subtrie_affected p k (subtrie a)) else Fork q (subtrie a) (subtrie b))
    go true true e f = f
    go true false e f = e
    go false o e f = refl

pub part_subtrie : (u : Tree) → IsLeafOrForkSubtrie (subtrie u) → IsLeafOrFork u
part_subtrie (leaf n l v) i = tt
part_subtrie (node n l v) i = i
part_subtrie (fork n l v) i = tt

pub lower_subtrie : (h : ℕ) (u : Tree) → IsLowerSubtrie h (subtrie u) → IsLower h u
lower_subtrie h (leaf n l v) i = i
lower_subtrie h (node n l v) i = i
lower_subtrie h (fork n a b) i = (lower_subtrie h a i.0, lower_subtrie h b i.1)

pub grown_subtrie : (u : Bool) (p : ℕ) (s : Tree) (x : Item) → subtrie (grown u p s x) ≡ subtrie_forked u p (Leaf x.number) (subtrie s)
grown_subtrie false p s x = refl
grown_subtrie true p s x = refl

-- The subtrie of the body with the new leaf.
pub place_subtrie : (p : ℕ) (x : Item) (b : Tree) →
    subtrie (put (part_place p x.key b).0 (grown (bit x.key p) p (affected p x.key b) x)) ≡ subtrie_grown p x.key (Leaf x.number) (subtrie b)
place_subtrie p x b =
    (part_place p x.key b).3 (Leaf x.number) (grown (bit x.key p) p (affected p x.key b) x) (grown_subtrie (bit x.key p) p (affected p x.key b) x)
