-- The place to which a key's search leads, in a tree and in a subtrie.
use Rattle.tries.proofs.Common.{◌≡◌, ℕ, ◌+◌, ◌-◌, ◌<◌, Bool, true, false, Option, Some, refl, ap, sym, ◌∙◌, subst, arith, if◌then◌else◌, ltb, cond, MatchBool, cond-true, cond-false, lt-ltb, le-ltb, ltb-true, Entry, Place, Fork, size}
use Rattle.node_tries.specs.Changes.{collapsed, is_place, sibling, without}
use Rattle.node_tries.specs.Grafts.{grafted, IsAbovePath}
use Rattle.tries.specs.Keys.{Key, bit}
use Rattle.tries.specs.Tree.{Subtrie, Tree, leaf, node, fork, subtrie, IsTip, Within, here, zero_side, one_side}
use Rattle.tries.specs.Search.{child}
use Rattle.tries.proofs.Changes.{put, IsPathBelow, IsInOwnSubtrie}
use Rattle.tries.specs.Place.{fork_closed, side_beside, spot, subtrie_collapsed, subtrie_sibling, with_entry, with_subtrie, joined, subtrie_without}
use Rattle.tries.specs.Affected.{affected}
use Rattle.tries.proofs.Place.{spot_below}

with_low : (q : ℕ) (x y : Subtrie) (i : ℕ) (e : Entry) → i < size x → with_entry (Fork q x y) i e ≡ Fork q (with_entry x i e) y
with_low q x y i e h = cond-true (ltb i (size x)) _ _ (lt-ltb i (size x) h)

with_high : (q : ℕ) (x y : Subtrie) (i j : ℕ) (e : Entry) → i ≡ size x + j → with_entry (Fork q x y) i e ≡ Fork q x (with_entry y j e)
with_high q x y i j e h =
    let d : i - size x ≡ j = omega arith in
    cond-false (ltb i (size x)) _ _ (le-ltb i (size x) (omega arith)) ∙ ap (λ z. Fork q x (with_entry y z e)) d

-- A store of an entry at the place by its number.
pub with_subtrie_entry : (k : Key) (e : Entry) (x : Subtrie) → with_subtrie k (Place e) x ≡ with_entry x (spot k x) e
with_subtrie_entry k e (Place d) = refl
with_subtrie_entry k e (Fork q x y) = go (bit k q) (with_subtrie_entry k e x) (with_subtrie_entry k e y)
  where
    go : (u : Bool) → with_subtrie k (Place e) x ≡ with_entry x (spot k x) e → with_subtrie k (Place e) y ≡ with_entry y (spot k y) e →
        (if u then Fork q x (with_subtrie k (Place e) y) else Fork q (with_subtrie k (Place e) x) y) ≡ with_entry (Fork q x y) (if u then size x + spot k y else spot k x) e
    go true f g = ap (Fork q x) g ∙ sym (with_high q x y (size x + spot k y) (spot k y) e refl)
    go false f g = ap (λ z. Fork q z y) f ∙ sym (with_low q x y (spot k x) e (spot_below k x))

grafted_low : (q : ℕ) (x y r : Subtrie) (i : ℕ) → i < size x → grafted i r (Fork q x y) ≡ Fork q (grafted i r x) y
grafted_low q x y r i h = cond-true (ltb i (size x)) _ _ (lt-ltb i (size x) h)

grafted_high : (q : ℕ) (x y r : Subtrie) (i : ℕ) → grafted (size x + i) r (Fork q x y) ≡ Fork q x (grafted i r y)
grafted_high q x y r i =
    let d : size x + i - size x ≡ i = omega arith in
    cond-false (ltb (size x + i) (size x)) _ _ (le-ltb (size x + i) (size x) (omega arith)) ∙ ap (λ j. Fork q x (grafted j r y)) d

-- Another subtrie at the place by its number.
pub grafted_spot : (k : Key) (r x : Subtrie) → grafted (spot k x) r x ≡ with_subtrie k r x
grafted_spot k r (Place e) = refl
grafted_spot k r (Fork q x y) = go (bit k q) (grafted_spot k r x) (grafted_spot k r y)
  where
    go : (u : Bool) → grafted (spot k x) r x ≡ with_subtrie k r x → grafted (spot k y) r y ≡ with_subtrie k r y →
        grafted (if u then size x + spot k y else spot k x) r (Fork q x y) ≡ (if u then Fork q x (with_subtrie k r y) else Fork q (with_subtrie k r x) y)
    go true f g = grafted_high q x y r (spot k y) ∙ ap (Fork q x) g
    go false f g = grafted_low q x y r (spot k x) (spot_below k x) ∙ ap (λ z. Fork q z y) f

without_low : (q : ℕ) (x y : Subtrie) (i : ℕ) → i < size x → without i (Fork q x y) ≡ cond (is_place x) y (Fork q (without i x) y)
without_low q x y i h = cond-true (ltb i (size x)) _ _ (lt-ltb i (size x) h)

without_high : (q : ℕ) (x y : Subtrie) (i : ℕ) → without (size x + i) (Fork q x y) ≡ cond (is_place y) x (Fork q x (without i y))
without_high q x y i =
    let d : size x + i - size x ≡ i = omega arith in
    cond-false (ltb (size x + i) (size x)) _ _ (le-ltb (size x + i) (size x) (omega arith)) ∙ ap (λ j. cond (is_place y) x (Fork q x (without j y))) d

joined_zero : (q : ℕ) (x y r : Subtrie) → cond (is_place x) y (Fork q r y) ≡ joined q false x y r
joined_zero q (Place e) y r = refl
joined_zero q (Fork p a b) y r = refl

joined_one : (q : ℕ) (x y r : Subtrie) → cond (is_place y) x (Fork q x r) ≡ joined q true x y r
joined_one q x (Place e) r = refl
joined_one q x (Fork p a b) r = refl

-- The place by its number taken out.
pub without_spot : (k : Key) (x : Subtrie) → without (spot k x) x ≡ subtrie_without k x
without_spot k (Place e) = refl
without_spot k (Fork q x y) = go (bit k q) (without_spot k x) (without_spot k y)
  where
    go : (u : Bool) → without (spot k x) x ≡ subtrie_without k x → without (spot k y) y ≡ subtrie_without k y →
        without (if u then size x + spot k y else spot k x) (Fork q x y) ≡ joined q u x y (if u then subtrie_without k y else subtrie_without k x)
    go true f g = without_high q x y (spot k y) ∙ (ap (λ z. cond (is_place y) x (Fork q x z)) g ∙ joined_one q x y (subtrie_without k y))
    go false f g = without_low q x y (spot k x) (spot_below k x) ∙ (ap (λ z. cond (is_place x) y (Fork q z y)) f ∙ joined_zero q x y (subtrie_without k x))

sibling_low : (q : ℕ) (x y : Subtrie) (i : ℕ) → i < size x → sibling i (Fork q x y) ≡ cond (is_place x) (Some (q, y)) (sibling i x)
sibling_low q x y i h = cond-true (ltb i (size x)) _ _ (lt-ltb i (size x) h)

sibling_high : (q : ℕ) (x y : Subtrie) (i : ℕ) → sibling (size x + i) (Fork q x y) ≡ cond (is_place y) (Some (q, x)) (sibling i y)
sibling_high q x y i =
    let d : size x + i - size x ≡ i = omega arith in
    cond-false (ltb (size x + i) (size x)) _ _ (le-ltb (size x + i) (size x) (omega arith)) ∙ ap (λ j. cond (is_place y) (Some (q, x)) (sibling j y)) d

beside_zero : (q : ℕ) (x y : Subtrie) (r : Option (ℕ × Subtrie)) → cond (is_place x) (Some (q, y)) r ≡ side_beside q false x y r
beside_zero q (Place e) y r = refl
beside_zero q (Fork p a b) y r = refl

beside_one : (q : ℕ) (x y : Subtrie) (r : Option (ℕ × Subtrie)) → cond (is_place y) (Some (q, x)) r ≡ side_beside q true x y r
beside_one q x (Place e) r = refl
beside_one q x (Fork p a b) r = refl

-- The other side of the last fork on the way to it.
pub sibling_spot : (k : Key) (x : Subtrie) → sibling (spot k x) x ≡ subtrie_sibling k x
sibling_spot k (Place e) = refl
sibling_spot k (Fork q x y) = go (bit k q) (sibling_spot k x) (sibling_spot k y)
  where
    go : (u : Bool) → sibling (spot k x) x ≡ subtrie_sibling k x → sibling (spot k y) y ≡ subtrie_sibling k y →
        sibling (if u then size x + spot k y else spot k x) (Fork q x y) ≡ side_beside q u x y (if u then subtrie_sibling k y else subtrie_sibling k x)
    go true f g = sibling_high q x y (spot k y) ∙ (ap (λ z. cond (is_place y) (Some (q, x)) z) g ∙ beside_one q x y (subtrie_sibling k y))
    go false f g = sibling_low q x y (spot k x) (spot_below k x) ∙ (ap (λ z. cond (is_place x) (Some (q, y)) z) f ∙ beside_zero q x y (subtrie_sibling k x))

collapsed_low : (q : ℕ) (f : Entry) (x y : Subtrie) (i : ℕ) → i < size x → collapsed i f (Fork q x y) ≡ cond (is_place x) (Place f) (Fork q (collapsed i f x) y)
collapsed_low q f x y i h = cond-true (ltb i (size x)) _ _ (lt-ltb i (size x) h)

collapsed_high : (q : ℕ) (f : Entry) (x y : Subtrie) (i : ℕ) → collapsed (size x + i) f (Fork q x y) ≡ cond (is_place y) (Place f) (Fork q x (collapsed i f y))
collapsed_high q f x y i =
    let d : size x + i - size x ≡ i = omega arith in
    cond-false (ltb (size x + i) (size x)) _ _ (le-ltb (size x + i) (size x) (omega arith)) ∙ ap (λ j. cond (is_place y) (Place f) (Fork q x (collapsed j f y))) d

closed_zero : (q : ℕ) (f : Entry) (x y r : Subtrie) → cond (is_place x) (Place f) (Fork q r y) ≡ fork_closed q false f x y r
closed_zero q f (Place e) y r = refl
closed_zero q f (Fork p a b) y r = refl

closed_one : (q : ℕ) (f : Entry) (x y r : Subtrie) → cond (is_place y) (Place f) (Fork q x r) ≡ fork_closed q true f x y r
closed_one q f x (Place e) r = refl
closed_one q f x (Fork p a b) r = refl

-- An entry in place of that fork.
pub collapsed_spot : (k : Key) (f : Entry) (x : Subtrie) → collapsed (spot k x) f x ≡ subtrie_collapsed k f x
collapsed_spot k f (Place e) = refl
collapsed_spot k f (Fork q x y) = go (bit k q) (collapsed_spot k f x) (collapsed_spot k f y)
  where
    go : (u : Bool) → collapsed (spot k x) f x ≡ subtrie_collapsed k f x → collapsed (spot k y) f y ≡ subtrie_collapsed k f y →
        collapsed (if u then size x + spot k y else spot k x) f (Fork q x y) ≡ fork_closed q u f x y (if u then subtrie_collapsed k f y else subtrie_collapsed k f x)
    go true g h = collapsed_high q f x y (spot k y) ∙ (ap (λ z. cond (is_place y) (Place f) (Fork q x z)) h ∙ closed_one q f x y (subtrie_collapsed k f y))
    go false g h = collapsed_low q f x y (spot k x) (spot_below k x) ∙ (ap (λ z. cond (is_place x) (Place f) (Fork q z y)) g ∙ closed_zero q f x y (subtrie_collapsed k f x))

-- The place: in the record's own subtrie, what a tree put there makes of the subtrie, and that it is below forks before `p`
-- alone where it alone is affected.
abbrev pub IsSpot : Key → Tree → Tree → Type 0
IsSpot k b s = (w : Within s b) × IsInOwnSubtrie w × ((r : Tree) → subtrie (put w r) ≡ with_subtrie k (subtrie r) (subtrie b)) ×
    ((p : ℕ) → IsTip (affected p k b) → IsPathBelow p w)

-- And as the forks above it are before `p`, so are those on the path to it in the subtrie.
abbrev pub IsPathSpot : Key → Tree → Tree → Type 0
IsPathSpot k b s = (i : IsSpot k b s) × ((p : ℕ) → IsPathBelow p i.0 → IsAbovePath p (spot k (subtrie b)) (subtrie b))

pub path_low : (p q : ℕ) (x y : Subtrie) (i : ℕ) → i < size x → q < p → IsAbovePath p i x → IsAbovePath p i (Fork q x y)
path_low p q x y i h l a = (l, subst (λ o. MatchBool o (IsAbovePath p i x) (IsAbovePath p (i - size x) y)) (sym (lt-ltb i (size x) h)) a)

pub path_high : (p q : ℕ) (x y : Subtrie) (i : ℕ) → q < p → IsAbovePath p i y → IsAbovePath p (size x + i) (Fork q x y)
path_high p q x y i l a =
    let d : i ≡ size x + i - size x = omega arith in
    (l, subst (λ o. MatchBool o (IsAbovePath p (size x + i) x) (IsAbovePath p (size x + i - size x) y)) (sym (le-ltb (size x + i) (size x) (omega arith))) (subst (λ j. IsAbovePath p j y) d a))

tip_down : (p q : ℕ) (s a b : Tree) (u : Bool) → ltb q p ≡ u → IsTip (if u then s else fork q a b) → (q < p) × IsTip s
tip_down p q s a b true e i = (ltb-true q p e, i)
tip_down p q s a b false e i = elim i [ ]

pub path_spot : (k : Key) (b : Tree) → IsPathSpot k b (child k b)
path_spot k (leaf n l v) = ((here, tt, λ r. refl, λ p i. tt), λ p i. tt)
path_spot k (node n x b) = ((here, tt, λ r. refl, λ p i. tt), λ p i. tt)
path_spot k (fork q a b) = go (bit k q) (path_spot k a) (path_spot k b)
  where
    go : (u : Bool) → IsPathSpot k a (child k a) → IsPathSpot k b (child k b) →
        (i : (w : Within (if u then child k b else child k a) (fork q a b)) × IsInOwnSubtrie w ×
        ((r : Tree) → subtrie (put w r) ≡ (if u then Fork q (subtrie a) (with_subtrie k (subtrie r) (subtrie b)) else Fork q (with_subtrie k (subtrie r) (subtrie a)) (subtrie b))) ×
        ((p : ℕ) → IsTip (if ltb q p then (if u then affected p k b else affected p k a) else fork q a b) → IsPathBelow p w)) ×
        ((p : ℕ) → IsPathBelow p i.0 → IsAbovePath p (if u then size (subtrie a) + spot k (subtrie b) else spot k (subtrie a)) (Fork q (subtrie a) (subtrie b)))
    go true x ((w, flat, subtries, path), above) = (
      (one_side w, flat, λ r. ap (Fork q (subtrie a)) (subtries r), λ p i. let z = tip_down p q (affected p k b) a b (ltb q p) refl i in (z.0, path p z.1)),
      λ p i. path_high p q (subtrie a) (subtrie b) (spot k (subtrie b)) i.0 (above p i.1),
    )
    go false ((w, flat, subtries, path), above) y = (
      (zero_side w, flat, λ r. ap (λ z. Fork q z (subtrie b)) (subtries r), λ p i. let z = tip_down p q (affected p k a) a b (ltb q p) refl i in (z.0, path p z.1)),
      λ p i. path_low p q (subtrie a) (subtrie b) (spot k (subtrie a)) (spot_below k (subtrie a)) i.0 (above p i.1),
    )

pub subtrie_spot : (k : Key) (b : Tree) → IsSpot k b (child k b)
subtrie_spot k b = (path_spot k b).0
