-- Two nodes that stand beside each other: on the sides of the last fork on a key's way.
use Rattle.version_laws.proofs.Common.{◌≡◌, ◌<◌, ◌+◌, ◌-◌, inl, inr, ℕ, Bool, true, false, refl, ap, sym, ◌∙◌, subst, Some, Option, if◌then◌else◌, arith, Key, bit, AgreeBelow, Entry, Node, greatest_height, Place, Fork, RisesFrom, places, Fixed, Tree, leaf, node, fork, subtrie, Has, IsLower, IsTrie, IsBuilt, Subtrie, Within, here, inside, zero_side, one_side, child, seek, put, IsInOwnSubtrie, fork_of, side_beside, spot, subtrie_collapsed, subtrie_sibling, subtrie_without, NodeWords, Heap, IsShown, IsLawfulState, Links, BareCore, view, Rec, without_spot, built_within, rises, within_trans, shown_within, lower_within, none-some}
use Rattle.node_tries.proofs.Changes.{RisesFrom-without}
use Rattle.tries.proofs.Tree.Building.{greatest-append, greatest_if_lower, greatest_without}
use Rattle.version_laws.proofs.Now.{shown_now}
use Rattle.version_laws.proofs.Standing.{entry_node}
use Rattle.version_laws.proofs.Scan.{node_of}

-- The last fork on a key's way

-- a fork of two trees, the first on the side of the bit
abbrev pub fork_on : Bool → ℕ → Tree → Tree → Tree
fork_on false p x y = fork p x y
fork_on true p x y = fork p y x

pub shows_both : (u : Bool) (p : ℕ) (x y : Tree) → subtrie (fork_on u p x y) ≡ fork_of u p (subtrie x) (subtrie y)
shows_both false p x y = refl
shows_both true p x y = refl

-- A body has this fork, which the key's way passes last: with one record in its place, what the body has at its places is closed there.
pub record HasLastFork (k : Key) (b : Tree) (u : Bool) (p : ℕ) (x y : Tree) : Type 0 where
  pub place : Within (fork_on u p x y) b
  pub own : IsInOwnSubtrie place
  pub closed : (f : Entry) (r : Tree) → subtrie r ≡ Place f → subtrie (put place r) ≡ subtrie_collapsed k f (subtrie b)

last_as : (k : Key) (b : Tree) {u w : Bool} {p q : ℕ} {x z : Tree} (y : Tree) → u ≡ w → p ≡ q → x ≡ z → HasLastFork k b u p x y → HasLastFork k b w q z y
last_as k b {u} {w} {p} {q} {x} {z} y f g h l =
    subst (λ u. HasLastFork k b u q z y) f (subst (λ p. HasLastFork k b u p z y) g (subst (λ x. HasLastFork k b u p x y) h l))

some_same : {X : Type 0} {a b : X} → Some a ≡ Some b → a ≡ b
some_same e = cc

-- The last fork on a key's way has its child on one side, and on the other what the words show there.
abbrev pub IsLastFork : Key → Tree → ℕ → Entry → Type 0
IsLastFork k b p e = (y : Tree) × (subtrie y ≡ Place e) × HasLastFork k b (bit k p) p (child k b) y

-- it is the body's first fork
last_here : (k : Key) (u : Bool) (q : ℕ) (x y : Tree) (p : ℕ) (e : Entry) → bit k q ≡ u → x ≡ child k (fork_on u q x y) → ((f : Entry) → subtrie_collapsed k f (subtrie (fork_on u q x y)) ≡ Place f) →
    ◌≡◌ {A = Option (ℕ × Subtrie)} (Some (q, subtrie y)) (Some (p, Place e)) → IsLastFork k (fork_on u q x y) p e
last_here k u q x y p e g c closed h =
    let same : ◌≡◌ {A = ℕ × Subtrie} (q, subtrie y) (p, Place e) = some_same h in
    let at : q ≡ p = ap (λ (z : ℕ × Subtrie). z.0) same in (
      y,
      ap (λ (z : ℕ × Subtrie). z.1) same,
      last_as k (fork_on u q x y) y (sym g ∙ ap (bit k) at) at c (record { place = here; own = tt; closed = λ f r z. z ∙ sym (closed f) }),
    )

last_one : (k : Key) (q : ℕ) (x y : Tree) (p : ℕ) (e : Entry) → bit k q ≡ true → side_beside q true (subtrie x) (subtrie y) (subtrie_sibling k (subtrie y)) ≡ Some (p, Place e) →
    (subtrie_sibling k (subtrie y) ≡ Some (p, Place e) → IsLastFork k y p e) → IsLastFork k (fork q x y) p e
last_one k q x (leaf n l v) p e g h rest = last_here k true q (leaf n l v) x p e g (rw g refl) (λ f. rw g refl) h
last_one k q x (node n l v) p e g h rest = last_here k true q (node n l v) x p e g (rw g refl) (λ f. rw g refl) h
last_one k q x (fork n l v) p e g h rest =
    let (z, shows, last) = rest h in (
      z,
      shows,
      last_as k (fork q x (fork n l v)) z refl refl (rw g refl) (record { place = one_side last.place; own = last.own; closed = λ f r i. rw g (ap (Fork q (subtrie x)) (last.closed f r i)) }),
    )

last_zero : (k : Key) (q : ℕ) (x y : Tree) (p : ℕ) (e : Entry) → bit k q ≡ false → side_beside q false (subtrie x) (subtrie y) (subtrie_sibling k (subtrie x)) ≡ Some (p, Place e) →
    (subtrie_sibling k (subtrie x) ≡ Some (p, Place e) → IsLastFork k x p e) → IsLastFork k (fork q x y) p e
last_zero k q (leaf n l v) y p e g h rest = last_here k false q (leaf n l v) y p e g (rw g refl) (λ f. rw g refl) h
last_zero k q (node n l v) y p e g h rest = last_here k false q (node n l v) y p e g (rw g refl) (λ f. rw g refl) h
last_zero k q (fork n l v) y p e g h rest =
    let (z, shows, last) = rest h in (
      z,
      shows,
      last_as k (fork q (fork n l v) y) z refl refl (rw g refl) (record { place = zero_side last.place; own = last.own; closed = λ f r i. rw g (ap (λ w. Fork q w (subtrie y)) (last.closed f r i)) }),
    )

pub last_fork : (k : Key) (b : Tree) (p : ℕ) (e : Entry) → subtrie_sibling k (subtrie b) ≡ Some (p, Place e) → IsLastFork k b p e
last_fork k (leaf n l v) p e h = absurd (none-some _ h)
last_fork k (node n l v) p e h = absurd (none-some _ h)
last_fork k (fork q x y) p e h = go (bit k q) refl h (last_fork k x p e) (last_fork k y p e)
  where
    go : (u : Bool) → bit k q ≡ u → side_beside q u (subtrie x) (subtrie y) (if u then subtrie_sibling k (subtrie y) else subtrie_sibling k (subtrie x)) ≡ Some (p, Place e) →
        (subtrie_sibling k (subtrie x) ≡ Some (p, Place e) → IsLastFork k x p e) → (subtrie_sibling k (subtrie y) ≡ Some (p, Place e) → IsLastFork k y p e) → IsLastFork k (fork q x y) p e
    go true g h l r = last_one k q x y p e g h r
    go false g h l r = last_zero k q x y p e g h l

-- The bodies of two nodes on the sides of a fork

pub bodies_trie : (u : Bool) (p a d : ℕ) (y z : Fixed) (b e : Tree) → IsTrie (fork_on u p (node a y b) (node d z e)) → IsTrie (fork_on u p b e)
bodies_trie false p a d y z b e i = i
bodies_trie true p a d y z b e i = i

pub bodies_built : (u : Bool) (p a d : ℕ) (y z : Fixed) (b e : Tree) → IsBuilt (fork_on u p (node a y b) (node d z e)) → IsBuilt (fork_on u p b e)
bodies_built false p a d y z b e i = (i.0.2, i.1.2)
bodies_built true p a d y z b e i = (i.0.2, i.1.2)

pub bodies_shown : (m : Heap) (u : Bool) (p a d : ℕ) (y z : Fixed) (b e : Tree) → IsShown m (fork_on u p (node a y b) (node d z e)) → IsShown m (fork_on u p b e)
bodies_shown m false p a d y z b e i = (i.0.1, i.1.1)
bodies_shown m true p a d y z b e i = (i.0.1, i.1.1)

pub bodies_linked : (u : Bool) (p a d : ℕ) (y z : Fixed) (b e : Tree) (i : Rec) → Links (fork_on u p b e) i → Links (fork_on u p (node a y b) (node d z e)) i
bodies_linked false p a d y z b e i h = elim h [ inl f ↦ inl (inr f) | inr f ↦ inr (inr f) ]
bodies_linked true p a d y z b e i h = elim h [ inl f ↦ inl (inr f) | inr f ↦ inr (inr f) ]

pub first_within : (u : Bool) (p : ℕ) (x y : Tree) → Within x (fork_on u p x y)
first_within false p x y = zero_side here
first_within true p x y = one_side here

pub second_within : (u : Bool) (p : ℕ) (x y : Tree) → Within y (fork_on u p x y)
second_within false p x y = one_side here
second_within true p x y = zero_side here

-- Both nodes stand on the sides of a fork of this body, the first on the key's way.
pub record StandBeside (k : Key) (d : Tree) (p n m : ℕ) : Type 0 where
  pub fixed : Fixed
  pub lower : Tree
  pub fixed_too : Fixed
  pub other : Tree
  pub last : HasLastFork k d (bit k p) p (node n fixed lower) (node m fixed_too other)

abbrev pub two : {k : Key} {d : Tree} {p n m : ℕ} → StandBeside k d p n m → Tree
two {k = k} {p = p} {n = n} {m = m} st = fork_on (bit k p) p (node n st.fixed st.lower) (node m st.fixed_too st.other)

pub two_within : {k : Key} {d : Tree} {p n m o : ℕ} {y : Fixed} {t : Tree} (st : StandBeside k d p n m) → Within (node o y d) t → Within (two st) t
two_within st v = within_trans st.last.place (within_trans (inside here) v)

-- So it is where the words of a node in the tree say it.
pub beside_now : (c : BareCore) (law : IsLawfulState (view c)) (t : Tree) → c.past.version c.past.now ≡ Some t → (k : Key) (o n m h p g : ℕ) → seek k (c.heap.nodes o).subtrie ≡ Node n h →
    subtrie_sibling k (c.heap.nodes o).subtrie ≡ Some (p, Place (Node m g)) → (y : Fixed) (d : Tree) → Within (node o y d) t → StandBeside k d p n m
beside_now c law t now k o n m h p g entry sibling y d v =
    let words : (c.heap.nodes o).subtrie ≡ subtrie d = ap (λ (w : NodeWords). w.subtrie) (shown_within c.heap v (shown_now c law t now)).0 in
    let (x, s, is, there) = entry_node c law t now v k n h entry in
    let (u, pg, last) = last_fork k d p (Node m g) (ap (subtrie_sibling k) (sym words) ∙ sibling) in
    let (z, r, same, high) = node_of m g u pg in
    record {
      fixed = x;
      lower = s;
      fixed_too = z;
      other = r;
      last = subst (λ u. HasLastFork k d (bit k p) p (node n x s) u) same (subst (λ s. HasLastFork k d (bit k p) p s u) is last);
    }

-- The forks of both bodies are after theirs.

rises_after : (u : Bool) (p : ℕ) (t : Tree) → IsTrie t → ((k l : Key) → Has t k → Has t l → AgreeBelow p k l) → ((k : Key) → Has t k → bit k p ≡ u) → RisesFrom (p + 1) (subtrie t)
rises_after u p (leaf n l v) i same side = tt
rises_after u p (node n x b) i same side = tt
rises_after u p (fork q x y) i same side =
    let less : p < q = rises {c = x} {d = y} u here i same side in (
      omega arith,
      rises_after false q x i.0 (λ k l f g. i.2 k l (inl f) (inl g)) i.3,
      rises_after true q y i.1 (λ k l f g. i.2 k l (inr f) (inr g)) i.4,
    )

bodies_rise : (u : Bool) (p : ℕ) (x y : Tree) → IsTrie (fork_on u p x y) → RisesFrom (p + 1) (subtrie x) × RisesFrom (p + 1) (subtrie y)
bodies_rise false p x y i = (rises_after false p x i.0 (λ k l f g. i.2 k l (inl f) (inl g)) i.3, rises_after true p y i.1 (λ k l f g. i.2 k l (inr f) (inr g)) i.4)
bodies_rise true p x y i = (rises_after true p x i.1 (λ k l f g. i.2 k l (inr f) (inr g)) i.4, rises_after false p y i.0 (λ k l f g. i.2 k l (inl f) (inl g)) i.3)

fork_rises : (u : Bool) (p : ℕ) (x y : Subtrie) → RisesFrom (p + 1) x → RisesFrom (p + 1) y → RisesFrom 0 (fork_of u p x y)
fork_rises false p x y i j = (omega arith, i, j)
fork_rises true p x y i j = (omega arith, j, i)

-- What is left of one and all of the other can stand below one fork.
pub both_rise : {k : Key} {d : Tree} {p n m : ℕ} (st : StandBeside k d p n m) → IsTrie (two st) → RisesFrom 0 (fork_of (bit k p) p (subtrie_without k (subtrie st.lower)) (subtrie st.other))
both_rise {k} {d} {p} {n} {m} st i =
    let (x, y) = bodies_rise (bit k p) p st.lower st.other (bodies_trie (bit k p) p n m st.fixed st.fixed_too st.lower st.other i) in
    fork_rises (bit k p) p (subtrie_without k (subtrie st.lower)) (subtrie st.other)
    (subst (RisesFrom (p + 1)) (without_spot k (subtrie st.lower)) (RisesFrom-without (p + 1) (spot k (subtrie st.lower)) (subtrie st.lower) x)) y

-- Heights

fork_low : (u : Bool) (p h : ℕ) (x y : Subtrie) → greatest_height (places x) < h → greatest_height (places y) < h → greatest_height (places (fork_of u p x y)) < h
fork_low false p h x y i j = omega (arith, greatest-append (places x) (places y))
fork_low true p h x y i j = omega (arith, greatest-append (places y) (places x))

-- The entries of both are lower by two than the node above.
pub both_low : {k : Key} {d : Tree} {p n m : ℕ} (st : StandBeside k d p n m) (h : ℕ) → IsLower h d → IsBuilt d → greatest_height (places (fork_of (bit k p) p (subtrie_without k (subtrie st.lower)) (subtrie st.other))) + 1 < h
both_low {k} {d} {p} {n} {m} st h low built =
    let w = within_trans (first_within (bit k p) p (node n st.fixed st.lower) (node m st.fixed_too st.other)) st.last.place in
    let v = within_trans (second_within (bit k p) p (node n st.fixed st.lower) (node m st.fixed_too st.other)) st.last.place in
    let first : st.fixed.height < h = lower_within h w low built in
    let second : st.fixed_too.height < h = lower_within h v low built in
    let x = greatest_if_lower st.fixed.height st.lower (built_within w built).1 in
    let y = greatest_if_lower st.fixed_too.height st.other (built_within v built).1 in
    let top : 0 < h = omega arith in
    let less = fork_low (bit k p) p (h - 1) (subtrie_without k (subtrie st.lower)) (subtrie st.other) (omega (arith, greatest_without k (subtrie st.lower), x, first)) (omega (arith, y, second)) in
    omega (arith, less, top)

-- The records are different ones.
