-- Laws of the tree of one version.
pub mod Building
pub mod Fitting
use Rattle.tries.proofs.Common.{◌≡◌, ◌⊎◌, inl, inr, ℕ, ◌+◌, ◌<◌, ◌≤◌, Bool, true, false, if◌then◌else◌, refl, ap, sym, ◌∙◌, subst, arith, ◌-◌, ltb, ap₂, false≢true, cases_order, cond-true, cond-false, lt-ltb, le-ltb, Place, Fork, size}
use Rattle.tries.specs.Keys.{Key, bit, AgreeBelow, IsParted}
use Rattle.tries.specs.Tree.{Subtrie, Tree, leaf, node, fork, subtrie, Has, IsTrie, IsFork, IsBuilt, Within, here, inside, zero_side, one_side}
use Rattle.tries.specs.Search.{Follows, child, seek, Kin, tips, forks, between, IsUnder}
use mathlib.Core.List.{List-discrete}
use Rattle.std.proofs.Math.Decide.{ℕ_discrete}
use Rattle.tries.specs.Content.{first}

pub has_first : (t : Tree) → Has t (first t)
has_first (leaf n k v) = refl
has_first (node n h b) = has_first b
has_first (fork p a b) = inl (has_first a)

pub same_key : (k l : Key) → Dec (k ≡ l)
same_key = List-discrete ℕ_discrete

pub has? : (t : Tree) (k : Key) → Dec (Has t k)
has? (leaf n l v) k = same_key k l
has? (node n h b) k = has? b k
has? (fork p a b) k = both (has? a k) (has? b k)
  where
    both : Dec (Has a k) → Dec (Has b k) → Dec (Has a k ⊎ Has b k)
    both (yes x) d = yes (inl x)
    both (no x) (yes y) = yes (inr y)
    both (no x) (no y) = no (λ h. elim h [ inl u ↦ x u | inr u ↦ y u ])

pub has_within : {s t : Tree} → Within s t → (k : Key) → Has s k → Has t k
has_within here k h = h
has_within (inside w) k h = has_within w k h
has_within (zero_side w) k h = inl (has_within w k h)
has_within (one_side w) k h = inr (has_within w k h)

pub within_trans : {r s t : Tree} → Within r s → Within s t → Within r t
within_trans u here = u
within_trans u (inside w) = inside (within_trans u w)
within_trans u (zero_side w) = zero_side (within_trans u w)
within_trans u (one_side w) = one_side (within_trans u w)

pub trie_within : {s t : Tree} → Within s t → IsTrie t → IsTrie s
trie_within here l = l
trie_within (inside w) l = trie_within w l
trie_within (zero_side w) l = trie_within w l.0
trie_within (one_side w) l = trie_within w l.1

pub built_within : {s t : Tree} → Within s t → IsBuilt t → IsBuilt s
built_within here l = l
built_within (inside w) l = built_within w l.2
built_within (zero_side w) l = built_within w l.0
built_within (one_side w) l = built_within w l.1

-- Positions rise along each path.
pub rises : {p q : ℕ} {c d t : Tree} (u : Bool) → Within (fork q c d) t → IsTrie t →
    ((k l : Key) → Has t k → Has t l → AgreeBelow p k l) → ((k : Key) → Has t k → bit k p ≡ u) → p < q
rises {p} {q} {c} {d} {t} u w l same side = go (cases_order p q)
  where
    x : Key
    x = first c

    y : Key
    y = first d

    in_x : Has t x
    in_x = has_within w x (inl (has_first c))

    in_y : Has t y
    in_y = has_within w y (inr (has_first d))

    at_x : bit x q ≡ false
    at_x = (trie_within w l).3 x (has_first c)

    at_y : bit y q ≡ true
    at_y = (trie_within w l).4 y (has_first d)

    go : (p ≡ q) ⊎ ((p < q) ⊎ (q < p)) → p < q
    go (inl e) = absurd (false≢true (sym at_x ∙ (ap (bit x) (sym e) ∙ (side x in_x ∙ (sym (side y in_y) ∙ (ap (bit y) e ∙ at_y))))))
    go (inr (inl h)) = h
    go (inr (inr h)) = absurd (false≢true (sym at_x ∙ (same x y in_x in_y q h ∙ at_y)))

-- A key that follows a tree's stem takes the side on which that tree stands.
takes_side : {p : ℕ} {t : Tree} (u : Bool) (s : Tree) → Within s t → IsTrie t →
    ((k l : Key) → Has t k → Has t l → AgreeBelow p k l) → ((k : Key) → Has t k → bit k p ≡ u) →
    (k : Key) → Follows k s → bit k p ≡ u
takes_side {p} {t} u (leaf n l v) w i same side k f = rw f (side l (has_within w l refl))
takes_side u (node n h b) w i same side k f = takes_side u b (within_trans (inside here) w) i same side k f
takes_side {p} u (fork q c d) w i same side k f =
    f (first c) (inl (has_first c)) p (rises u w i same side) ∙ side (first c) (has_within w (first c) (inl (has_first c)))

-- A key that follows the stem of a tree within a bit trie, and is in that trie, is in the tree.
pub has_if_follows : {s t : Tree} → Within s t → IsTrie t → (k : Key) → Follows k s → Has t k → Has s k
has_if_follows here l k f h = h
has_if_follows (inside w) l k f h = has_if_follows w l k f h
has_if_follows {s} (zero_side {p = p} {a = a} {b = b} w) l k f (inl h) = has_if_follows w l.0 k f h
has_if_follows {s} (zero_side {p = p} {a = a} {b = b} w) l k f (inr h) =
    absurd (false≢true (sym (takes_side false s w l.0 (λ x y hx hy. l.2 x y (inl hx) (inl hy)) l.3 k f) ∙ l.4 k h))
has_if_follows {s} (one_side {p = p} {a = a} {b = b} w) l k f (inr h) = has_if_follows w l.1 k f h
has_if_follows {s} (one_side {p = p} {a = a} {b = b} w) l k f (inl h) =
    absurd (false≢true (sym (l.3 k h) ∙ takes_side true s w l.1 (λ x y hx hy. l.2 x y (inr hx) (inr hy)) l.4 k f))

-- A key of a bit trie follows its stem.
pub follows_if_has : (t : Tree) → IsTrie t → (k : Key) → Has t k → Follows k t
follows_if_has (leaf n l v) i k h = h
follows_if_has (node n h b) i k x = follows_if_has b i k x
follows_if_has (fork p a b) i k h = λ l x. i.2 k l h x

-- The search of a key that a body has leads to an entry that has it.
pub has_child : (t : Tree) → IsTrie t → (k : Key) → Has t k → Has (child k t) k
has_child (leaf n l v) i k h = h
has_child (node n h b) i k x = x
has_child (fork p a b) i k (inl h) = rw (i.3 k h) (has_child a i.0 k h)
has_child (fork p a b) i k (inr h) = rw (i.4 k h) (has_child b i.1 k h)

pub within_child : (k : Key) (t : Tree) → Within (child k t) t
within_child k (leaf n l v) = here
within_child k (node n h b) = here
within_child k (fork p a b) =
    elim (bit k p) as (λ u. Within (if u then child k b else child k a) (fork p a b)) [ true ↦ one_side (within_child k b) | false ↦ zero_side (within_child k a) ]

-- The search in what a node shows finds the entry of the child.
pub subtrie_child : (k : Key) (t : Tree) → subtrie (child k t) ≡ Place (seek k (subtrie t))
subtrie_child k (leaf n l v) = refl
subtrie_child k (node n h b) = refl
subtrie_child k (fork p a b) =
    elim (bit k p) as (λ u. subtrie (if u then child k b else child k a) ≡ Place (if u then seek k (subtrie b) else seek k (subtrie a))) [ true ↦ subtrie_child k b | false ↦ subtrie_child k a ]

-- One step down: the key follows the child's stem, or the whole trie lacks it.
pub descend : {s t : Tree} → Within s t → IsTrie t → (k : Key) → Follows k s → Follows k (child k s) ⊎ ¬ (Has t k)
descend {s} {t} w i k f = go (has? t k)
  where
    go : Dec (Has t k) → Follows k (child k s) ⊎ ¬ (Has t k)
    go (no x) = inr x
    go (yes x) = inl (follows_if_has (child k s) (trie_within (within_child k s) (trie_within w i)) k
        (has_child s (trie_within w i) k (has_if_follows w i k f x)))

-- What `Kin` says carries the keys that follow a body's stem.
pub follows_kin : {s t : Tree} → Kin s t → IsFork s → (k : Key) → Follows k s → Follows k t
follows_kin (tips {a = fork p a b} x y) i k f = elim x [ ]
follows_kin (tips {a = leaf n l v} x y) i k f = elim i [ ]
follows_kin (tips {a = node n h b} x y) i k f = elim i [ ]
follows_kin (forks {a = a} e x y) i k f = λ l h r z. f (first a) (inl (has_first a)) r z ∙ e (first a) l (inl (has_first a)) h r z

pub kin_trans : {a b c : Tree} → Kin a b → Kin b c → Kin a c
kin_trans (tips x y) (tips z w) = tips x w
kin_trans (tips x y) (forks e z w) = elim y [ ]
kin_trans (forks e z w) (tips x y) = elim x [ ]
kin_trans (forks e x y) (forks {a = c} f z w) =
    forks (λ k l hk hl q b. e k (first c) hk (inl (has_first c)) q b ∙ f (first c) l (inl (has_first c)) hl q b) (kin_trans x z) (kin_trans y w)

pub kin_sym : {a b : Tree} → Kin a b → Kin b a
kin_sym (tips x y) = tips y x
kin_sym (forks e x y) = forks (λ k l hk hl q b. sym (e l k hl hk q b)) (kin_sym x) (kin_sym y)

pub kin_tips : {a b : Tree} → Kin a b → size (subtrie a) ≡ size (subtrie b)
kin_tips (tips {a = leaf n k v} {b = leaf m l w} x y) = refl
kin_tips (tips {a = leaf n k v} {b = node m l w} x y) = refl
kin_tips (tips {a = node n k v} {b = leaf m l w} x y) = refl
kin_tips (tips {a = node n k v} {b = node m l w} x y) = refl
kin_tips (tips {a = fork n k v} {b = t} x y) = elim x [ ]
kin_tips (tips {a = leaf n k v} {b = fork m l w} x y) = elim y [ ]
kin_tips (tips {a = node n k v} {b = fork m l w} x y) = elim y [ ]
kin_tips (forks {a = a} {b = b} {c = c} {d = d} e x y) =
    let p : size (subtrie a) ≡ size (subtrie c) = kin_tips x in
    let q : size (subtrie b) ≡ size (subtrie d) = kin_tips y in cc

pub has_under : (t : Tree) (i : ℕ) (k : Key) → IsUnder t i k → Has t k
has_under (leaf n l v) i k u = u.1
has_under (node n h b) i k u = u.1
has_under (fork p a b) i k (inl u) = inl (has_under a i k u)
has_under (fork p a b) i k (inr (j, e, u)) = inr (has_under b j k u)

pub under_below : (t : Tree) (i : ℕ) (k : Key) → IsUnder t i k → i < size (subtrie t)
under_below (leaf n l v) i k u = let e : i ≡ 0 = u.0 in omega arith
under_below (node n h b) i k u = let e : i ≡ 0 = u.0 in omega arith
under_below (fork p a b) i k (inl u) = let h = under_below a i k u in omega arith
under_below (fork p a b) i k (inr (j, e, u)) = let h = under_below b j k u in omega arith

pub between_low : (p : ℕ) (x y : Subtrie) (i j : ℕ) → j < size x → between x i j ≡ between (Fork p x y) i j
between_low p x y i j h = sym (cond-true (ltb j (size x)) _ _ (lt-ltb j (size x) h))

pub between_mid : (p : ℕ) (x y : Subtrie) (i j : ℕ) → i < size x → size x ≤ j → p ≡ between (Fork p x y) i j
between_mid p x y i j h g =
    sym (cond-false (ltb j (size x)) _ _ (le-ltb j (size x) g) ∙ cond-true (ltb i (size x)) _ _ (lt-ltb i (size x) h))

pub between_high : (p : ℕ) (x y : Subtrie) (i j z w : ℕ) → i ≡ size x + z → j ≡ size x + w → between y z w ≡ between (Fork p x y) i j
between_high p x y i j z w e f =
    let c : i - size x ≡ z = omega arith in
    let d : j - size x ≡ w = omega arith in
    sym (cond-false (ltb j (size x)) _ _ (le-ltb j (size x) (omega arith)) ∙
    (cond-false (ltb i (size x)) _ _ (le-ltb i (size x) (omega arith)) ∙ ap₂ (between y) c d))

-- Keys below two entries of a record part at the fork between them, whichever versions of its life they come from.
pub parting : {b c : Tree} → Kin b c → IsTrie b → IsTrie c → (i j : ℕ) → i < j → (k l : Key) → IsUnder b i k → IsUnder c j l →
    IsParted (between (subtrie b) i j) k l
parting (tips {a = fork p b d} {b = c} x y) r s i j h k l u v = elim x [ ]
parting (tips {a = b} {b = fork p a d} x y) r s i j h k l u v = elim y [ ]
parting (tips {a = b} {b = leaf n g w} x y) r s i j h k l u v = let e : j ≡ 0 = v.0 in absurd (omega arith)
parting (tips {a = b} {b = node n g w} x y) r s i j h k l u v = let e : j ≡ 0 = v.0 in absurd (omega arith)
parting (forks {p = p} {a = a} {b = b} {c = c} {d = d} e x y) r s i j h k l (inl u) (inl v) =
    subst (λ z. IsParted z k l) (between_low p (subtrie a) (subtrie b) i j (rw (kin_tips x) (under_below c j l v)))
    (parting x r.0 s.0 i j h k l u v)
parting (forks {p = p} {a = a} {b = b} {c = c} {d = d} e x y) r s i j h k l (inl u) (inr (w, q, v)) =
    let t : size (subtrie a) ≡ size (subtrie c) = kin_tips x in
    subst (λ z. IsParted z k l) (between_mid p (subtrie a) (subtrie b) i j (under_below a i k u) (omega arith))
    (e k l (inl (has_under a i k u)) (inr (has_under d w l v)), r.3 k (has_under a i k u), s.4 l (has_under d w l v))
parting (forks {p = p} {a = a} {b = b} {c = c} {d = d} e x y) r s i j h k l (inr (z, o, u)) (inl v) =
    let t : size (subtrie a) ≡ size (subtrie c) = kin_tips x in
    let g = under_below c j l v in absurd (omega arith)
parting (forks {p = p} {a = a} {b = b} {c = c} {d = d} e x y) r s i j h k l (inr (z, o, u)) (inr (w, q, v)) =
    let t : size (subtrie a) ≡ size (subtrie c) = kin_tips x in
    subst (λ v. IsParted v k l) (between_high p (subtrie a) (subtrie b) i j z w o (omega arith))
    (parting y r.1 s.1 z w (omega arith) k l u v)
