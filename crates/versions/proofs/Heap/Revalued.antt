-- A tree with another value in one leaf; and what names a leaf.
use Rattle.versions.proofs.Common.{◌≡◌, ◌≢◌, ◌⊎◌, inl, inr, ℕ, true, false, if◌then◌else◌, nat_eq, eqb, refl, ap, ap₂, sym, ◌∙◌, subst, Option, Some, cases_Bool, eqb-true, eq-eqb, false≢true, cond-false, Key, Fixed, Tree, leaf, node, fork, subtrie, Has, IsTrie, IsFork, IsLower, IsBuilt, IsFit, Within, here, inside, zero_side, one_side, Item, item, items, IsExchange, exchanged, put_exchange, Fork, Rec, a_node, a_leaf}
use Rattle.versions.specs.Heap.{NodeWords, LeafWords, Heap, IsShown}
use Rattle.versions.specs.State.{Links}
use Rattle.versions.proofs.Heap.{leaf_number}
use Rattle.versions.proofs.Heap.Stored.{not_beside}

-- The tree in which leaf `l` has the value `w`.
abbrev pub revalued : ℕ → ℕ → Tree → Tree
revalued l w (leaf n k v) = leaf n k (if nat_eq n l then w else v)
revalued l w (node n x b) = node n x (revalued l w b)
revalued l w (fork p a b) = fork p (revalued l w a) (revalued l w b)

-- All but the value is as it was.
pub subtrie_revalued : (l w : ℕ) (t : Tree) → subtrie (revalued l w t) ≡ subtrie t
subtrie_revalued l w (leaf n k v) = refl
subtrie_revalued l w (node n x b) = refl
subtrie_revalued l w (fork p a b) = ap₂ (Fork p) (subtrie_revalued l w a) (subtrie_revalued l w b)

has_before : (l w : ℕ) (t : Tree) (k : Key) → Has (revalued l w t) k → Has t k
has_before l w (leaf n k v) y h = h
has_before l w (node n x b) y h = has_before l w b y h
has_before l w (fork p a b) y (inl h) = inl (has_before l w a y h)
has_before l w (fork p a b) y (inr h) = inr (has_before l w b y h)

pub trie_revalued : (l w : ℕ) (t : Tree) → IsTrie t → IsTrie (revalued l w t)
trie_revalued l w (leaf n k v) i = i
trie_revalued l w (node n x b) i = trie_revalued l w b i
trie_revalued l w (fork p a b) i = (
  trie_revalued l w a i.0,
  trie_revalued l w b i.1,
  λ k o f g. i.2 k o (side k f) (side o g),
  λ k h. i.3 k (has_before l w a k h),
  λ k h. i.4 k (has_before l w b k h),
)
  where
    side : (k : Key) → Has (revalued l w a) k ⊎ Has (revalued l w b) k → Has a k ⊎ Has b k
    side k (inl h) = inl (has_before l w a k h)
    side k (inr h) = inr (has_before l w b k h)

fork_revalued : (l w : ℕ) (t : Tree) → IsFork t → IsFork (revalued l w t)
fork_revalued l w (leaf n k v) i = elim i [ ]
fork_revalued l w (node n x b) i = elim i [ ]
fork_revalued l w (fork p a b) i = tt

lower_revalued : (l w h : ℕ) (t : Tree) → IsLower h t → IsLower h (revalued l w t)
lower_revalued l w h (leaf n k v) i = i
lower_revalued l w h (node n x b) i = i
lower_revalued l w h (fork p a b) i = (lower_revalued l w h a i.0, lower_revalued l w h b i.1)

pub built_revalued : (l w : ℕ) (t : Tree) → IsBuilt t → IsBuilt (revalued l w t)
built_revalued l w (leaf n k v) i = i
built_revalued l w (node n x b) i =
    (fork_revalued l w b i.0, lower_revalued l w x.height b i.1, built_revalued l w b i.2, subst (IsFit x) (sym (subtrie_revalued l w b)) i.3)
built_revalued l w (fork p a b) i = (built_revalued l w a i.0, built_revalued l w b i.1)

-- The same records are linked.
pub links_before : (l w : ℕ) (t : Tree) (r : Rec) → Links (revalued l w t) r → Links t r
links_before l w (leaf n k v) r h = h
links_before l w (node n x b) r (inl h) = inl h
links_before l w (node n x b) r (inr h) = inr (links_before l w b r h)
links_before l w (fork p a b) r (inl h) = inl (links_before l w a r h)
links_before l w (fork p a b) r (inr h) = inr (links_before l w b r h)

pub links_revalued : (l w : ℕ) (t : Tree) (r : Rec) → Links t r → Links (revalued l w t) r
links_revalued l w (leaf n k v) r h = h
links_revalued l w (node n x b) r (inl h) = inl h
links_revalued l w (node n x b) r (inr h) = inr (links_revalued l w b r h)
links_revalued l w (fork p a b) r (inl h) = inl (links_revalued l w a r h)
links_revalued l w (fork p a b) r (inr h) = inr (links_revalued l w b r h)

-- After the store of the value the words show this tree.
pub record IsValueStored (m o : Heap) (l w : ℕ) : Type 0 where
  pub nodes : (n : ℕ) → o.nodes n ≡ m.nodes n
  pub leaves : (n : ℕ) → n ≢ l → o.leaves n ≡ m.leaves n
  pub stored : o.leaves l ≡ record { key = (m.leaves l).key; value = w }

pub shown_revalued : (m o : Heap) (l w : ℕ) (t : Tree) → IsValueStored m o l w → IsShown m t → IsShown o (revalued l w t)
shown_revalued m o l w (leaf n k v) s i = go (cases_Bool (eqb n l))
  where
    go : ((eqb n l ≡ true) ⊎ (eqb n l ≡ false)) → o.leaves n ≡ record { key = k; value = if nat_eq n l then w else v }
    go (inl e) =
        let same : n ≡ l = eqb-true n l e in
        rw e (ap o.leaves same ∙ (s.stored ∙ ap (λ z. let y : LeafWords = record { key = z; value = w } in y) (ap (λ z. (m.leaves z).key) (sym same) ∙ ap (λ (z : LeafWords). z.key) i)))
    go (inr e) = rw e (s.leaves n (λ z. false≢true (sym e ∙ eq-eqb n l z)) ∙ i)
shown_revalued m o l w (node n x b) s i =
    (s.nodes n ∙ (i.0 ∙ ap (λ z. let y : NodeWords = record { fixed = x; subtrie = z } in y) (sym (subtrie_revalued l w b))), shown_revalued m o l w b s i.1)
shown_revalued m o l w (fork p a b) s i = (shown_revalued m o l w a s i.0, shown_revalued m o l w b s i.1)

-- A tree without the leaf is as it was.
revalued_without : (l w : ℕ) (t : Tree) → (Links t (a_leaf l) → ⊥) → revalued l w t ≡ t
revalued_without l w (leaf n k v) h = ap (leaf n k) (cond-false (eqb n l) w v (go (cases_Bool (eqb n l))))
  where
    go : ((eqb n l ≡ true) ⊎ (eqb n l ≡ false)) → eqb n l ≡ false
    go (inl e) = absurd (h (ap a_leaf (sym (eqb-true n l e))))
    go (inr e) = e
revalued_without l w (node n x b) h = ap (node n x) (revalued_without l w b (λ z. h (inr z)))
revalued_without l w (fork p a b) h = ap₂ (fork p) (revalued_without l w a (λ z. h (inl z))) (revalued_without l w b (λ z. h (inr z)))

-- Of the leaves that one is exchanged for itself with the value.
pub exchange_revalued : (m : Heap) (l w : ℕ) (t : Tree) → IsTrie t → IsShown m t → Links t (a_leaf l) →
    IsExchange (item l (m.leaves l).key (m.leaves l).value) (item l (m.leaves l).key w) (items t) (items (revalued l w t))
exchange_revalued m l w (leaf n k v) i s h =
    let e : l ≡ n = leaf_number h in
    let words : m.leaves l ≡ record { key = k; value = v } = ap m.leaves e ∙ s in
    rw (words, e, eq-eqb n n refl) exchanged
exchange_revalued m l w (node n x b) i s h = exchange_revalued m l w b i s.1 (elim h [ inl e ↦ absurd (let z : a_leaf l ≡ a_node n = e in cc) | inr y ↦ y ])
exchange_revalued m l w (fork p a b) i s h = go (exchange_revalued m l w a i.0 s.0) (exchange_revalued m l w b i.1 s.1) h
  where
    old : Item
    old = item l (m.leaves l).key (m.leaves l).value

    new : Item
    new = item l (m.leaves l).key w

    go : (Links a (a_leaf l) → IsExchange old new (items a) (items (revalued l w a))) → (Links b (a_leaf l) → IsExchange old new (items b) (items (revalued l w b))) →
        Links a (a_leaf l) ⊎ Links b (a_leaf l) → IsExchange old new (items (fork p a b)) (items (revalued l w (fork p a b)))
    go f g (inl y) =
        subst (λ z. IsExchange old new (items (fork p a b)) (items (fork p (revalued l w a) z))) (sym (revalued_without l w b (not_beside m p (a_leaf l) a b i s y)))
        (put_exchange {s = a} (zero_side {p = p} {a = a} {b = b} here) (revalued l w a) old new (f y))
    go f g (inr y) =
        subst (λ z. IsExchange old new (items (fork p a b)) (items (fork p z (revalued l w b)))) (sym (revalued_without l w a (λ z. not_beside m p (a_leaf l) a b i s z y)))
        (put_exchange {s = b} (one_side {p = p} {a = a} {b = b} here) (revalued l w b) old new (g y))

-- What names leaf `l` in a tree, below what is named `o`: the node `Some n`, or `None` for the root's word.
abbrev pub IsNamer : Option ℕ → Tree → Option ℕ → ℕ → Type 0
IsNamer o (leaf n k v) by l = (l ≡ n) × (by ≡ o)
IsNamer o (node n x b) by l = IsNamer (Some n) b by l
IsNamer o (fork p a b) by l = IsNamer o a by l ⊎ IsNamer o b by l

pub namer_links : (o : Option ℕ) (t : Tree) (by : Option ℕ) (l : ℕ) → IsNamer o t by l → Links t (a_leaf l)
namer_links o (leaf n k v) by l h = ap a_leaf h.0
namer_links o (node n x b) by l h = inr (namer_links (Some n) b by l h)
namer_links o (fork p a b) by l (inl h) = inl (namer_links o a by l h)
namer_links o (fork p a b) by l (inr h) = inr (namer_links o b by l h)

-- One thing alone does.
pub one_namer : (m : Heap) (o : Option ℕ) (t : Tree) → IsTrie t → IsShown m t → (by of : Option ℕ) (l : ℕ) → IsNamer o t by l → IsNamer o t of l → by ≡ of
one_namer m o (leaf n k v) i s by of l f g = f.1 ∙ sym g.1
one_namer m o (node n x b) i s by of l f g = one_namer m (Some n) b i s.1 by of l f g
one_namer m o (fork p a b) i s by of l (inl f) (inl g) = one_namer m o a i.0 s.0 by of l f g
one_namer m o (fork p a b) i s by of l (inr f) (inr g) = one_namer m o b i.1 s.1 by of l f g
one_namer m o (fork p a b) i s by of l (inl f) (inr g) = absurd (not_beside m p (a_leaf l) a b i s (namer_links o a by l f) (namer_links o b of l g))
one_namer m o (fork p a b) i s by of l (inr f) (inl g) = absurd (not_beside m p (a_leaf l) a b i s (namer_links o a of l g) (namer_links o b by l f))

-- What a node of the tree names it names in the whole tree.
pub namer_within : {n : ℕ} {x : Fixed} {b t : Tree} (o : Option ℕ) → Within (node n x b) t → (by : Option ℕ) (l : ℕ) → IsNamer (Some n) b by l → IsNamer o t by l
namer_within o here by l h = h
namer_within o (inside {n = m} w) by l h = namer_within (Some m) w by l h
namer_within o (zero_side w) by l h = inl (namer_within o w by l h)
namer_within o (one_side w) by l h = inr (namer_within o w by l h)
