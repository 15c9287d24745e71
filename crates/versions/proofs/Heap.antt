-- Laws of the words and the trees that they show.
pub mod Revalued
pub mod Stored
use Rattle.versions.proofs.Common.{◌≡◌, ◌⊎◌, inl, inr, ℕ, ◌<◌, refl, ap, sym, ◌∙◌, subst, Key, Leaf, Node, Subtrie, Tree, leaf, node, fork, subtrie, Has, IsTrie, IsBuilt, Within, here, inside, zero_side, one_side, Place, Fork, Kin, tips, forks, has_within, Swap, in_zero, in_one, a_node, a_leaf}
use Rattle.versions.specs.Heap.{NodeWords, LeafWords, Heap, IsCopied, IsShown, KeepsAllButOneEntry}

pub node_number : {n o : ℕ} → a_node n ≡ a_node o → n ≡ o
node_number e = cc

pub leaf_number : {n o : ℕ} → a_leaf n ≡ a_leaf o → n ≡ o
leaf_number e = cc

pub node_leaf : {n o : ℕ} → a_node n ≡ a_leaf o → ⊥
node_leaf e = cc

pub leaf_node : {n o : ℕ} → a_leaf n ≡ a_node o → ⊥
leaf_node e = cc

pub shown_within : (m : Heap) {s t : Tree} → Within s t → IsShown m t → IsShown m s
shown_within m here i = i
shown_within m (inside w) i = shown_within m w i.1
shown_within m (zero_side w) i = shown_within m w i.0
shown_within m (one_side w) i = shown_within m w i.1

pub copied_if_shown : (m : Heap) (s : Tree) → IsShown m s → IsCopied m s
copied_if_shown m (leaf n k v) h = h
copied_if_shown m (node n h b) x = x.0
copied_if_shown m (fork p a b) h = tt

pub leaf_parts : {n o : ℕ} → Place (Leaf n) ≡ Place (Leaf o) → n ≡ o
leaf_parts e = cc

pub node_parts : {n o h g : ℕ} → Place (Node n h) ≡ Place (Node o g) → (n ≡ o) × (h ≡ g)
node_parts e = (cc, cc)

part_parts : {p q : ℕ} {a b c d : Subtrie} → Fork p a b ≡ Fork q c d → (p ≡ q) × (a ≡ c) × (b ≡ d)
part_parts e = (cc, cc, cc)

same_leaf : (m : Heap) {n o : ℕ} {x y : LeafWords} → n ≡ o → m.leaves n ≡ x → m.leaves o ≡ y → x ≡ y
same_leaf m e i j = sym i ∙ (ap m.leaves e ∙ j)

same_node : (m : Heap) {n o : ℕ} {x y : NodeWords} → n ≡ o → m.nodes n ≡ x → m.nodes o ≡ y → x ≡ y
same_node m e i j = sym i ∙ (ap m.nodes e ∙ j)

-- What the words show is determined by the entry.
pub determined : (m : Heap) (s t : Tree) → IsShown m s → IsShown m t → subtrie s ≡ subtrie t → s ≡ t
determined m (leaf n k v) (leaf o l w) i j e =
    let r = same_leaf m (leaf_parts e) i j in
    let x : n ≡ o = leaf_parts e in
    let y : k ≡ l = ap (λ (z : LeafWords). z.key) r in
    let z : v ≡ w = ap (λ (z : LeafWords). z.value) r in cc
determined m (leaf n k v) (node o l w) i j e = cc
determined m (leaf n k v) (fork o l w) i j e = cc
determined m (node n h b) (leaf o l w) i j e = cc
determined m (node n h b) (node o g c) i j e =
    let x : n ≡ o = (node_parts e).0 in
    let r = same_node m x i.0 j.0 in
    let z : h ≡ g = ap (λ (z : NodeWords). z.fixed) r in
    let y : b ≡ c = determined m b c i.1 j.1 (ap (λ (z : NodeWords). z.subtrie) r) in cc
determined m (node n h b) (fork o g c) i j e = cc
determined m (fork p a b) (leaf q c d) i j e = cc
determined m (fork p a b) (node q c d) i j e = cc
determined m (fork p a b) (fork q c d) i j e =
    let x : (p ≡ q) × (subtrie a ≡ subtrie c) × (subtrie b ≡ subtrie d) = part_parts e in
    let y : a ≡ c = determined m a c i.0 j.0 x.1 in
    let z : b ≡ d = determined m b d i.1 j.1 x.2 in cc

-- A key that both trees have.
abbrev pub IsCommon : Tree → Tree → Type 0
IsCommon s t = (k : Key) × Has s k × Has t k

-- Of two sides at least one keeps its subtrie.
kept_side : (p : ℕ) (x y : Subtrie) (c : Tree) → (Fork p x y ≡ subtrie c) ⊎ Swap (Fork p x y) (subtrie c) →
    (d : Tree) × Within d c × ((x ≡ subtrie d) ⊎ (y ≡ subtrie d))
kept_side p x y (leaf n k v) (inl e) = absurd cc
kept_side p x y (leaf n k v) (inr w) = elim w [ ]
kept_side p x y (node n h b) (inl e) = absurd cc
kept_side p x y (node n h b) (inr w) = elim w [ ]
kept_side p x y (fork q c d) (inl e) = (c, zero_side here, inl (part_parts e).1)
kept_side p x y (fork q c d) (inr (in_zero w)) = (d, one_side here, inr refl)
kept_side p x y (fork q c d) (inr (in_one w)) = (c, zero_side here, inl refl)

-- The subtries of one record before and after.
abbrev pub IsNearSubtrie : Subtrie → Subtrie → Type 0
IsNearSubtrie x y = (x ≡ y) ⊎ Swap x y

pub near_subtrie : (m o : Heap) → KeepsAllButOneEntry m o → {n q : ℕ} {x y : NodeWords} → n ≡ q → m.nodes n ≡ x → o.nodes q ≡ y → IsNearSubtrie x.subtrie y.subtrie
near_subtrie m o near {n} {q} {x} {y} e i j =
    subst (λ z. IsNearSubtrie x.subtrie z) (ap (λ (z : NodeWords). z.subtrie) (ap o.nodes e ∙ j))
    (subst (λ z. IsNearSubtrie z (o.nodes n).subtrie) (ap (λ (z : NodeWords). z.subtrie) i) (near.2 n))

-- Where each subtrie changes at one place at most, what one entry shows before and after has a key in common.
pub common : (m o : Heap) → KeepsAllButOneEntry m o → (s t : Tree) → IsBuilt s → IsShown m s → IsShown o t → subtrie s ≡ subtrie t → IsCommon s t
common m o near (leaf n k v) (leaf q l w) b i j e =
    (k, refl, ap (λ (z : LeafWords). z.key) (sym i) ∙ (near.0 n ∙ ap (λ (z : LeafWords). z.key) (ap o.leaves (leaf_parts e) ∙ j)))
common m o near (leaf n k v) (node q l w) b i j e = absurd cc
common m o near (leaf n k v) (fork q l w) b i j e = absurd cc
common m o near (node n h (leaf q k v)) t b i j e = elim b.0 [ ]
common m o near (node n h (node q k v)) t b i j e = elim b.0 [ ]
common m o near (node n h (fork p x y)) (leaf q l w) b i j e = absurd cc
common m o near (node n h (fork p x y)) (fork q l w) b i j e = absurd cc
common m o near (node n h (fork p x y)) (node q g c) b i j e =
    both (common m o near x) (common m o near y) (kept_side p (subtrie x) (subtrie y) c (near_subtrie m o near (node_parts e).0 i.0 j.0))
  where
    both : ((t : Tree) → IsBuilt x → IsShown m x → IsShown o t → subtrie x ≡ subtrie t → IsCommon x t) →
        ((t : Tree) → IsBuilt y → IsShown m y → IsShown o t → subtrie y ≡ subtrie t → IsCommon y t) →
        (d : Tree) × Within d c × ((subtrie x ≡ subtrie d) ⊎ (subtrie y ≡ subtrie d)) → IsCommon (node n h (fork p x y)) (node q g c)
    both f g (d, w, inl r) = let z = f d b.2.0 i.1.0 (shown_within o w j.1) r in (z.0, inl z.1, has_within w z.0 z.2)
    both f g (d, w, inr r) = let z = g d b.2.1 i.1.1 (shown_within o w j.1) r in (z.0, inr z.1, has_within w z.0 z.2)
common m o near (fork p x y) (leaf q c d) b i j e = absurd cc
common m o near (fork p x y) (node q c d) b i j e = absurd cc
common m o near (fork p x y) (fork q c d) b i j e =
    let u : (p ≡ q) × (subtrie x ≡ subtrie c) × (subtrie y ≡ subtrie d) = part_parts e in
    let r : IsCommon x c = common m o near x c b.0 i.0 j.0 u.1 in (r.0, inl r.1, inl r.2)

near_sides : {p q : ℕ} {x y z w : Subtrie} → IsNearSubtrie (Fork p x y) (Fork q z w) →
    (p ≡ q) × IsNearSubtrie x z × IsNearSubtrie y w × ((x ≡ z) ⊎ (y ≡ w))
near_sides (inl e) = let u = part_parts e in (u.0, inl u.1, inl u.2, inl u.1)
near_sides (inr (in_zero s)) = (refl, inr s, inl refl, inr refl)
near_sides (inr (in_one s)) = (refl, inl refl, inr s, inl refl)

-- So the bodies of one record before and after are kin.
pub kin_step : (m o : Heap) → KeepsAllButOneEntry m o → (s t : Tree) → IsBuilt s → IsTrie s → IsTrie t → IsShown m s → IsShown o t →
    IsNearSubtrie (subtrie s) (subtrie t) → Kin s t
kin_step m o near (leaf n k v) (leaf q c d) b l r i j e = tips tt tt
kin_step m o near (leaf n k v) (node q c d) b l r i j e = tips tt tt
kin_step m o near (leaf n k v) (fork q c d) b l r i j (inl e) = absurd cc
kin_step m o near (leaf n k v) (fork q c d) b l r i j (inr e) = elim e [ ]
kin_step m o near (node n k v) (leaf q c d) b l r i j e = tips tt tt
kin_step m o near (node n k v) (node q c d) b l r i j e = tips tt tt
kin_step m o near (node n k v) (fork q c d) b l r i j (inl e) = absurd cc
kin_step m o near (node n k v) (fork q c d) b l r i j (inr e) = elim e [ ]
kin_step m o near (fork p x y) (leaf q c d) b l r i j (inl e) = absurd cc
kin_step m o near (fork p x y) (leaf q c d) b l r i j (inr e) = elim e [ ]
kin_step m o near (fork p x y) (node q c d) b l r i j (inl e) = absurd cc
kin_step m o near (fork p x y) (node q c d) b l r i j (inr e) = elim e [ ]
kin_step m o near (fork p x y) (fork q c d) b l r i j e =
    let u = near_sides e in
    let z : IsCommon (fork p x y) (fork q c d) = shared u.3 in
    subst (λ a. Kin (fork p x y) (fork a c d)) u.0
    (forks (λ f g hf hg a h. l.2 f z.0 hf z.1 a h ∙ r.2 z.0 g z.2 hg a (subst (λ v. a < v) u.0 h))
    (kin_step m o near x c b.0 l.0 r.0 i.0 j.0 u.1) (kin_step m o near y d b.1 l.1 r.1 i.1 j.1 u.2))
  where
    shared : (subtrie x ≡ subtrie c) ⊎ (subtrie y ≡ subtrie d) → IsCommon (fork p x y) (fork q c d)
    shared (inl v) = let z = common m o near x c b.0 i.0 j.0 v in (z.0, inl z.1, inl z.2)
    shared (inr v) = let z = common m o near y d b.1 i.1 j.1 v in (z.0, inr z.1, inr z.2)

pub near_refl : (m : Heap) → KeepsAllButOneEntry m m
near_refl m = (λ n. refl, λ n. refl, λ n. inl refl)
