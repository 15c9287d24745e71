-- What stays shown when records change.
pub mod Putting
pub mod Reading
pub mod Searching
use Rattle.plain_trie_records.proofs.Common.{◌≡◌, inl, inr, ℕ, ◌≤◌, List, ap, ap₂, sym, ◌∙◌, subst, arith, Some, slice_get, Place, Fork, NodeView, piece, head_of, Leaf, Node, Subtrie, Fixed, Tree, leaf, node, fork, subtrie, Has, IsBuilt, IsLower, first, has_first, some_injective}
use Rattle.plain_trie_records.specs.declared.leaf.LeafRecord.{LeafRecord}
use Rattle.plain_trie_records.specs.Rising.{LacksNode, StaysStored}
use Rattle.plain_trie_records.specs.Risen.{OthersStay}
use Rattle.plain_trie_records.specs.Store.{IsNodeStored, ShowsTree}

-- the trees have no key in common
abbrev pub IsApart : Tree → Tree → Type 0
IsApart s t = (k : List ℕ) → Has s k → Has t k → ⊥

module _ (ns : List NodeView) where
  same_view : {n m : ℕ} {v w : NodeView} → n ≡ m → slice_get ns n ≡ Some v → slice_get ns m ≡ Some w → v ≡ w
  same_view e i j = some_injective (sym i ∙ (ap (slice_get ns) e ∙ j))

  stored_same : {n m : ℕ} {x y : Fixed} {p q : Subtrie} → n ≡ m → IsNodeStored ns n x p → IsNodeStored ns m y q → (x ≡ y) × (p ≡ q)
  stored_same e s t =
      let z = same_view e s.at t.at in
      (sym s.fixed ∙ (ap head_of z ∙ t.fixed), sym s.shows ∙ (ap piece z ∙ t.shows))

  leaf_parts : {n o : ℕ} → (let a : Subtrie = Place (Leaf n) in let b : Subtrie = Place (Leaf o) in a ≡ b) → n ≡ o
  leaf_parts e = cc

  node_parts : {n o h g : ℕ} → (let a : Subtrie = Place (Node n h) in let b : Subtrie = Place (Node o g) in a ≡ b) → (n ≡ o) × (h ≡ g)
  node_parts e = (cc, cc)

  part_parts : {p q : ℕ} {a b c d : Subtrie} → Fork p a b ≡ Fork q c d → (p ≡ q) × (a ≡ c) × (b ≡ d)
  part_parts e = (cc, cc, cc)

  -- what the records show is determined by the entry
  pub determined : (ls : List LeafRecord) (s t : Tree) → ShowsTree ns ls s → ShowsTree ns ls t → subtrie s ≡ subtrie t → s ≡ t
  determined ls (leaf n k v) (leaf o l w) i j e =
      let x : n ≡ o = leaf_parts e in
      let r = some_injective (sym i ∙ (ap (slice_get ls) x ∙ j)) in
      let y : k ≡ l = ap (λ (z : LeafRecord). z.key) r in
      let z : v ≡ w = ap (λ (z : LeafRecord). z.value) r in cc
  determined ls (leaf n k v) (node o l w) i j e = absurd cc
  determined ls (leaf n k v) (fork o l w) i j e = absurd cc
  determined ls (node n h b) (leaf o l w) i j e = absurd cc
  determined ls (node n h b) (node o g c) i j e =
      let x : n ≡ o = (node_parts e).0 in
      let r = stored_same x i.0 j.0 in
      let z : h ≡ g = r.0 in
      let y : b ≡ c = determined ls b c i.1 j.1 r.1 in cc
  determined ls (node n h b) (fork o g c) i j e = absurd cc
  determined ls (fork p a b) (leaf q c d) i j e = absurd cc
  determined ls (fork p a b) (node q c d) i j e = absurd cc
  determined ls (fork p a b) (fork q c d) i j e =
      let x : (p ≡ q) × (subtrie a ≡ subtrie c) × (subtrie b ≡ subtrie d) = part_parts e in
      let y : a ≡ c = determined ls a c i.0 j.0 x.1 in
      let z : b ≡ d = determined ls b d i.1 j.1 x.2 in
      ap₂ (λ (u : Tree) (w : Tree). fork p u w) y z ∙ ap (λ r. fork r c d) x.0

  -- a node that the records show is in no tree that has none of its keys
  pub no_node : (ls : List LeafRecord) (n : ℕ) (x : Fixed) (b s : Tree) → ShowsTree ns ls (node n x b) → ShowsTree ns ls s → IsApart (node n x b) s → LacksNode n s
  no_node ls n x b (leaf m k v) i j a = tt
  no_node ls n x b (node m y d) i j a = (
    λ e.
        let r = stored_same e i.0 j.0 in
        let same : b ≡ d = determined ls b d i.1 j.1 r.1 in
        a (first b) (has_first b) (subst (λ z. Has z (first b)) same (has_first b)),
    no_node ls n x b d i j.1 a,
  )
  no_node ls n x b (fork p c d) i j a = (no_node ls n x b c i j.0 (λ k h g. a k h (inl g)), no_node ls n x b d i j.1 (λ k h g. a k h (inr g)))

  pub lower_more : (h g : ℕ) (t : Tree) → IsLower h t → h ≤ g → IsLower g t
  lower_more h g (leaf m k v) l e = omega (arith, l)
  lower_more h g (node m x b) l e = omega (arith, l)
  lower_more h g (fork p a b) l e = (lower_more h g a l.0 e, lower_more h g b l.1 e)

  -- nor is it in a lower one
  pub no_node_below : (ls : List LeafRecord) (n h : ℕ) (v : NodeView) (t : Tree) → slice_get ns n ≡ Some v → v.height ≡ h → IsLower h t → IsBuilt t → ShowsTree ns ls t → LacksNode n t
  no_node_below ls n h v (leaf m k w) at e l b i = tt
  no_node_below ls n h v (node m x d) at e l b i = (
    λ same.
        let f : head_of v ≡ x = ap head_of (same_view same at i.0.at) ∙ i.0.fixed in
        let g : v.height ≡ x.height = ap (λ (z : Fixed). z.height) f in
        absurd (omega (arith, l)),
    no_node_below ls n h v d at e (lower_more x.height h d b.1 (omega (arith, l))) b.2 i.1,
  )
  no_node_below ls n h v (fork p c d) at e l b i = (no_node_below ls n h v c at e l.0 b.0 i.0, no_node_below ls n h v d at e l.1 b.1 i.1)

-- A tree that has none of the keys of s stays shown.
pub shown_kept : (ns ms : List NodeView) (ls : List LeafRecord) (s t : Tree) → StaysStored ns ms s → ShowsTree ns ls s → ShowsTree ns ls t → IsApart t s → ShowsTree ms ls t
shown_kept ns ms ls s (leaf n k v) c i j a = j
shown_kept ns ms ls s (node n x b) c i j a = (
  record { view = j.0.view; at = c n j.0.view (no_node ns ls n x b s j i a) j.0.at; fixed = j.0.fixed; shows = j.0.shows },
  shown_kept ns ms ls s b c i j.1 a,
)
shown_kept ns ms ls s (fork p b d) c i j a = (
  shown_kept ns ms ls s b c i j.0 (λ k h g. a k (inl h) g),
  shown_kept ns ms ls s d c i j.1 (λ k h g. a k (inr h) g),
)

-- A tree without node n stays shown where that node alone changes.
pub shown_but : (ns ms : List NodeView) (ls : List LeafRecord) (n : ℕ) (t : Tree) → OthersStay ns ms n → LacksNode n t → ShowsTree ns ls t → ShowsTree ms ls t
shown_but ns ms ls n (leaf m k v) f none j = j
shown_but ns ms ls n (node m x b) f none j = (
  record { view = j.0.view; at = f m j.0.view none.0 j.0.at; fixed = j.0.fixed; shows = j.0.shows },
  shown_but ns ms ls n b f none.1 j.1,
)
shown_but ns ms ls n (fork p b d) f none j = (shown_but ns ms ls n b f none.0 j.0, shown_but ns ms ls n d f none.1 j.1)

-- Each tree stays shown where records are added.
pub shown_more : (ns ms : List NodeView) (ls ks : List LeafRecord) (t : Tree) → ((m : ℕ) (v : NodeView) → slice_get ns m ≡ Some v → slice_get ms m ≡ Some v) →
    ((m : ℕ) (l : LeafRecord) → slice_get ls m ≡ Some l → slice_get ks m ≡ Some l) → ShowsTree ns ls t → ShowsTree ms ks t
shown_more ns ms ls ks (leaf m k v) f g j = g m _ j
shown_more ns ms ls ks (node m x b) f g j =
    (record { view = j.0.view; at = f m j.0.view j.0.at; fixed = j.0.fixed; shows = j.0.shows }, shown_more ns ms ls ks b f g j.1)
shown_more ns ms ls ks (fork p b d) f g j = (shown_more ns ms ls ks b f g j.0, shown_more ns ms ls ks d f g j.1)
