-- Reading gives the tree that the records show, and finds one that is well built.
use Rattle.plain_trie_records.proofs.Common.{◌≡◌, inl, inr, ℕ, suc, zero, List, refl, ap, ap₂, sym, ◌∙◌, subst, Option, Some, None, eqb, slice_get, option_map, cond-true, cond-false, eq-eqb, eqb-true, cases_Bool, Place, NodeView, piece, height_of, head_of, Entry, Leaf, Node, Subtrie, Fixed, Tree, leaf, node, subtrie, IsBuilt}
use Rattle.tries.specs.Read.{join_node, read_subtrie}
use Rattle.plain_trie_records.specs.declared.leaf.LeafRecord.{LeafRecord}
use Rattle.tries.proofs.Read.{some_injective, IsFound, subtrie_found, node_found, read_exact as exactly_read}
use Rattle.plain_trie_records.specs.Store.{IsNodeStored, ShowsTree, read_node, entry_tree}

module _ (nodes : List NodeView) (leaves : List LeafRecord) where
  -- the records show a tree for this subtrie
  abbrev Finds : Subtrie → Tree → Type 0
  Finds = IsFound (ShowsTree nodes leaves) (λ p a b i j. (i, j))

  node_read : (f : Entry → Option Tree) → ((x : Subtrie) (u : Tree) → read_subtrie f x ≡ Some u → Finds x u) → (n g : ℕ) (o : Option NodeView) (t : Tree) → slice_get nodes n ≡ o →
      read_node f n g o ≡ Some t → Finds (Place (Node n g)) t
  node_read f k n g None t at h = absurd cc
  node_read f k n g (Some v) t at h = elim (cases_Bool (eqb v.height g)) [
    | inl e ↦
        let high : v.height ≡ g = eqb-true v.height g e in
        let entry_tree : join_node n (head_of v) (read_subtrie f (piece v)) ≡ Some t = sym (cond-true (eqb v.height g) (join_node n (head_of v) (read_subtrie f (piece v))) None e) ∙ h in
        subst (λ z. Finds (Place (Node n z)) t) high
        (node_found (ShowsTree nodes leaves) (λ p a b i j. (i, j)) n (head_of v) (piece v) (read_subtrie f (piece v)) t
        (λ u i. (record { view = v; at = at; fixed = refl; shows = sym i.0 }, i.1)) (k (piece v)) entry_tree)
    | inr e ↦
        let x : None ≡ Some t = sym (cond-false (eqb v.height g) (join_node n (head_of v) (read_subtrie f (piece v))) None e) ∙ h in
        absurd cc
  ]

  leaf_found : (n : ℕ) (o : Option LeafRecord) (t : Tree) → slice_get leaves n ≡ o → option_map (λ (l : LeafRecord). leaf n l.key l.value) o ≡ Some t → Finds (Place (Leaf n)) t
  leaf_found n None t at e = absurd cc
  leaf_found n (Some l) t at e = subst (Finds (Place (Leaf n))) (some_injective e) (refl, at)

  -- what is read is shown by the records
  pub read_sound : (f : ℕ) (e : Entry) (t : Tree) → entry_tree nodes leaves f e ≡ Some t → Finds (Place e) t
  read_sound zero (Leaf n) t h = leaf_found n (slice_get leaves n) t refl h
  read_sound (suc f) (Leaf n) t h = leaf_found n (slice_get leaves n) t refl h
  read_sound zero (Node n g) t h = absurd cc
  read_sound (suc f) (Node n g) t h =
      node_read (entry_tree nodes leaves f) (subtrie_found (ShowsTree nodes leaves) (λ p a b i j. (i, j)) (entry_tree nodes leaves f) (read_sound f)) n g (slice_get nodes n) t refl h

  read_leaf : (f n : ℕ) (k : List ℕ) (v : ℕ) → slice_get leaves n ≡ Some (record { key = k; value = v }) → entry_tree nodes leaves f (Leaf n) ≡ Some (leaf n k v)
  read_leaf zero n k v e = ap (option_map (λ (l : LeafRecord). leaf n l.key l.value)) e
  read_leaf (suc f) n k v e = ap (option_map (λ (l : LeafRecord). leaf n l.key l.value)) e

  read_at : (f n : ℕ) (x : Fixed) (b : Tree) (s : IsNodeStored nodes n x (subtrie b)) → read_subtrie (entry_tree nodes leaves f) (subtrie b) ≡ Some b →
      entry_tree nodes leaves (suc f) (Node n x.height) ≡ Some (node n x b)
  read_at f n x b s g =
      ap (read_node (entry_tree nodes leaves f) n x.height) s.at ∙
      (cond-true (eqb s.view.height x.height) (join_node n (head_of s.view) (read_subtrie (entry_tree nodes leaves f) (piece s.view))) None
      (eq-eqb s.view.height x.height (ap (λ (z : Fixed). z.height) s.fixed)) ∙
      (ap₂ (λ (z : Fixed) (o : Option Tree). join_node n z o) s.fixed (ap (read_subtrie (entry_tree nodes leaves f)) s.shows ∙ g)))

  -- what the records show is read: an entry shows a well built tree exactly where reading it with its height finds one
  pub read_exact : (e : Entry) (t : Tree) → IsBuilt t → ShowsTree nodes leaves t → subtrie t ≡ Place e → entry_tree nodes leaves (height_of e) e ≡ Some t
  read_exact = exactly_read (ShowsTree nodes leaves) (entry_tree nodes leaves) (λ n x b i. i.1) (λ p a b i. i) read_leaf (λ f n x b i g. read_at f n x b i.0 g)
