-- What a pass's locks and the words that it has read say of the present tree.
use Rattle.version_laws.proofs.Common.{◌≡◌, ℕ, refl, ap, sym, ◌∙◌, subst, Some, Option, None, Key, Fixed, Tree, leaf, node, subtrie, Within, here, inside, Leaf, Node, Place, child, seek, NodeWords, LeafWords, IsShown, IsLawfulState, IsTop, a_node, InTree, BareCore, view, within_trans, subtrie_child, within_child, shown_within, in_tree_now, Entry, some_same}
use Rattle.version_laws.proofs.Now.{shown_now}
use Rattle.version_laws.proofs.Scan.{node_of, leaf_of as leaf_named}

-- A leaf is the one of its number, with its words.
pub leaf_of : (c : BareCore) {j : ℕ} (u : Tree) → IsShown c.heap u → subtrie u ≡ Place (Leaf j) → u ≡ leaf j (c.heap.leaves j).key (c.heap.leaves j).value
leaf_of c {j} u s e =
    let (k, v, is) = leaf_named j u e in
    is ∙ sym (ap (λ (r : LeafWords). leaf j r.key r.value) (subst (IsShown c.heap) is s))

module _ (c : BareCore) (law : IsLawfulState (view c)) (t : Tree) (now : c.past.version c.past.now ≡ Some t) where
  -- A node that is in the tree stands in the present tree with its words.
  pub stands_now : (n f : ℕ) → c.fate (a_node n) ≡ InTree f →
      (b : Tree) × Within (node n (c.heap.nodes n).fixed b) t × (subtrie b ≡ (c.heap.nodes n).subtrie)
  stands_now n f e =
      let u = in_tree_now c law n f e in
      (u.0, subst (Within (node n (c.heap.nodes n).fixed u.0)) (some_same (sym u.1.is_version ∙ now)) u.1.within, u.2)

  -- The node that its entry names stands there.
  pub entry_node : {o : ℕ} {z : Fixed} {d : Tree} → Within (node o z d) t → (k : Key) (n h : ℕ) → seek k (c.heap.nodes o).subtrie ≡ Node n h →
      (y : Fixed) × (b : Tree) × (child k d ≡ node n y b) × (c.heap.nodes n ≡ record { fixed = y; subtrie = subtrie b })
  entry_node {o} {z} {d} v k n h e =
      let words : (c.heap.nodes o).subtrie ≡ subtrie d = ap (λ (w : NodeWords). w.subtrie) (shown_within c.heap v (shown_now c law t now)).0 in
      go (child k d) (shown_within c.heap (within_trans (within_child k d) (within_trans (inside here) v)) (shown_now c law t now))
      (subtrie_child k d ∙ ap Place (ap (seek k) (sym words) ∙ e))
    where
      go : (u : Tree) → IsShown c.heap u → subtrie u ≡ Place (Node n h) → (y : Fixed) × (b : Tree) × (u ≡ node n y b) × (c.heap.nodes n ≡ record { fixed = y; subtrie = subtrie b })
      go u s e = let (y, b, is, high) = node_of n h u e in (y, b, is, (subst (IsShown c.heap) is s).0)

  -- The leaf that its entry names stands there: the key is present.
  pub entry_leaf : {o : ℕ} {z : Fixed} {d : Tree} → Within (node o z d) t → (k : Key) (j : ℕ) → seek k (c.heap.nodes o).subtrie ≡ Leaf j →
      child k d ≡ leaf j (c.heap.leaves j).key (c.heap.leaves j).value
  entry_leaf {o} {z} {d} v k j e =
      let words : (c.heap.nodes o).subtrie ≡ subtrie d = ap (λ (w : NodeWords). w.subtrie) (shown_within c.heap v (shown_now c law t now)).0 in
      leaf_of c (child k d) (shown_within c.heap (within_trans (within_child k d) (within_trans (inside here) v)) (shown_now c law t now))
      (subtrie_child k d ∙ ap Place (ap (seek k) (sym words) ∙ e))

  -- What the root entry says of the tree.
  pub root_subtrie : (e : Entry) → c.root ≡ Some e → subtrie t ≡ Place e
  root_subtrie e h = go c.root (c.past.version c.past.now) h now law.top
    where
      go : (r : Option Entry) (f : Option Tree) → r ≡ Some e → f ≡ Some t → IsTop c.heap r f → subtrie t ≡ Place e
      go None f a b i = absurd cc
      go (Some d) None a b i = absurd i
      go (Some d) (Some u) a b i = let z : d ≡ e = cc in let w : u ≡ t = cc in ap subtrie (sym w) ∙ (i.0 ∙ ap Place z)

  pub root_leaf : (j : ℕ) → c.root ≡ Some (Leaf j) → t ≡ leaf j (c.heap.leaves j).key (c.heap.leaves j).value
  root_leaf j e = leaf_of c t (shown_now c law t now) (root_subtrie (Leaf j) e)

-- The tree of the present, where there is a node in it or a root entry.
pub newest_tree_if_node : (c : BareCore) → IsLawfulState (view c) → (n f : ℕ) → c.fate (a_node n) ≡ InTree f → (t : Tree) × (c.past.version c.past.now ≡ Some t)
newest_tree_if_node c law n f e = let u = (in_tree_now c law n f e).1 in (u.tree, u.is_version)

pub newest_tree_if_rooted : (c : BareCore) → IsLawfulState (view c) → (e : Entry) → c.root ≡ Some e → (t : Tree) × (c.past.version c.past.now ≡ Some t)
newest_tree_if_rooted c law e h = go c.root (c.past.version c.past.now) h refl law.top
  where
    go : (r : Option Entry) (f : Option Tree) → r ≡ Some e → c.past.version c.past.now ≡ f → IsTop c.heap r f → (t : Tree) × (c.past.version c.past.now ≡ Some t)
    go None f a b i = absurd cc
    go (Some d) None a b i = absurd i
    go (Some d) (Some u) a b i = (u, b)

pub now_empty : (c : BareCore) → IsLawfulState (view c) → c.root ≡ None → c.past.version c.past.now ≡ None
now_empty c law h = go c.root (c.past.version c.past.now) h refl law.top
  where
    go : (r : Option Entry) (f : Option Tree) → r ≡ None → c.past.version c.past.now ≡ f → IsTop c.heap r f → c.past.version c.past.now ≡ None
    go None None a b i = b
    go None (Some u) a b i = absurd i
    go (Some d) f a b i = absurd cc
