-- The descent below the lowest locked node.
use Rattle.version_laws.proofs.Common.{◌≡◌, ℕ, ◌<◌, refl, ap, sym, ◌∙◌, subst, arith, le_refl, Some, Key, AgreeBelow, Fixed, Subtrie, Tree, leaf, node, fork, subtrie, Has, Within, here, inside, Leaf, Node, Place, seek, Follows, child, Kin, tips, forks, NodeWords, LeafWords, Life, Out, Linked, Retired, Spans, last_of, IsLived, Stands, IsReach, IsLawfulState, StoodWithKeys, a_node, BareCore, view, built_within, within_trans, subtrie_child, within_child, shown_within, leaf_parts, node_parts}
use Rattle.version_laws.specs.Writer.{BeganAt, IsWayBelow, at_leaf, below}
use Rattle.version_laws.proofs.Now.{built_now, shown_now}
use Rattle.version_laws.proofs.Statements.Search.{leaf_now}

spans_now : (now : ℕ) (l : Life) → IsLived now l → Spans now l now → last_of now l ≡ now
spans_now now Out i h = elim h [ ]
spans_now now (Linked f) i h = refl
spans_now now (Retired f e) i h = absurd (omega arith)

fork_position : {p q : ℕ} {a b c d : Tree} → fork p a b ≡ fork q c d → p ≡ q
fork_position e = cc

-- A body in a later version has its first fork where it was, and its keys agree before it with those of then.
kin_root : {s t : Tree} → Kin s t → (r : ℕ) (b d : Tree) → s ≡ fork r b d → (like : Key) → Has s like → (p : ℕ) (f g : Tree) → t ≡ fork p f g →
    (p ≡ r) × ((y : Key) → Has t y → AgreeBelow r like y)
kin_root (tips {a = leaf n k v} x y) r b d e like h p f g i = absurd cc
kin_root (tips {a = node n k v} x y) r b d e like h p f g i = absurd cc
kin_root (tips {a = fork n k v} x y) r b d e like h p f g i = elim x [ ]
kin_root (forks {p = z} w x y) r b d e like h p f g i =
    let u : z ≡ r = fork_position e in let v : z ≡ p = fork_position i in
    (sym v ∙ u, λ o j. subst (λ q. AgreeBelow q like o) u (w like o h j))

-- The way below a locked node tells of the present: the key that was found follows the stem of the node's child.
module _ (c : BareCore) (law : IsLawfulState (view c)) (since : ℕ) (reach : IsReach (view c) since) (t : Tree) (now : c.past.version c.past.now ≡ Some t) where
  leaf_follows : (u : Tree) → Within u t → (j : ℕ) (l : Key) → subtrie u ≡ Place (Leaf j) → StoodWithKeys c.past since (λ y. y ≡ l) (Leaf j) → Follows l u
  leaf_follows (node n x b) w j l e f = absurd cc
  leaf_follows (fork n x b) w j l e f = absurd cc
  leaf_follows (leaf n m v) w j l e f =
      let s = shown_within c.heap w (shown_now c law t now) in
      sym (key_now f) ∙ (ap (λ z. (c.heap.leaves z).key) (sym (leaf_parts e)) ∙ ap (λ (z : LeafWords). z.key) s)
    where
      key_now : StoodWithKeys c.past since (λ y. y ≡ l) (Leaf j) → (c.heap.leaves j).key ≡ l
      key_now (o, node z q w, lo, hi, so, e, f) = absurd cc
      key_now (o, fork z q w, lo, hi, so, e, f) = absurd cc
      key_now (o, leaf z q w, lo, hi, so, e, f) = (leaf_now (view c) law since reach o j z q w lo hi so).key ∙ f q refl

  node_follows : (u : Tree) → Within u t → (a h r : ℕ) (l like : Key) → subtrie u ≡ Place (Node a h) → BeganAt c.past since r like a → AgreeBelow r like l → Follows l u
  node_follows (leaf n x b) w a h r l like e f g = absurd cc
  node_follows (fork n x b) w a h r l like e f g = absurd cc
  node_follows (node n x (leaf m o v)) w a h r l like e f g = elim (built_within w (built_now c law t now)).0 [ ]
  node_follows (node n x (node m o v)) w a h r l like e f g = elim (built_within w (built_now c law t now)).0 [ ]
  node_follows (node n x (fork p d o)) w a h r l like e (i, y, b, z, lo, hi, st, has) g =
      λ m hm s j. sym (g s (subst (λ v. s < v) root.0 j)) ∙ root.1 m hm s (subst (λ v. s < v) root.0 j)
    where
      stands : Stands c.past c.past.now (a_node a) (node a x (fork p d o))
      stands = record { tree = t; is_version = now; within = subst (λ z. Within (node z x (fork p d o)) t) (node_parts e).0 w; is_record = refl }

      last : last_of c.past.now ((view c).life (a_node a)) ≡ c.past.now
      last = spans_now c.past.now ((view c).life (a_node a)) (law.lived (a_node a))
          (law.present c.past.now (le_refl c.past.now) (le_refl c.past.now) (a_node a) (node a x (fork p d o)) stands)

      kin : Kin (fork r b z) (fork p d o)
      kin = (law.same (a_node a) i (node a y (fork r b z)) (node a x (fork p d o)) (reach i lo hi (a_node a) (node a y (fork r b z)) st) st
          (subst (λ i. Stands c.past i (a_node a) (node a x (fork p d o))) (sym last) stands)).1

      root : (p ≡ r) × ((y : Key) → Has (fork p d o) y → AgreeBelow r like y)
      root = kin_root kin r b z refl like has p d o refl

  way_tree : (u : Tree) → Within u t → (k l : Key) (x : Subtrie) → subtrie u ≡ Place (seek k x) → IsWayBelow c.past since k x l → Follows l u
  way_tree u w k l x e (at_leaf j f g) = leaf_follows u w j l (e ∙ ap Place f) g
  way_tree u w k l x e (below a h r like f g i) = node_follows u w a h r l like (e ∙ ap Place f) g i

  pub way_follows : {n : ℕ} {x : Fixed} {b : Tree} → Within (node n x b) t → (k l : Key) → IsWayBelow c.past since k (c.heap.nodes n).subtrie l → Follows l (child k b)
  way_follows {n} {x} {b} v k l way =
      let e : (c.heap.nodes n).subtrie ≡ subtrie b = ap (λ (z : NodeWords). z.subtrie) (shown_within c.heap v (shown_now c law t now)).0 in
      way_tree (child k b) (within_trans (within_child k b) (within_trans (inside here) v))
      k l (c.heap.nodes n).subtrie (subtrie_child k b ∙ ap (λ z. Place (seek k z)) (sym e)) way
