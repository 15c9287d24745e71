-- One store into a node: the tree that the words show then. And the opening state.
use Rattle.versions.proofs.Common.{◌≡◌, ◌≢◌, inl, inr, ℕ, ◌<◌, refl, ap, ap₂, sym, ◌∙◌, subst, arith, Option, Some, None, lt_trans, false≢true, Fixed, Tree, leaf, node, fork, Has, IsTrie, IsFork, IsLower, IsBuilt, Within, here, inside, zero_side, one_side, IsFit, Leaf, Node, Place, a_node, has_first, has_within, first, Rec}
use Rattle.versions.specs.Heap.{NodeWords, Heap, IsShown}
use Rattle.versions.specs.State.{IsRecord, Links, Out, IsLawfulState}
use Rattle.tries.proofs.Changes.{put}
use Rattle.versions.proofs.Heap.{shown_within, determined, leaf_node, leaf_number, node_leaf, node_number}
use Rattle.versions.proofs.State.Publish.{links_within}
use Rattle.versions.proofs.State.Quiet.{shown_if_same_words}
use Rattle.tries.proofs.Changes.Puts.{subtrie_put}

-- Two trees of one record, shown by the same words, are the same.
same_tree : (m : Heap) (i : Rec) (u v : Tree) → IsRecord i u → IsRecord i v → IsShown m u → IsShown m v → u ≡ v
same_tree m i (fork p c d) v x y s t = elim x [ ]
same_tree m i (leaf a k w) (fork p c d) x y s t = elim y [ ]
same_tree m i (node a f b) (fork p c d) x y s t = elim y [ ]
same_tree m i (leaf a k w) (node c g d) x y s t = absurd (leaf_node (sym x ∙ y))
same_tree m i (node a f b) (leaf c l z) x y s t = absurd (node_leaf (sym x ∙ y))
same_tree m i (leaf a k w) (leaf c l z) x y s t = determined m (leaf a k w) (leaf c l z) s t (ap (λ n. Place (Leaf n)) (leaf_number (sym x ∙ y)))
same_tree m i (node a f b) (node c g d) x y s t =
    let z : a ≡ c = node_number (sym x ∙ y) in
    let w : f ≡ g = ap (λ (q : NodeWords). q.fixed) (sym s.0 ∙ (ap m.nodes z ∙ t.0)) in
    determined m (node a f b) (node c g d) s t (ap₂ (λ a f. Place (Node a f)) z (ap (λ (q : Fixed). q.height) w))

-- A record of one side of a fork isn't on the other side.
pub not_beside : (m : Heap) (p : ℕ) (i : Rec) (a b : Tree) → IsTrie (fork p a b) → IsShown m (fork p a b) → Links a i → Links b i → ⊥
not_beside m p i a b t s x y =
    let u = links_within a i x in
    let v = links_within b i y in
    let e = same_tree m i u.0 v.0 u.2 v.2 (shown_within m u.1 s.0) (shown_within m v.1 s.1) in
    let k = first u.0 in
    false≢true (sym (t.3 k (has_within u.1 k (has_first u.0))) ∙ t.4 k (has_within v.1 k (subst (λ z. Has z k) e (has_first u.0))))

-- Heights fall on each path.
pub lower_within : {n : ℕ} {x : Fixed} {b t : Tree} (h : ℕ) → Within (node n x b) t → IsLower h t → IsBuilt t → x.height < h
lower_within h here l i = l
lower_within h (inside w) l i = lt_trans (lower_within _ w i.1 i.2) l
lower_within h (zero_side w) l i = lower_within h w l.0 i.0
lower_within h (one_side w) l i = lower_within h w l.1 i.1

-- A node isn't below itself.
pub not_above : (m : Heap) (n : ℕ) (x : Fixed) (b : Tree) → IsBuilt (node n x b) → IsShown m (node n x b) → Links b (a_node n) → ⊥
not_above m n x b t i l = go (links_within b (a_node n) l)
  where
    go : (u : Tree) × Within u b × IsRecord (a_node n) u → ⊥
    go (leaf a k w, u, r) = absurd cc
    go (fork a k w, u, r) = elim r [ ]
    go (node a y d, u, r) =
        let e = same_tree m (a_node n) (node n x b) (node a y d) refl r i (shown_within m u i.1) in
        let f : x ≡ y = cc in
        let h : y.height < x.height = lower_within x.height u t.1 t.2 in
        let g : x.height ≡ y.height = ap (λ (z : Fixed). z.height) f in omega arith

pub links_of : {n : ℕ} {x : Fixed} {b t : Tree} → Within (node n x b) t → Links t (a_node n)
links_of here = inl refl
links_of (inside w) = inr (links_of w)
links_of (zero_side w) = inl (links_of w)
links_of (one_side w) = inr (links_of w)

-- After a store into node `n`, which then shows the body `c`, the words show the tree with that body there.
pub put_shown : (m o : Heap) (n : ℕ) (x : Fixed) (b c : Tree) {t : Tree} (w : Within (node n x b) t) → IsTrie t → IsBuilt t → IsShown m t →
    ((i : ℕ) → i ≢ n → m.nodes i ≡ o.nodes i) → ((i : ℕ) → m.leaves i ≡ o.leaves i) → IsShown o (node n x c) → IsShown o (put w (node n x c))
put_shown m o n x b c here i j k f g s = s
put_shown m o n x b c (inside {n = a} {x = y} {b = d} w) i j k f g s = (
  sym (f a (λ e. not_above m a y d j k (subst (λ z. Links d (a_node z)) (sym e) (links_of w)))) ∙
      (k.0 ∙ ap (λ z. let q : NodeWords = record { fixed = y; subtrie = z } in q) (sym (subtrie_put w (node n x c) refl))),
  put_shown m o n x b c w i j.2 k.1 f g s,
)
put_shown m o n x b c (zero_side {p = p} {a = a} {b = d} w) i j k f g s = (
  put_shown m o n x b c w i.0 j.0 k.0 f g s,
  shown_if_same_words m o d (λ e l. f e (λ z. not_beside m p (a_node n) a d i k (links_of w) (subst (λ y. Links d (a_node y)) z l))) (λ e l. g e) k.1,
)
put_shown m o n x b c (one_side {p = p} {a = a} {b = d} w) i j k f g s = (
  shown_if_same_words m o a (λ e l. f e (λ z. not_beside m p (a_node n) a d i k (subst (λ y. Links a (a_node y)) z l) (links_of w))) (λ e l. g e) k.0,
  put_shown m o n x b c w i.1 j.1 k.1 f g s,
)

-- The opening state is lawful; until records are given back each pass counts as pinned in version 0.
pub opening_lawful : (heap : Heap) (pin : ℕ → Option ℕ) →
    IsLawfulState (record { heap = heap; root = None; past = record { now = 0; version = λ n. None }; life = λ r. Out; pin = pin })
opening_lawful heap pin = record {
  trees = λ n t h e. absurd cc;
  top = tt;
  lived = λ r. tt;
  alive = λ r n h. absurd h;
  present = λ n lo hi r u st. nothing st.tree st.is_version;
  frozen = λ r u h st. absurd h;
  same = λ r n u v h su sv. absurd h;
  reach = λ q m e n lo hi r u st. nothing st.tree st.is_version;
}
  where
    nothing : (t : Tree) → None ≡ Some t → ⊥
    nothing t e = cc

lower_put : (h n : ℕ) (x : Fixed) (b c : Tree) {t : Tree} (w : Within (node n x b) t) → IsLower h t → IsLower h (put w (node n x c))
lower_put h n x b c here l = l
lower_put h n x b c (inside w) l = l
lower_put h n x b c (zero_side w) l = (lower_put h n x b c w l.0, l.1)
lower_put h n x b c (one_side w) l = (l.0, lower_put h n x b c w l.1)

fork_put : (n : ℕ) (x : Fixed) (b c : Tree) {t : Tree} (w : Within (node n x b) t) → IsFork t → IsFork (put w (node n x c))
fork_put n x b c here f = elim f [ ]
fork_put n x b c (inside w) f = elim f [ ]
fork_put n x b c (zero_side w) f = tt
fork_put n x b c (one_side w) f = tt

pub put_built : (n : ℕ) (x : Fixed) (b c : Tree) {t : Tree} (w : Within (node n x b) t) → IsBuilt t → IsBuilt (node n x c) → IsBuilt (put w (node n x c))
put_built n x b c here i j = j
put_built n x b c (inside {x = y} w) i j = (
  fork_put n x b c w i.0,
  lower_put y.height n x b c w i.1,
  put_built n x b c w i.2 j,
  subst (IsFit y) (sym (subtrie_put w (node n x c) refl)) i.3,
)
put_built n x b c (zero_side w) i j = (put_built n x b c w i.0 j, i.1)
put_built n x b c (one_side w) i j = (i.0, put_built n x b c w i.1 j)
