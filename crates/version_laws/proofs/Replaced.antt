-- A publish that puts one tree in the place of another is legal.
use Rattle.version_laws.proofs.Common.{IsChange, ◌≡◌, ◌⊎◌, ◌≢◌, inl, inr, ℕ, ◌<◌, refl, ap, sym, ◌∙◌, subst, arith, Option, Some, None, le_refl, cases_eq, Fixed, Tree, leaf, node, fork, subtrie, IsTrie, IsTip, IsFork, IsLower, IsBuilt, Within, here, inside, zero_side, one_side, Entry, Place, NodeWords, LeafWords, Heap, IsShown, Swap, swap, in_zero, in_one, IsRecord, Links, Spans, IsLived, IsTop, IsLawfulState, Rec, a_node, Change, Fate, Free, Held, Ready, InTree, Unlinked, Marked, life_of, BareCore, view, at_root, at_slot, IsNextVersion, IsVersionPublish, put, IsInOwnSubtrie, links_within, within_links, shown_within, near_refl, node_number, not_above, lower_within, put_shown, put_built, in_tree_now, built_within, fit_swap, subtrie_put, lower_in_own_subtrie, built_in_own_subtrie, some_same}
use Rattle.version_laws.specs.Writer.{IsSubtrieStored}
use Rattle.versions.proofs.State.Quiet.{shown_if_same_words}
use Rattle.version_laws.proofs.Now.{built_now, shown_now, trie_now}
use Rattle.version_laws.proofs.Writer.AtHand.{IsAtHand}

-- A part put in its own place leaves the tree.
put_own : {s t : Tree} (w : Within s t) → put w s ≡ t
put_own here = refl
put_own (inside {n = n} {x = x} w) = ap (node n x) (put_own w)
put_own (zero_side {p = p} {b = b} w) = ap (λ z. fork p z b) (put_own w)
put_own (one_side {p = p} {a = a} w) = ap (fork p a) (put_own w)

-- What is linked in the tree with a part in one place is linked with another part there, or by the part.
linked_put : {s t : Tree} (w : Within s t) (r u : Tree) (i : Rec) → Links (put w r) i → Links (put w u) i ⊎ Links r i
linked_put here r u i h = inr h
linked_put (inside w) r u i (inl e) = inl (inl e)
linked_put (inside w) r u i (inr h) = elim (linked_put w r u i h) [ inl x ↦ inl (inr x) | inr x ↦ inr x ]
linked_put (zero_side w) r u i (inl h) = elim (linked_put w r u i h) [ inl x ↦ inl (inl x) | inr x ↦ inr x ]
linked_put (zero_side w) r u i (inr h) = inl (inr h)
linked_put (one_side w) r u i (inl h) = inl (inl h)
linked_put (one_side w) r u i (inr h) = elim (linked_put w r u i h) [ inl x ↦ inl (inr x) | inr x ↦ inr x ]

pub linked_after_put : {s t : Tree} (w : Within s t) (r : Tree) (i : Rec) → Links (put w r) i → Links t i ⊎ Links r i
linked_after_put {s} w r i h = subst (λ z. Links z i ⊎ Links r i) (put_own w) (linked_put w r s i h)

pub linked_before_put : {s t : Tree} (w : Within s t) (r : Tree) (i : Rec) → Links t i → Links (put w r) i ⊎ Links s i
linked_before_put {s} w r i h = linked_put w s r i (subst (λ z. Links z i) (sym (put_own w)) h)

pub links_new : {s t : Tree} (w : Within s t) (r : Tree) (i : Rec) → Links r i → Links (put w r) i
links_new here r i h = h
links_new (inside w) r i h = inr (links_new w r i h)
links_new (zero_side w) r i h = inl (links_new w r i h)
links_new (one_side w) r i h = inr (links_new w r i h)

pub links_old : {s t : Tree} (w : Within s t) (i : Rec) → Links s i → Links t i
links_old {s} w i h = subst (λ z. Links z i) (put_own w) (links_new w s i h)

-- A record that is linked now is in the tree, by its fate; and the other way round.
in_tree : (now : ℕ) (f : Fate) → IsLived now (life_of f) → Spans now (life_of f) now → (s : ℕ) × (f ≡ InTree s)
in_tree now Free i h = elim h [ ]
in_tree now (Held q) i h = elim h [ ]
in_tree now (Ready q) i h = elim h [ ]
in_tree now (InTree s) i h = (s, refl)
in_tree now (Unlinked s l q) i h = absurd (omega arith)
in_tree now (Marked s l q) i h = absurd (omega arith)

pub linked_fate : (c : BareCore) → IsLawfulState (view c) → (t : Tree) → c.past.version c.past.now ≡ Some t → (r : Rec) → Links t r → (f : ℕ) × (c.fate r ≡ InTree f)
linked_fate c law t e r h =
    let u = links_within t r h in
    in_tree c.past.now (c.fate r) (law.lived r)
    (law.present c.past.now (le_refl c.past.now) (le_refl c.past.now) r u.0 (record { tree = t; is_version = e; within = u.1; is_record = u.2 }))

pub fate_linked : (c : BareCore) → IsLawfulState (view c) → (t : Tree) → c.past.version c.past.now ≡ Some t → (n f : ℕ) → c.fate (a_node n) ≡ InTree f → Links t (a_node n)
fate_linked c law t e n f h =
    let u = (in_tree_now c law n f h).1 in
    subst (λ z. Links z (a_node n)) (some_same (sym u.is_version ∙ e)) (within_links u.within (a_node n) u.is_record)

pub shown_in_own_subtrie : (m : Heap) {s t : Tree} (w : Within s t) → IsInOwnSubtrie w → (r : Tree) → IsShown m t → IsShown m r → IsShown m (put w r)
shown_in_own_subtrie m here f r i j = j
shown_in_own_subtrie m (inside w) f r i j = elim f [ ]
shown_in_own_subtrie m (zero_side w) f r i j = (shown_in_own_subtrie m w f r i.0 j, i.1)
shown_in_own_subtrie m (one_side w) f r i j = (i.0, shown_in_own_subtrie m w f r i.1 j)

pub fork_kept_by_put : {s t : Tree} (w : Within s t) → IsTip s → (r : Tree) → IsFork t → IsFork (put w r)
fork_kept_by_put {s = leaf n k v} here i r f = elim f [ ]
fork_kept_by_put {s = node n k v} here i r f = elim f [ ]
fork_kept_by_put {s = fork n k v} here i r f = elim i [ ]
fork_kept_by_put (inside w) i r f = elim f [ ]
fork_kept_by_put (zero_side w) i r f = tt
fork_kept_by_put (one_side w) i r f = tt

tip_subtrie : (t : Tree) → IsTip t → (e : Entry) × (subtrie t ≡ Place e)
tip_subtrie (leaf n k v) i = (_, refl)
tip_subtrie (node n x b) i = (_, refl)
tip_subtrie (fork p a b) i = elim i [ ]

pub swap_in_own_subtrie : {s t : Tree} (w : Within s t) → IsInOwnSubtrie w → IsTip s → (r : Tree) → IsTip r → Swap (subtrie t) (subtrie (put w r))
swap_in_own_subtrie {s} here f i r j =
    let x = tip_subtrie s i in let y = tip_subtrie r j in
    subst (λ z. Swap z (subtrie r)) (sym x.1) (subst (λ z. Swap (Place x.0) z) (sym y.1) swap)
swap_in_own_subtrie (inside w) f i r j = elim f [ ]
swap_in_own_subtrie (zero_side w) f i r j = in_zero (swap_in_own_subtrie w f i r j)
swap_in_own_subtrie (one_side w) f i r j = in_one (swap_in_own_subtrie w f i r j)

-- A tree lower than a node doesn't link it.
pub not_higher : (m : Heap) (n : ℕ) (x : Fixed) (r : Tree) → IsBuilt r → IsShown m r → IsLower x.height r → (m.nodes n).fixed ≡ x → Links r (a_node n) → ⊥
not_higher m n x r b i l e h = go (links_within r (a_node n) h)
  where
    go : (u : Tree) × Within u r × IsRecord (a_node n) u → ⊥
    go (leaf a k w, u, z) = absurd cc
    go (fork a k w, u, z) = elim z [ ]
    go (node a y d, u, z) =
        let o : y.height < x.height = lower_within x.height u l b in
        let f : (m.nodes n).fixed ≡ y = ap (λ z. (m.nodes z).fixed) (node_number z) ∙ ap (λ (w : NodeWords). w.fixed) (shown_within m u i).0 in
        let g : x.height ≡ y.height = ap (λ (z : Fixed). z.height) (sym e ∙ f) in
        omega arith

-- A store of the root entry under the anchor's lock is a legal publish, where it makes the next version.
pub root_publish : (c : BareCore) (q : ℕ) → c.anchor ≡ Some q → (root : Option Entry) (t : Option Tree) (x : Change) → x.pass ≡ q → IsNextVersion c.shared q c.heap root t x →
    IsVersionPublish c q c.heap root t x
root_publish c q lock root t x own next = record { store = at_root lock refl; near = near_refl c.heap; kept = λ i. inr refl; kept_leaves = λ i. inr refl; own = own; next = next }

-- A store of one entry of a locked node, under which stood `s` and then stands `r`, is a legal publish of the tree
-- with `r` in the place of `s`, where that is a bit trie.
module _ (c : BareCore) (q : ℕ) (law : IsLawfulState (view c)) (t : Tree) (now : c.past.version c.past.now ≡ Some t) where
  goes_now : (s r new : Tree) → ((i : Rec) → Links r i → Links new i) → ((i : Rec) → Links t i → Links new i ⊎ Links s i) → IsAtHand c q s r →
      (n f : ℕ) → c.fate (a_node n) ≡ InTree f → ¬ (Links new (a_node n)) → c.lock n ≡ Some q
  goes_now s r new b d hand n f e g =
      elim (d (a_node n) (fate_linked c law t now n f e)) [
        | inl x ↦ absurd (g x)
        | inr x ↦ elim (hand.goes n x) [ inl y ↦ absurd (g (b (a_node n) y)) | inr y ↦ y ]
      ]

  comes_now : (s r new : Tree) → ((i : Rec) → Links s i → Links t i) → ((i : Rec) → Links new i → Links t i ⊎ Links r i) → IsAtHand c q s r →
      (i : Rec) → Links new i → ((f : ℕ) × (c.fate i ≡ InTree f)) ⊎ (c.fate i ≡ Ready q)
  comes_now s r new a b hand i h =
      elim (b i h) [
        | inl x ↦ inl (linked_fate c law t now i x)
        | inr x ↦ elim (hand.comes i x) [ inl y ↦ inl (linked_fate c law t now i (a i y)) | inr y ↦ inr y ]
      ]

  pub slot_legal : {n : ℕ} {x : Fixed} {b s : Tree} (v : Within (node n x b) t) (w : Within s b) → IsInOwnSubtrie w → IsTip s → (r : Tree) → IsTip r →
      c.lock n ≡ Some q → IsAtHand c q s r → IsLower x.height r → IsTrie (put v (node n x (put w r))) →
      (heap : Heap) → IsSubtrieStored c.heap heap n (subtrie (put w r)) → (ch : Change) → ch.pass ≡ q → IsChange (Some t) ch (Some (put v (node n x (put w r)))) →
      IsVersionPublish c q heap c.root (Some (put v (node n x (put w r)))) ch
  slot_legal {n} {x} {b} {s} v w flat ts r is_tip lock hand low trie heap st ch e one = record {
    store = at_slot n lock (λ m h. sym (st.others m h)) (λ m. sym (st.leaves m)) refl;
    near = (λ i. ap (λ (z : LeafWords). z.key) (st.leaves i), λ i. same_fixed i (cases_eq i n), λ i. subtries i (cases_eq i n));
    kept = λ i. kept i (cases_eq i n);
    kept_leaves = λ i. inr (st.leaves i);
    own = e;
    next = record {
      top = top_new c.root (c.past.version c.past.now) law.top now;
      tree = λ u z. subst (λ y. IsTrie y × IsBuilt y) (some_same z) (trie, built);
      comes = comes_now s r (put v (node n x (put w r))) (λ i h. links_old v i (inr (links_old w i h))) links_in hand;
      goes = goes_now s r (put v (node n x (put w r))) (λ i h. links_new v (node n x (put w r)) i (inr (links_new w r i h))) links_out hand;
      change = subst (λ z. IsChange z ch (Some (put v (node n x (put w r))))) (sym now) one;
    };
  }
    where
      here_shown : IsShown c.heap (node n x b)
      here_shown = shown_within c.heap v (shown_now c law t now)

      here_built : IsBuilt (node n x b)
      here_built = built_within v (built_now c law t now)

      same_x : (c.heap.nodes n).fixed ≡ x
      same_x = ap (λ (z : NodeWords). z.fixed) here_shown.0

      old_subtrie : (c.heap.nodes n).subtrie ≡ subtrie b
      old_subtrie = ap (λ (z : NodeWords). z.subtrie) here_shown.0

      new_subtrie : (heap.nodes n).subtrie ≡ subtrie (put w r)
      new_subtrie = ap (λ (z : NodeWords). z.subtrie) st.stored

      new_built : IsBuilt (node n x (put w r))
      new_built = (fork_kept_by_put w ts r here_built.0, lower_in_own_subtrie x.height w flat r here_built.1 low, built_in_own_subtrie w flat r here_built.2 hand.built, fit_swap (swap_in_own_subtrie w flat ts r is_tip) x here_built.3)

      built : IsBuilt (put v (node n x (put w r)))
      built = put_built n x b (put w r) v (built_now c law t now) new_built

      not_linked : Links (put w r) (a_node n) → ⊥
      not_linked h =
          elim (linked_after_put w r (a_node n) h) [
            | inl y ↦ not_above c.heap n x b here_built here_shown y
            | inr y ↦ not_higher c.heap n x r hand.built hand.shown low same_x y
          ]

      new_shown : IsShown heap (node n x (put w r))
      new_shown = (
        st.stored ∙ ap (λ z. let y : NodeWords = record { fixed = z; subtrie = subtrie (put w r) } in y) same_x,
        shown_if_same_words c.heap heap (put w r) (λ i h. st.others i (λ z. not_linked (subst (λ y. Links (put w r) (a_node y)) z h))) (λ i h. st.leaves i)
            (shown_in_own_subtrie c.heap w flat r here_shown.1 hand.shown),
      )

      top_new : (e : Option Entry) (f : Option Tree) → IsTop c.heap e f → f ≡ Some t → IsTop heap e (Some (put v (node n x (put w r))))
      top_new None None i h = absurd cc
      top_new None (Some u) i h = elim i [ ]
      top_new (Some y) None i h = absurd cc
      top_new (Some y) (Some u) i h = (
        subtrie_put v (node n x (put w r)) refl ∙ (ap subtrie (sym (some_same h)) ∙ i.0),
        put_shown c.heap heap n x b (put w r) v (trie_now c law t now) (built_now c law t now) (shown_now c law t now) st.others st.leaves new_shown,
      )

      same_fixed : (i : ℕ) → (i ≡ n) ⊎ (i ≢ n) → (c.heap.nodes i).fixed ≡ (heap.nodes i).fixed
      same_fixed i (inl z) = rw z (sym (ap (λ (w : NodeWords). w.fixed) st.stored))
      same_fixed i (inr z) = ap (λ (w : NodeWords). w.fixed) (st.others i z)

      subtries : (i : ℕ) → (i ≡ n) ⊎ (i ≢ n) → ((c.heap.nodes i).subtrie ≡ (heap.nodes i).subtrie) ⊎ Swap (c.heap.nodes i).subtrie (heap.nodes i).subtrie
      subtries i (inr z) = inl (ap (λ (w : NodeWords). w.subtrie) (st.others i z))
      subtries i (inl z) =
          rw z (inr (subst (λ y. Swap y (heap.nodes n).subtrie) (sym old_subtrie) (subst (λ y. Swap (subtrie b) y) (sym new_subtrie) (swap_in_own_subtrie w flat ts r is_tip))))

      kept : (i : ℕ) → (i ≡ n) ⊎ (i ≢ n) → Links (put v (node n x (put w r))) (a_node i) ⊎ (c.heap.nodes i ≡ heap.nodes i)
      kept i (inl z) = inl (links_new v (node n x (put w r)) (a_node i) (inl (ap a_node z)))
      kept i (inr z) = inr (st.others i z)

      links_in : (i : Rec) → Links (put v (node n x (put w r))) i → Links t i ⊎ Links r i
      links_in i h =
          elim (linked_after_put v (node n x (put w r)) i h) [
            | inl y ↦ inl y
            | inr y ↦ elim y [ inl z ↦ inl (links_old v i (inl z)) | inr z ↦ elim (linked_after_put w r i z) [ inl u ↦ inl (links_old v i (inr u)) | inr u ↦ inr u ] ]
          ]

      links_out : (i : Rec) → Links t i → Links (put v (node n x (put w r))) i ⊎ Links s i
      links_out i h =
          elim (linked_before_put v (node n x (put w r)) i h) [
            | inl y ↦ inl y
            | inr y ↦ elim y [ inl z ↦ inl (links_new v (node n x (put w r)) i (inl z)) | inr z ↦ elim (linked_before_put w r i z) [ inl u ↦ inl (links_new v (node n x (put w r)) i (inr u)) | inr u ↦ inr u ] ]
          ]

  -- A store of the root entry under the anchor's lock.
  pub root_legal : (r : Tree) (e : Entry) → subtrie r ≡ Place e → c.anchor ≡ Some q → IsAtHand c q t r → IsTrie r → (ch : Change) → ch.pass ≡ q → IsChange (Some t) ch (Some r) →
      IsVersionPublish c q c.heap (Some e) (Some r) ch
  root_legal r e pg lock hand trie ch z one = root_publish c q lock (Some e) (Some r) ch z (record {
    top = (pg, hand.shown);
    tree = λ u y. subst (λ o. IsTrie o × IsBuilt o) (some_same y) (trie, hand.built);
    comes = comes_now t r r (λ i h. h) (λ i h. inr h) hand;
    goes = goes_now t r r (λ i h. h) (λ i h. inr h) hand;
    change = subst (λ z. IsChange z ch (Some r)) (sym now) one;
  })
