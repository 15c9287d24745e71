-- What a writer has in words makes its publish legal: removals.
use Rattle.version_laws.proofs.Common.{◌≡◌, inl, inr, ℕ, List, [], ◌∷◌, Bool, true, false, refl, ap, sym, ◌∙◌, subst, Some, None, if◌then◌else◌, Key, bit, Entry, Leaf, Node, Place, Fork, Fixed, Tree, leaf, node, fork, subtrie, IsTrie, IsFork, IsBuilt, Subtrie, Within, here, inside, zero_side, one_side, child, IsRemoved, subtrie_without, NodeWords, Heap, IsShown, IsLawfulState, Links, BareCore, Ready, InTree, view, Rec, a_node, a_leaf, trie_within, built_within, within_trans, shown_within, node_leaf, HasTraded, item, not_beside}
use Rattle.version_laws.specs.Writer.{removed_change}
use Rattle.version_laws.specs.Rise.{IsNewSubtrie, IsEntryFor, alone, in_node, IsLeafOf, linked_for_entry}
use Rattle.version_laws.proofs.Now.{built_now, shown_now, trie_now}
use Rattle.version_laws.proofs.Writer.Hands.{hand_around, hand_open, hand_put}
use Rattle.version_laws.proofs.Rise.Removal.{removed_zero, removed_one, removed_in_whole, removed_marks, removed_open, hand_zero, hand_one, remove_last}
use Rattle.version_laws.proofs.Standing.{stands_now, entry_leaf, root_leaf, newest_tree_if_rooted}
use Rattle.version_laws.proofs.Trading.{IsTrade, old_now, traded_in_whole, traded_around, traded_open, IsTraded}
use Rattle.version_laws.proofs.Rise.{new_node}
use Rattle.version_laws.proofs.Spots.{newest_tree_if_spot_held, node_at, published_at}
use Rattle.version_laws.proofs.Differing.{trade_differs}
use Rattle.version_laws.specs.Statements.{RemoveAtSpot, RemoveLast}
use Rattle.version_laws.proofs.Writer.AtHand.{IsAtHand}

-- A body without one of its leaves: what is left, its subtrie, that the pass has it at hand, and that the leaf alone goes.
abbrev pub IsWithout : BareCore → ℕ → Key → ℕ → ℕ → Tree → Type 0
IsWithout c q k j a b = (s : Tree) × (subtrie s ≡ subtrie_without k (subtrie b)) × IsRemoved (item j k a) b s × IsAtHand c q b s × IsTraded b s [] (a_leaf j ∷ [])

-- a fork without one side, a leaf
side_one : (m : Heap) (p j : ℕ) (k : Key) (a : ℕ) (x : Tree) → IsTrie (fork p x (leaf j k a)) → IsShown m (fork p x (leaf j k a)) → IsTraded (fork p x (leaf j k a)) x [] (a_leaf j ∷ [])
side_one m p j k a x i h = record {
  comes = λ r l. inl (inl l);
  came = λ r l. absurd l;
  goes = λ r l. elim l [ inl y ↦ inl y | inr e ↦ inr (inl e) ];
  went = λ r l. elim l [ inl e ↦ (inr e, λ o. not_beside m p r x (leaf j k a) i h o e) | inr y ↦ absurd y ];
}

side_zero : (m : Heap) (p j : ℕ) (k : Key) (a : ℕ) (x : Tree) → IsTrie (fork p (leaf j k a) x) → IsShown m (fork p (leaf j k a) x) → IsTraded (fork p (leaf j k a) x) x [] (a_leaf j ∷ [])
side_zero m p j k a x i h = record {
  comes = λ r l. inl (inr l);
  came = λ r l. absurd l;
  goes = λ r l. elim l [ inl e ↦ inr (inl e) | inr y ↦ inl y ];
  went = λ r l. elim l [ inl e ↦ (inl e, λ o. not_beside m p r (leaf j k a) x i h e o) | inr y ↦ absurd y ];
}

module _ (c : BareCore) (q : ℕ) (k : Key) (j a : ℕ) where
  without_one : (p : ℕ) (x y : Tree) → bit k p ≡ true → child k y ≡ leaf j k a → IsTrie (fork p x y) → IsBuilt (fork p x y) → IsShown c.heap (fork p x y) →
      (IsFork y → IsWithout c q k j a y) → IsWithout c q k j a (fork p x y)
  without_one p x (leaf n l v) e f i b h rest =
      let z : leaf n l v ≡ leaf j k a = f in (
        x,
        rw e refl,
        subst (λ y. IsRemoved (item j k a) (fork p x y) x) (sym z) (removed_one p j k a x i.0),
        subst (λ y. IsAtHand c q (fork p x y) x) (sym z) (hand_one c q p j k a x b.0 h.0),
        subst (λ y. IsTraded (fork p x y) x [] (a_leaf j ∷ [])) (sym z) (side_one c.heap p j k a x (subst (λ y. IsTrie (fork p x y)) z i) (subst (λ y. IsShown c.heap (fork p x y)) z h)),
      )
  without_one p x (node n l v) e f i b h rest = absurd (let z : node n l v ≡ leaf j k a = f in cc)
  without_one p x (fork n l v) e f i b h rest =
      let (s, pg, r, d, tr) = rest tt in
      (fork p x s, rw e (ap (Fork p (subtrie x)) pg), removed_in_whole (one_side here) s (item j k a) i r, hand_put c q (one_side here) tt s b h d, traded_in_whole c.heap (one_side here) s [] (a_leaf j ∷ []) i b h tr)

  without_zero : (p : ℕ) (x y : Tree) → bit k p ≡ false → child k x ≡ leaf j k a → IsTrie (fork p x y) → IsBuilt (fork p x y) → IsShown c.heap (fork p x y) →
      (IsFork x → IsWithout c q k j a x) → IsWithout c q k j a (fork p x y)
  without_zero p (leaf n l v) y e f i b h rest =
      let z : leaf n l v ≡ leaf j k a = f in (
        y,
        rw e refl,
        subst (λ x. IsRemoved (item j k a) (fork p x y) y) (sym z) (removed_zero p j k a y i.1),
        subst (λ x. IsAtHand c q (fork p x y) y) (sym z) (hand_zero c q p j k a y b.1 h.1),
        subst (λ x. IsTraded (fork p x y) y [] (a_leaf j ∷ [])) (sym z) (side_zero c.heap p j k a y (subst (λ x. IsTrie (fork p x y)) z i) (subst (λ x. IsShown c.heap (fork p x y)) z h)),
      )
  without_zero p (node n l v) y e f i b h rest = absurd (let z : node n l v ≡ leaf j k a = f in cc)
  without_zero p (fork n l v) y e f i b h rest =
      let (s, pg, r, d, tr) = rest tt in
      (fork p s y, rw e (ap (λ z. Fork p z (subtrie y)) pg), removed_in_whole (zero_side here) s (item j k a) i r, hand_put c q (zero_side here) tt s b h d, traded_in_whole c.heap (zero_side here) s [] (a_leaf j ∷ []) i b h tr)

  pub without : (b : Tree) → IsFork b → child k b ≡ leaf j k a → IsTrie b → IsBuilt b → IsShown c.heap b → IsWithout c q k j a b
  without (leaf n l v) f e i o h = absurd f
  without (node n l v) f e i o h = absurd f
  without (fork p x y) f e i o h = go (bit k p) refl e (λ g z. without x g z i.0 o.0 h.0) (λ g z. without y g z i.1 o.1 h.1)
    where
      go : (u : Bool) → bit k p ≡ u → (if u then child k y else child k x) ≡ leaf j k a → (IsFork x → child k x ≡ leaf j k a → IsWithout c q k j a x) →
          (IsFork y → child k y ≡ leaf j k a → IsWithout c q k j a y) → IsWithout c q k j a (fork p x y)
      go true g z l r = without_one p x y g z i o h (λ w. r w z)
      go false g z l r = without_zero p x y g z i o h (λ w. l w z)

-- What is left of a locked node, in the place of its entry.
abbrev MayStandLeft : BareCore → ℕ → Key → ℕ → ℕ → ℕ → Entry → Tree → List Rec → Type 0
MayStandLeft c q k j a n e u new = (s : Tree) × (subtrie s ≡ Place e) × IsRemoved (item j k a) u s × IsAtHand c q u s × IsTrade c q u s new (a_node n ∷ a_leaf j ∷ [])

pub same_entry : (c : BareCore) (q : ℕ) (p r : Subtrie) → p ≡ r → (e : Entry) (i : IsEntryFor c q p e) → (z : IsEntryFor c q r e) × (linked_for_entry z ≡ linked_for_entry i)
same_entry c q p r g e (alone d z) = (alone d (sym g ∙ z), refl)
same_entry c q p r g e (in_node m f z) = (in_node m f (subst (λ p. IsNewSubtrie c q m f p) g z), refl)

left_over : (c : BareCore) (q : ℕ) (k : Key) (j a n : ℕ) (y : Fixed) (b : Tree) (e : Entry) → c.lock n ≡ Some q → (i : IsEntryFor c q (subtrie_without k (subtrie b)) e) → ((i : Rec) → Links (node n y b) i → ¬ (c.fate i ≡ Ready q)) →
    IsBuilt (node n y b) → IsShown c.heap (node n y b) → IsWithout c q k j a b → MayStandLeft c q k j a n e (node n y b) (linked_for_entry i)
left_over c q k j a n y b e lock (alone d z) old built shown (s, pg, r, h, tr) = (
  s,
  pg ∙ z,
  removed_open b s n y (item j k a) r,
  hand_open c q b s n y h lock,
  record {
    trade = traded_open c.heap b s n y [] (a_leaf j ∷ []) built shown (λ h. absurd h) tr;
    ready = λ i h. absurd h;
    apart = ((λ h. elim h [ inl e ↦ node_leaf e | inr x ↦ absurd x ]), ((λ h. absurd h), tt));
  },
)
left_over c q k j a n y b e lock (in_node m g i) old built shown (s, pg, r, h, tr) = (
  node m g s,
  refl,
  removed_marks b s n m y g (item j k a) r,
  hand_open c q b (node m g s) n y (hand_around c q b s m g h (new_node c q m g s (subtrie_without k (subtrie b)) pg i)) lock,
  record {
    trade = traded_open c.heap b (node m g s) n y (a_node m ∷ []) (a_leaf j ∷ []) built shown
        (λ h. elim h [ inl e ↦ old (a_node n) (inl refl) (ap c.fate e ∙ i.fate) | inr x ↦ absurd x ])
        (traded_around b s m g [] (a_leaf j ∷ []) (λ h. old (a_node m) (inr h) i.fate) tr);
    ready = λ r h. elim h [ inl e ↦ ap c.fate e ∙ i.fate | inr x ↦ absurd x ];
    apart = ((λ h. elim h [ inl e ↦ node_leaf e | inr x ↦ absurd x ]), ((λ h. absurd h), tt));
  },
)

module _ (c : BareCore) (q : ℕ) (law : IsLawfulState (view c)) (k : Key) (n j : ℕ) (seen : IsLeafOf c q k n j) (t : Tree) (now : c.past.version c.past.now ≡ Some t) where
  -- what is left of the node is the subtrie of a lawful tree
  pub left_tree : (f : ℕ) → c.fate (a_node n) ≡ InTree f → (s : Tree) × (subtrie s ≡ subtrie_without k (c.heap.nodes n).subtrie) × IsTrie s × IsBuilt s
  left_tree f fate =
      let (b, v, pg) = stands_now c law t now n f fate in
      let shown = shown_within c.heap v (shown_now c law t now) in
      let built = built_within v (built_now c law t now) in
      let old : child k b ≡ leaf j k (c.heap.leaves j).value =
      entry_leaf c law t now v k j seen.entry ∙ ap (λ z. leaf j z (c.heap.leaves j).value) seen.key in
      let what = without c q k j (c.heap.leaves j).value b built.0 old (trie_within (within_trans (inside here) v) (trie_now c law t now)) built.2 shown.1 in
      (what.0, what.1 ∙ ap (subtrie_without k) pg, what.2.trie, what.3.built)

  left_now : (e : Entry) (i : IsEntryFor c q (subtrie_without k (c.heap.nodes n).subtrie) e) → (y : Fixed) (b : Tree) → Within (node n y b) t →
      MayStandLeft c q k j (c.heap.leaves j).value n e (node n y b) (linked_for_entry i)
  left_now e i y b v =
      let shown = shown_within c.heap v (shown_now c law t now) in
      let pg : (c.heap.nodes n).subtrie ≡ subtrie b = ap (λ (w : NodeWords). w.subtrie) shown.0 in
      let built = built_within v (built_now c law t now) in
      let old : child k b ≡ leaf j k (c.heap.leaves j).value =
      entry_leaf c law t now v k j seen.entry ∙ ap (λ z. leaf j z (c.heap.leaves j).value) seen.key in
      let what = without c q k j (c.heap.leaves j).value b built.0 old (trie_within (within_trans (inside here) v) (trie_now c law t now)) built.2 shown.1 in
      let (z, news) = same_entry c q (subtrie_without k (c.heap.nodes n).subtrie) (subtrie_without k (subtrie b)) (ap (subtrie_without k) pg) e i in
      subst (λ us. MayStandLeft c q k j (c.heap.leaves j).value n e (node n y b) us) news (left_over c q k j (c.heap.leaves j).value n y b e seen.lock z (old_now c q law t now v) built shown what)

-- At the spot of the node.
pub remove_at_spot : RemoveAtSpot
remove_at_spot c q law k n j seen h e i s low heap root st =
    let (t, now) = newest_tree_if_spot_held c q law s in
    let (y, b, at) = node_at c q law t now k n h s in
    let (r, pg, gone, hand, tr) = left_now c q law k n j seen t now e i y b at.place in
    let x = item j k (c.heap.leaves j).value in
    let whole = removed_in_whole at.place r x (trie_now c law t now) gone in
    published_at c q law t now k (Node n h) s (node n y b) at r e pg low hand j (linked_for_entry i) (a_node n ∷ a_leaf j ∷ []) tr (inr (inr (inl refl))) whole.trie (removed_change q x) refl (j, whole.less) heap root st

-- The one leaf: the index is empty then.
pub remove_only : RemoveLast
remove_only c q law j lock root = record {
  tree = None;
  legal = remove_last c q law t now j (c.heap.leaves j).key (c.heap.leaves j).value is lock;
  differs = trade_differs (c.past.version c.past.now) None [] (a_leaf j ∷ []) j trade (inr (inl refl));
  trade = trade;
}
  where
    t : Tree
    t = (newest_tree_if_rooted c law (Leaf j) root).0

    now : c.past.version c.past.now ≡ Some t
    now = (newest_tree_if_rooted c law (Leaf j) root).1

    is : t ≡ leaf j (c.heap.leaves j).key (c.heap.leaves j).value
    is = root_leaf c law t now j root

    trade : HasTraded (c.past.version c.past.now) None [] (a_leaf j ∷ [])
    trade = subst (λ z. HasTraded z None [] (a_leaf j ∷ [])) (sym (now ∙ ap Some is)) (record {
      comes = λ i h. absurd h;
      came = λ i h. absurd h;
      goes = λ i h. inr (inl h);
      went = λ i h. elim h [ inl e ↦ (e, λ o. o) | inr y ↦ absurd y ];
      apart = ((λ h. absurd h), tt);
    })
