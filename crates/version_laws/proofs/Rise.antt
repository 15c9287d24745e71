-- What a writer has in words makes its publish legal: insertions.
pub mod Growing
pub mod Insertions
pub mod Merging
pub mod Removal
pub mod Taking
use Rattle.version_laws.proofs.Common.{◌≡◌, ◌⊎◌, inl, inr, ℕ, List, [], ◌∷◌, ◌++◌, refl, ap, ap₂, sym, ◌∙◌, subst, arith, Some, le-ltb, Key, bit, Entry, Leaf, Node, Place, Fork, Fixed, Subtrie, Tree, leaf, node, fork, subtrie, Has, IsTrie, IsFork, Within, here, inside, IsFit, IsBuilt, child, put, IsPathBelow, IsInOwnSubtrie, with_subtrie, affected, IsLeafOrFork, subtrie_affected, subtrie_forked, subtrie_grown, IsLeafOrForkSubtrie, IsLowerSubtrie, FirstForkIsBefore, IsTipSubtrie, NodeWords, IsShown, FirstForkIsFrom, IsLawfulState, Links, BareCore, view, Ready, trie_within, built_within, within_trans, affected_subtrie, part_subtrie, part_place, lower_subtrie, place_subtrie, grown_subtrie, grown, shown_within, added_in_whole, IsSpot, subtrie_spot, a_node, a_leaf, IsOneOf, Rec, of_append, of_left, of_right}
use Rattle.version_laws.specs.Writer.{added_change, IsNewLeaf, IsFoundBelow, Newcomer}
use Rattle.version_laws.specs.Rise.{IsNewSubtrie, IsEntryFor, alone, in_node, IsUpper, Side, body, entry, IsRise, grows, pulls, copies, halves, stays_whole, wraps, linked_for_entry, linked_by_rise, unlinked_by_rise}
use Rattle.version_laws.proofs.Now.{built_now, shown_now, trie_now}
use Rattle.version_laws.proofs.Paths.{path_rises_node}
use Rattle.version_laws.proofs.Rise.Insertions.{with_leaf, part_of}
use Rattle.version_laws.proofs.Rise.Growing.{growth_around, growth_open, growth_cut, growth_leaf, growth_beside, pulled}
use Rattle.version_laws.proofs.Standing.{entry_node}
use Rattle.version_laws.proofs.Trading.{IsTrade, old_now, traded_in_whole, grown_trade, open_trade, around_trade}
use Rattle.version_laws.proofs.Spots.{is_tip, newest_tree_if_spot_held, node_at, published_at}
use Rattle.version_laws.specs.Statements.{InsertAtSpot}
use Rattle.version_laws.proofs.Writer.AtHand.{IsNewNode, IsHalf, one, many, IsGrowth}

-- A subtrie's shape is that of its tree.
fork_of_subtrie : (u : Tree) → (IsTipSubtrie (subtrie u) → ⊥) → IsFork u
fork_of_subtrie (leaf n k v) f = f tt
fork_of_subtrie (node n k v) f = f tt
fork_of_subtrie (fork n k v) f = tt

abbrev pub IsForkOf : ℕ → Subtrie → Subtrie → Tree → Type 0
IsForkOf f a b u = (s : Tree) × (r : Tree) × (u ≡ fork f s r) × (subtrie s ≡ a) × (subtrie r ≡ b)

pub fork_parts : (u : Tree) (f : ℕ) (a b : Subtrie) → subtrie u ≡ Fork f a b → IsForkOf f a b u
fork_parts (leaf n k v) f a b e = absurd cc
fork_parts (node n k v) f a b e = absurd cc
fork_parts (fork q s r) f a b e = let z : q ≡ f = cc in (s, r, ap (λ n. fork n s r) z, cc, cc)

pub new_node : (c : BareCore) (q m : ℕ) (g : Fixed) (r : Tree) (x : Subtrie) → subtrie r ≡ x → IsNewSubtrie c q m g x → IsNewNode c q m g r
new_node c q m g r x e i = record {
  fate = i.fate;
  words = i.words ∙ ap (λ z. let s : NodeWords = record { fixed = g; subtrie = z } in s) (sym e);
  two = fork_of_subtrie r (λ z. i.two (subst IsTipSubtrie e z));
  lower = lower_subtrie g.height r (subst (IsLowerSubtrie g.height) (sym e) i.lower);
  fit = subst (IsFit g) (sym e) i.fit;
}

-- The whole body is affected where `p` is not above its first fork.
whole_affected : (p : ℕ) (k : Key) (b : Tree) → IsFork b → FirstForkIsFrom p (subtrie b) → affected p k b ≡ b
whole_affected p k (leaf n l v) f i = absurd f
whole_affected p k (node n x b) f i = absurd f
whole_affected p k (fork q a b) f i = rw (le-ltb q p i) refl

-- a side of a cut body
record IsHalfNew (c : BareCore) (q : ℕ) (d a : Tree) (new : List Rec) : Type 0 where
  comes : (n : Rec) → Links a n → Links d n ⊎ IsOneOf n new
  came : (n : Rec) → IsOneOf n new → Links a n
  goes : (n : Rec) → Links d n → Links a n
  ready : (n : Rec) → IsOneOf n new → c.fate n ≡ Ready q

-- A side of a cut body with the entry for it.
half_trade : (c : BareCore) (q : ℕ) (x : Subtrie) (d : Entry) (i : IsEntryFor c q x d) (s : Tree) → subtrie s ≡ x → (u : Tree) × (subtrie u ≡ Place d) × IsHalf c q s u × IsHalfNew c q s u (linked_for_entry i)
half_trade c q x d (alone a e) s z = (
  s,
  z ∙ e,
  one (is_tip s (subst IsTipSubtrie (sym (z ∙ e)) tt)),
  record { comes = λ n h. inl h; came = λ n h. absurd h; goes = λ n h. h; ready = λ n h. absurd h },
)
half_trade c q x d (in_node m g i) s z = (
  node m g s,
  refl,
  many m g (new_node c q m g s x z i),
  record {
    comes = λ n h. elim h [ inl e ↦ inr (inl e) | inr y ↦ inl y ];
    came = λ n h. elim h [ inl e ↦ inl e | inr y ↦ absurd y ];
    goes = λ n h. inr h;
    ready = λ n h. elim h [ inl e ↦ ap c.fate e ∙ i.fate | inr y ↦ absurd y ];
  },
)

-- the cut: what was linked on either side is, with the new nodes
cut_trade : (c : BareCore) (q : ℕ) (s : Tree) (f : ℕ) (d e a b : Tree) (new gone us vs : List Rec) → ((n : Rec) → Links s n → ¬ (c.fate n ≡ Ready q)) → IsTrade c q s (fork f d e) new gone →
    IsHalfNew c q d a us → IsHalfNew c q e b vs → IsTrade c q s (fork f a b) (us ++ (vs ++ new)) gone
cut_trade c q s f d e a b new gone us vs old t u v = record {
  trade = record {
    comes = λ n h. elim h [
      | inl y ↦ elim (u.comes n y) [ inl z ↦ from n (inl z) | inr z ↦ inr (of_left n us (vs ++ new) z) ]
      | inr y ↦ elim (v.comes n y) [ inl z ↦ from n (inr z) | inr z ↦ inr (of_right n us (vs ++ new) (of_left n vs new z)) ]
    ];
    came = λ n h. elim (of_append n us (vs ++ new) h) [
      | inl y ↦ inl (u.came n y)
      | inr y ↦ elim (of_append n vs new y) [ inl z ↦ inr (v.came n z) | inr z ↦ on n (t.trade.came n z) ]
    ];
    goes = λ n h. elim (t.trade.goes n h) [ inl y ↦ inl (on n y) | inr y ↦ inr y ];
    went = λ n h. (let w = t.trade.went n h in (
      w.0,
      λ o. elim o [
        | inl y ↦ elim (u.comes n y) [ inl z ↦ w.1 (inl z) | inr z ↦ old n w.0 (u.ready n z) ]
        | inr y ↦ elim (v.comes n y) [ inl z ↦ w.1 (inr z) | inr z ↦ old n w.0 (v.ready n z) ]
      ],
    ));
  };
  apart = t.apart;
  ready = λ n h. elim (of_append n us (vs ++ new) h) [
    | inl y ↦ u.ready n y
    | inr y ↦ elim (of_append n vs new y) [ inl z ↦ v.ready n z | inr z ↦ t.ready n z ]
  ];
}
  where
    on : (n : Rec) → Links d n ⊎ Links e n → Links a n ⊎ Links b n
    on n (inl y) = inl (u.goes n y)
    on n (inr y) = inr (v.goes n y)

    from : (n : Rec) → Links d n ⊎ Links e n → Links s n ⊎ IsOneOf n (us ++ (vs ++ new))
    from n h = elim (t.trade.comes n h) [ inl y ↦ inl y | inr y ↦ inr (of_right n us (vs ++ new) (of_right n vs new y)) ]

-- The forks above a node whose first fork is before `p` are so too.
first_path : (p : ℕ) {n : ℕ} {y : Fixed} {d : Tree} (b : Tree) (w : Within (node n y b) d) → IsTrie d → FirstForkIsBefore p (subtrie b) → IsPathBelow p w
first_path p (leaf a k s) w i h = absurd h
first_path p (node a k s) w i h = absurd h
first_path p (fork a k s) w i h = path_rises_node w i (omega arith)

-- The node of which a rise tells, and the part of it in whose place something comes.
abbrev pub number_of : Side → ℕ
number_of (body n) = n
number_of (entry n) = n

abbrev part_of_node : Side → Fixed → Tree → Tree
part_of_node (body n) y b = b
part_of_node (entry n) y b = node n y b

module _ (c : BareCore) (q : ℕ) (law : IsLawfulState (view c)) (t : Tree) (now : c.past.version c.past.now ≡ Some t) (x : Newcomer)
    (new : IsNewLeaf c q x.item) where
  words_of : {n : ℕ} {y : Fixed} {b : Tree} → Within (node n y b) t → c.heap.nodes n ≡ record { fixed = y; subtrie = subtrie b }
  words_of v = (shown_within c.heap v (shown_now c law t now)).0

  subtrie_of : {n : ℕ} {y : Fixed} {b : Tree} → Within (node n y b) t → (c.heap.nodes n).subtrie ≡ subtrie b
  subtrie_of v = ap (λ (w : NodeWords). w.subtrie) (words_of v)

  part_here : {n : ℕ} {y : Fixed} {b : Tree} → Within (node n y b) t → IsLeafOrForkSubtrie (subtrie_affected x.mismatch x.item.key (c.heap.nodes n).subtrie) → IsLeafOrFork (affected x.mismatch x.item.key b)
  part_here {b = b} v i = part_subtrie (affected x.mismatch x.item.key b) (subst IsLeafOrForkSubtrie (ap (subtrie_affected x.mismatch x.item.key) (subtrie_of v) ∙ sym (affected_subtrie x.mismatch x.item.key b)) i)

  -- Node `n` as it stands in the body of the locked node `o` above it, and the way to it.
  abbrev IsChild : Tree → ℕ → Type 0
  IsChild d n = (y : Fixed) × (b : Tree) × (w : Within (node n y b) d) × IsInOwnSubtrie w × IsPathBelow x.mismatch w × ((r : Tree) → subtrie (put w r) ≡ with_subtrie x.item.key (subtrie r) (subtrie d))

  child_of : {o n : ℕ} {z : Fixed} {d : Tree} → Within (node o z d) t → IsUpper c q x.item.key x.mismatch o n → IsChild d n
  child_of {o} {n} {z} {d} v u = go (entry_node c law t now v x.item.key n u.height u.entry)
    where
      go : (y : Fixed) × (b : Tree) × (child x.item.key d ≡ node n y b) × (c.heap.nodes n ≡ record { fixed = y; subtrie = subtrie b }) → IsChild d n
      go (y, b, f, w) = (y, b, at.0, at.1, path u.path, at.2)
        where
          at : IsSpot x.item.key d (node n y b)
          at = subst (IsSpot x.item.key d) f (subtrie_spot x.item.key d)

          trie_d : IsTrie d
          trie_d = trie_within (within_trans (inside here) v) (trie_now c law t now)

          path : FirstForkIsBefore x.mismatch (c.heap.nodes n).subtrie ⊎ IsTipSubtrie (subtrie_affected x.mismatch x.item.key (c.heap.nodes o).subtrie) → IsPathBelow x.mismatch at.0
          path (inl h) = first_path x.mismatch b at.0 trie_d (subst (FirstForkIsBefore x.mismatch) (ap (λ (z : NodeWords). z.subtrie) w) h)
          path (inr h) = at.3 x.mismatch (is_tip (affected x.mismatch x.item.key d) (subst IsTipSubtrie (ap (subtrie_affected x.mismatch x.item.key) (subtrie_of v) ∙ sym (affected_subtrie x.mismatch x.item.key d)) h))

  -- What the rise of a node is the subtrie of: a tree in the place of its body, or of its entry; and what it trades.
  abbrev HasRisen : Side → Subtrie → List Rec → List Rec → Type 0
  HasRisen d r us gs =
      (y : Fixed) (b : Tree) → Within (node (number_of d) y b) t → (s : Tree) × (subtrie s ≡ r) × IsGrowth c q x.item x.mismatch (part_of_node d y b) s × IsTrade c q (part_of_node d y b) s us gs

  -- The node is locked.
  rise_locked : (d : Side) (r : Subtrie) → IsRise c q x d r → c.lock (number_of d) ≡ Some q
  rise_locked d r (grows n found i) = found.lock
  rise_locked d r (pulls k n s u i) = u.locked.lock
  rise_locked d r (copies n s m g i z) = rise_locked (body n) s i
  rise_locked d r (halves n f a b e h i u v) = rise_locked (body n) (Fork f a b) i
  rise_locked d r (stays_whole n found i) = found.lock
  rise_locked d r (wraps n s m g i z) = rise_locked (entry n) s i

  trie_in : {s : Tree} → Within s t → IsTrie s
  trie_in w = trie_within w (trie_now c law t now)

  built_in : {s : Tree} → Within s t → IsBuilt s
  built_in w = built_within w (built_now c law t now)

  shown_in : {s : Tree} → Within s t → IsShown c.heap s
  shown_in w = shown_within c.heap w (shown_now c law t now)

  part_trade : {n : ℕ} {y : Fixed} (b : Tree) → Within (node n y b) t →
      IsTrade c q (affected x.mismatch x.item.key b) (grown (bit x.item.key x.mismatch) x.mismatch (affected x.mismatch x.item.key b) x.item) (a_leaf x.item.number ∷ []) []
  part_trade b v = grown_trade c q law t now x.item x.mismatch new (affected x.mismatch x.item.key b) (within_trans (part_place x.mismatch x.item.key b).0 (within_trans (inside here) v))

  rise_grows : (n : ℕ) → IsFoundBelow c q x n → IsLeafOrForkSubtrie (subtrie_affected x.mismatch x.item.key (c.heap.nodes n).subtrie) →
      HasRisen (body n) (subtrie_grown x.mismatch x.item.key (Leaf x.item.number) (c.heap.nodes n).subtrie) (a_leaf x.item.number ∷ []) []
  rise_grows n found i y b v = (
    with_leaf x.item x.mismatch b,
    place_subtrie x.mismatch x.item b ∙ ap (subtrie_grown x.mismatch x.item.key (Leaf x.item.number)) (sym (subtrie_of v)),
    growth_leaf c q law t now x new v found (part_here v i),
    record {
      trade = traded_in_whole c.heap (part_place x.mismatch x.item.key b).0 (grown (bit x.item.key x.mismatch) x.mismatch (affected x.mismatch x.item.key b) x.item) (a_leaf x.item.number ∷ []) [] (trie_in (within_trans (inside here) v)) (built_in (within_trans (inside here) v)) (shown_in (within_trans (inside here) v))
          (part_trade b v).trade;
      ready = (part_trade b v).ready;
      apart = tt;
    },
  )

  rise_pulls : (o n : ℕ) (r : Subtrie) (us gs : List Rec) → IsUpper c q x.item.key x.mismatch o n → HasRisen (entry n) r us gs → HasRisen (body o) (with_subtrie x.item.key r (c.heap.nodes o).subtrie) us gs
  rise_pulls o n r us gs u f z d v =
      let (y, b, w, flat, path, subtries) = child_of v u in
      let (s, e, a, tr) = f y b (within_trans w (within_trans (inside here) v)) in (
        put w s,
        subtries s ∙ (ap (λ z. with_subtrie x.item.key z (subtrie d)) e ∙ ap (with_subtrie x.item.key r) (sym (subtrie_of v))),
        pulled c q law t now x new v w flat path s a,
        record {
          trade = traded_in_whole c.heap w s us gs (trie_in (within_trans (inside here) v)) (built_in (within_trans (inside here) v)) (shown_in (within_trans (inside here) v)) tr.trade;
          ready = tr.ready;
          apart = tr.apart;
        },
      )

  rise_copies : (n : ℕ) (r : Subtrie) (m : ℕ) (g : Fixed) (us gs : List Rec) → c.lock n ≡ Some q → HasRisen (body n) r us gs → IsNewSubtrie c q m g r → HasRisen (entry n) (Place (Node m g.height)) (a_node m ∷ us) (a_node n ∷ gs)
  rise_copies n r m g us gs lock f i y b v =
      let (s, e, a, tr) = f y b v in (
        node m g s,
        refl,
        growth_open c q x.item x.mismatch b (node m g s) n y (growth_around c q x.item x.mismatch b s m g a (new_node c q m g s r e i)) lock,
        open_trade c q law t now v (node m g s) (a_node m ∷ us) gs (around_trade c q law t now b s m g us gs (within_trans (inside here) v) i.fate tr),
      )

  rise_halves : (n f : ℕ) (a b : Subtrie) (d e : Entry) (us gs : List Rec) → c.lock n ≡ Some q → HasRisen (body n) (Fork f a b) us gs → (i : IsEntryFor c q a d) (j : IsEntryFor c q b e) →
      HasRisen (entry n) (Fork f (Place d) (Place e)) (linked_for_entry i ++ (linked_for_entry j ++ us)) (a_node n ∷ gs)
  rise_halves n f a b d e us gs lock h i j y o v =
      let (s, z, k, tr) = h y o v in
      let (u, w, is, pu, pw) = fork_parts s f a b z in
      let (u', eu, hu, nu) = half_trade c q a d i u pu in
      let (w', ew, hw, nw) = half_trade c q b e j w pw in (
        fork f u' w',
        ap₂ (Fork f) eu ew,
        growth_open c q x.item x.mismatch o (fork f u' w') n y (growth_cut c q x.item x.mismatch o f u w u' w' (subst (IsGrowth c q x.item x.mismatch o) is k) hu hw) lock,
        open_trade c q law t now v (fork f u' w') (linked_for_entry i ++ (linked_for_entry j ++ us)) gs
            (cut_trade c q o f u w u' w' us gs (linked_for_entry i) (linked_for_entry j) (old_now c q law t now (within_trans (inside here) v)) (subst (λ z. IsTrade c q o z us gs) is tr) nu nw),
      )

  rise_whole : (n : ℕ) → IsFoundBelow c q x n → FirstForkIsFrom x.mismatch (c.heap.nodes n).subtrie →
      HasRisen (entry n) (subtrie_forked (bit x.item.key x.mismatch) x.mismatch (Leaf x.item.number) (Place (Node n (c.heap.nodes n).fixed.height))) (a_leaf x.item.number ∷ []) []
  rise_whole n found i y b v =
      let two : IsFork b = (built_within v (built_now c law t now)).0 in
      let whole : affected x.mismatch x.item.key b ≡ b = whole_affected x.mismatch x.item.key b two (subst (FirstForkIsFrom x.mismatch) (subtrie_of v) i) in
      let height : y.height ≡ (c.heap.nodes n).fixed.height = ap (λ (w : NodeWords). w.fixed.height) (sym (words_of v)) in (
        grown (bit x.item.key x.mismatch) x.mismatch (node n y b) x.item,
        grown_subtrie (bit x.item.key x.mismatch) x.mismatch (node n y b) x.item ∙ ap (λ h. subtrie_forked (bit x.item.key x.mismatch) x.mismatch (Leaf x.item.number) (Place (Node n h))) height,
        growth_beside c q law t now x new v found (subst IsLeafOrFork (sym whole) (part_of b two)) v (λ k h. subst (λ u. Has u k) (sym whole) h),
        grown_trade c q law t now x.item x.mismatch new (node n y b) v,
      )

  rise_wraps : (n : ℕ) (r : Subtrie) (m : ℕ) (g : Fixed) (us gs : List Rec) → HasRisen (entry n) r us gs → IsNewSubtrie c q m g r → HasRisen (entry n) (Place (Node m g.height)) (a_node m ∷ us) gs
  rise_wraps n r m g us gs f i y b v =
      let (s, e, a, tr) = f y b v in (node m g s, refl, growth_around c q x.item x.mismatch (node n y b) s m g a (new_node c q m g s r e i), around_trade c q law t now (node n y b) s m g us gs v i.fate tr)

  -- The fold over the path.
  pub risen : (d : Side) (r : Subtrie) (i : IsRise c q x d r) → HasRisen d r (linked_by_rise i) (unlinked_by_rise i)
  risen d r (grows n found i) = rise_grows n found i
  risen d r (pulls k n s u i) = rise_pulls k n s (linked_by_rise i) (unlinked_by_rise i) u (risen (entry n) s i)
  risen d r (copies n s m g i z) = rise_copies n s m g (linked_by_rise i) (unlinked_by_rise i) (rise_locked (body n) s i) (risen (body n) s i) z
  risen d r (halves n f a b e h i u v) = rise_halves n f a b e h (linked_by_rise i) (unlinked_by_rise i) (rise_locked (body n) (Fork f a b) i) (risen (body n) (Fork f a b) i) u v
  risen d r (stays_whole n found i) = rise_whole n found i
  risen d r (wraps n s m g i z) = rise_wraps n s m g (linked_by_rise i) (unlinked_by_rise i) (risen (entry n) s i) z

-- The new leaf is among the records of a rise.
pub leaf_linked_by_rise : {c : BareCore} {q : ℕ} {x : Newcomer} {d : Side} {r : Subtrie} (i : IsRise c q x d r) → IsOneOf (a_leaf x.item.number) (linked_by_rise i)
leaf_linked_by_rise (grows n found i) = inl refl
leaf_linked_by_rise (pulls o n r u i) = leaf_linked_by_rise i
leaf_linked_by_rise (copies n r m g i z) = inr (leaf_linked_by_rise i)
leaf_linked_by_rise {x = x} (halves n f a b d e i u v) = of_right (a_leaf x.item.number) (linked_for_entry u) (linked_for_entry v ++ linked_by_rise i) (of_right (a_leaf x.item.number) (linked_for_entry v) (linked_by_rise i) (leaf_linked_by_rise i))
leaf_linked_by_rise (stays_whole n found i) = inl refl
leaf_linked_by_rise (wraps n r m g i z) = inr (leaf_linked_by_rise i)

-- The publish, at the spot of the node.
pub insert_at_spot : InsertAtSpot
insert_at_spot c q law x new n h e i s only low heap root st =
    let (t, now) = newest_tree_if_spot_held c q law s in
    let (y, b, at) = node_at c q law t now x.item.key n h s in
    let (r, pg, a, tr) = risen c q law t now x new (entry n) (Place e) i y b at.place in
    let first : FirstForkIsBefore x.mismatch (c.heap.nodes n).subtrie → IsPathBelow x.mismatch at.place = λ f. first_path x.mismatch b at.place (trie_now c law t now) (subst (FirstForkIsBefore x.mismatch) (ap (λ (z : NodeWords). z.subtrie) (shown_within c.heap at.place (shown_now c law t now)).0) f) in
    let whole = added_in_whole at.place r x.item x.mismatch (trie_now c law t now) (at.path x.mismatch first only) a.adds in
    published_at c q law t now x.item.key (Node n h) s (node n y b) at r e pg low a.hand x.item.number (linked_by_rise i) (unlinked_by_rise i) tr (inl (leaf_linked_by_rise i)) whole.trie (added_change q x.item) refl (x.item.number, whole.more) heap root st
