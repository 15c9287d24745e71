-- What a writer has in words makes its publish legal: removals that merge.
use Rattle.version_laws.proofs.Common.{◌≡◌, inl, inr, ℕ, List, [], ◌∷◌, ◌++◌, Bool, true, false, refl, ap, ap₂, sym, ◌∙◌, subst, Some, ◌⊎◌, Key, bit, Entry, Node, Place, Fixed, Tree, leaf, node, fork, subtrie, IsTrie, IsBuilt, Subtrie, Within, here, inside, zero_side, one_side, child, put, IsInOwnSubtrie, IsRemoved, Item, item, fork_of, subtrie_collapsed, subtrie_without, NodeWords, Heap, IsShown, IsLawfulState, Links, BareCore, Ready, view, Rec, a_node, a_leaf, IsOneOf, AreApart, trie_within, built_within, within_trans, shown_within, node_number, not_above, not_beside}
use Rattle.version_laws.specs.Writer.{removed_change}
use Rattle.version_laws.specs.Rise.{IsNewSubtrie, IsEntryFor, alone, in_node, IsLeafOf, IsBesideNode, subtrie_merged, linked_for_entry}
use Rattle.version_laws.specs.Statements.{MergeAtSpot}
use Rattle.version_laws.proofs.Now.{built_now, shown_now, trie_now}
use Rattle.version_laws.proofs.Writer.AtHand.{IsAtHand, IsNewNode}
use Rattle.version_laws.proofs.Writer.Hands.{hand_around, hand_open, hand_put}
use Rattle.version_laws.proofs.Rise.Removal.{removed_in_whole, removed_open}
use Rattle.version_laws.proofs.Standing.{entry_leaf}
use Rattle.version_laws.proofs.Trading.{IsTrade, IsTraded, old_now, traded_in_whole, traded_around, traded_open}
use Rattle.version_laws.proofs.Rise.{new_node}
use Rattle.version_laws.proofs.Spots.{newest_tree_if_spot_held, node_at, published_at}
use Rattle.version_laws.proofs.Rise.Taking.{IsWithout, without}
use Rattle.version_laws.proofs.Beside.{StandBeside, beside_now, bodies_built, bodies_linked, bodies_shown, bodies_trie, first_within, fork_on, second_within, shows_both, two, two_within}

-- Two nodes that are dissolved at once

module _ (m : Heap) (p a d : ℕ) (x y : Fixed) (b e : Tree) (trie : IsTrie (fork p (node a x b) (node d y e))) (built : IsBuilt (fork p (node a x b) (node d y e))) (shown : IsShown m (fork p (node a x b) (node d y e))) where
  not_first : Links (fork p b e) (a_node a) → ⊥
  not_first (inl h) = not_above m a x b built.0 shown.0 h
  not_first (inr h) = not_beside m p (a_node a) (node a x b) (node d y e) trie shown (inl refl) (inr h)

  not_second : Links (fork p b e) (a_node d) → ⊥
  not_second (inl h) = not_beside m p (a_node d) (node a x b) (node d y e) trie shown (inr h) (inl refl)
  not_second (inr h) = not_above m d y e built.1 shown.1 h

  two_apart : a_node a ≡ a_node d → ⊥
  two_apart h = not_beside m p (a_node a) (node a x b) (node d y e) trie shown (inl refl) (inl h)

  traded_both : (r : Tree) (new gone : List Rec) → ¬ (IsOneOf (a_node a) new) → ¬ (IsOneOf (a_node d) new) → IsTraded (fork p b e) r new gone →
      IsTraded (fork p (node a x b) (node d y e)) r new (a_node a ∷ a_node d ∷ gone)
  traded_both r new gone first second t = record { comes = comes; came = t.came; goes = goes; went = went }
    where
      comes : (i : Rec) → Links r i → Links (fork p (node a x b) (node d y e)) i ⊎ IsOneOf i new
      comes i h = elim (t.comes i h) [ inl z ↦ elim z [ inl f ↦ inl (inl (inr f)) | inr f ↦ inl (inr (inr f)) ] | inr z ↦ inr z ]

      left : (i : Rec) → Links (fork p b e) i → Links r i ⊎ IsOneOf i (a_node a ∷ a_node d ∷ gone)
      left i h = elim (t.goes i h) [ inl z ↦ inl z | inr z ↦ inr (inr (inr z)) ]

      goes : (i : Rec) → Links (fork p (node a x b) (node d y e)) i → Links r i ⊎ IsOneOf i (a_node a ∷ a_node d ∷ gone)
      goes i (inl (inl h)) = inr (inl h)
      goes i (inl (inr h)) = left i (inl h)
      goes i (inr (inl h)) = inr (inr (inl h))
      goes i (inr (inr h)) = left i (inr h)

      went : (i : Rec) → IsOneOf i (a_node a ∷ a_node d ∷ gone) → Links (fork p (node a x b) (node d y e)) i × (Links r i → ⊥)
      went i (inl g) = (inl (inl g), λ h. elim (t.comes i h) [ inl z ↦ not_first (subst (Links (fork p b e)) g z) | inr z ↦ first (subst (λ i. IsOneOf i new) g z) ])
      went i (inr (inl g)) = (inr (inl g), λ h. elim (t.comes i h) [ inl z ↦ not_second (subst (Links (fork p b e)) g z) | inr z ↦ second (subst (λ i. IsOneOf i new) g z) ])
      went i (inr (inr g)) = let w = t.went i g in (elim w.0 [ inl f ↦ inl (inr f) | inr f ↦ inr (inr f) ], w.1)

traded_swapped : (s r : Tree) (new gone : List Rec) (i l : Rec) → IsTraded s r new (i ∷ l ∷ gone) → IsTraded s r new (l ∷ i ∷ gone)
traded_swapped s r new gone i l t = record {
  comes = t.comes;
  came = t.came;
  goes = λ n h. elim (t.goes n h) [ inl y ↦ inl y | inr y ↦ inr (turned n i l y) ];
  went = λ n h. t.went n (turned n l i h);
}
  where
    turned : (n i l : Rec) → IsOneOf n (i ∷ l ∷ gone) → IsOneOf n (l ∷ i ∷ gone)
    turned n i l (inl e) = inr (inl e)
    turned n i l (inr (inl e)) = inl e
    turned n i l (inr (inr h)) = inr (inr h)

apart_swapped : (i l : Rec) (gone : List Rec) → AreApart (i ∷ l ∷ gone) → AreApart (l ∷ i ∷ gone)
apart_swapped i l gone (f, (g, h)) = ((λ z. elim z [ inl e ↦ f (inl (sym e)) | inr y ↦ g y ]), ((λ z. f (inr z)), h))

-- What is left

-- The pass has `r` at hand for the place of `s`: `s` without one leaf, with the records `new` and without the records `gone`.
pub record IsLeft (c : BareCore) (q : ℕ) (x : Item) (s r : Tree) (new gone : List Rec) : Type 0 where
  pub less : IsRemoved x s r
  pub hand : IsAtHand c q s r
  pub trade : IsTrade c q s r new gone

module _ (c : BareCore) (q : ℕ) (x : Item) where
  left_whole : {s t : Tree} (w : Within s t) → IsInOwnSubtrie w → (r : Tree) (new gone : List Rec) → IsTrie t → IsBuilt t → IsShown c.heap t → IsLeft c q x s r new gone → IsLeft c q x t (put w r) new gone
  left_whole w own r new gone trie built shown l = record {
    less = removed_in_whole w r x trie l.less;
    hand = hand_put c q w own r built shown l.hand;
    trade = record { trade = traded_in_whole c.heap w r new gone trie built shown l.trade.trade; ready = l.trade.ready; apart = l.trade.apart };
  }

  left_around : (s r : Tree) (m : ℕ) (g : Fixed) (new gone : List Rec) → ¬ (Links s (a_node m)) → IsNewNode c q m g r → IsLeft c q x s r new gone → IsLeft c q x s (node m g r) (a_node m ∷ new) gone
  left_around s r m g new gone fresh made l = record {
    less = record { trie = l.less.trie; less = l.less.less; keys = l.less.keys };
    hand = hand_around c q s r m g l.hand made;
    trade = record { trade = traded_around s r m g new gone fresh l.trade.trade; ready = λ i h. elim h [ inl e ↦ ap c.fate e ∙ made.fate | inr y ↦ l.trade.ready i y ]; apart = l.trade.apart };
  }

  left_open : (n : ℕ) (y : Fixed) (b r : Tree) (new gone : List Rec) → c.lock n ≡ Some q → IsBuilt (node n y b) → IsShown c.heap (node n y b) → ((i : Rec) → Links (node n y b) i → ¬ (c.fate i ≡ Ready q)) →
      IsLeft c q x b r new gone → IsLeft c q x (node n y b) r new (a_node n ∷ gone)
  left_open n y b r new gone lock built shown old l = record {
    less = removed_open b r n y x l.less;
    hand = hand_open c q b r n y l.hand lock;
    trade = record {
      trade = traded_open c.heap b r n y new gone built shown (λ h. old (a_node n) (inl refl) (l.trade.ready (a_node n) h)) l.trade.trade;
      ready = l.trade.ready;
      apart = ((λ h. not_above c.heap n y b built shown (l.trade.trade.went (a_node n) h).0), l.trade.apart);
    };
  }

  hand_both : (p a d : ℕ) (y z : Fixed) (b e r : Tree) → c.lock a ≡ Some q → c.lock d ≡ Some q → IsAtHand c q (fork p b e) r → IsAtHand c q (fork p (node a y b) (node d z e)) r
  hand_both p a d y z b e r first second h = record {
    built = h.built;
    shown = h.shown;
    comes = λ i l. elim (h.comes i l) [ inl f ↦ elim f [ inl g ↦ inl (inl (inr g)) | inr g ↦ inl (inr (inr g)) ] | inr f ↦ inr f ];
    goes = goes;
  }
    where
      goes : (n : ℕ) → Links (fork p (node a y b) (node d z e)) (a_node n) → Links r (a_node n) ⊎ (c.lock n ≡ Some q)
      goes n (inl (inl f)) = inr (ap c.lock (node_number f) ∙ first)
      goes n (inl (inr f)) = h.goes n (inl f)
      goes n (inr (inl f)) = inr (ap c.lock (node_number f) ∙ second)
      goes n (inr (inr f)) = h.goes n (inr f)

  left_both : (p a d : ℕ) (y z : Fixed) (b e r : Tree) (new gone : List Rec) → IsTrie (fork p (node a y b) (node d z e)) → IsBuilt (fork p (node a y b) (node d z e)) → IsShown c.heap (fork p (node a y b) (node d z e)) →
      ((i : Rec) → Links (fork p (node a y b) (node d z e)) i → ¬ (c.fate i ≡ Ready q)) → c.lock a ≡ Some q → c.lock d ≡ Some q →
      IsLeft c q x (fork p b e) r new gone → IsLeft c q x (fork p (node a y b) (node d z e)) r new (a_node a ∷ a_node d ∷ gone)
  left_both p a d y z b e r new gone trie built shown old first second l = record {
    less = record { trie = l.less.trie; less = l.less.less; keys = l.less.keys };
    hand = hand_both p a d y z b e r first second l.hand;
    trade = record {
      trade = traded_both c.heap p a d y z b e trie built shown r new gone (λ h. old (a_node a) (inl (inl refl)) (l.trade.ready (a_node a) h)) (λ h. old (a_node d) (inr (inl refl)) (l.trade.ready (a_node d) h)) l.trade.trade;
      ready = l.trade.ready;
      apart = (
        (λ h. elim h [ inl f ↦ two_apart c.heap p a d y z b e trie built shown f | inr f ↦ not_first c.heap p a d y z b e trie built shown (l.trade.trade.went (a_node a) f).0 ]),
        ((λ h. not_second c.heap p a d y z b e trie built shown (l.trade.trade.went (a_node d) h).0), l.trade.apart),
      );
    };
  }

  -- two nodes on the sides of a fork, the first on the side of the bit
  left_two : (u : Bool) (p a d : ℕ) (y z : Fixed) (b e r : Tree) (new gone : List Rec) → IsTrie (fork_on u p (node a y b) (node d z e)) → IsBuilt (fork_on u p (node a y b) (node d z e)) →
      IsShown c.heap (fork_on u p (node a y b) (node d z e)) → ((i : Rec) → Links (fork_on u p (node a y b) (node d z e)) i → ¬ (c.fate i ≡ Ready q)) → c.lock a ≡ Some q → c.lock d ≡ Some q →
      IsLeft c q x (fork_on u p b e) r new gone → IsLeft c q x (fork_on u p (node a y b) (node d z e)) r new (a_node a ∷ a_node d ∷ gone)
  left_two false p a d y z b e r new gone trie built shown old first second l = left_both p a d y z b e r new gone trie built shown old first second l
  left_two true p a d y z b e r new gone trie built shown old first second l =
      let both = left_both p d a z y e b r new gone trie built shown old second first l in record {
        less = both.less;
        hand = both.hand;
        trade = record {
          trade = traded_swapped (fork p (node d z e) (node a y b)) r new gone (a_node d) (a_node a) both.trade.trade;
          ready = both.trade.ready;
          apart = apart_swapped (a_node d) (a_node a) gone both.trade.apart;
        };
      }

  -- a part on the side of the bit
  left_side : (u : Bool) (p : ℕ) (b s e : Tree) (new gone : List Rec) → IsTrie (fork_on u p b e) → IsBuilt (fork_on u p b e) → IsShown c.heap (fork_on u p b e) → IsLeft c q x b s new gone →
      IsLeft c q x (fork_on u p b e) (fork_on u p s e) new gone
  left_side false p b s e new gone trie built shown l = left_whole (zero_side here) tt s new gone trie built shown l
  left_side true p b s e new gone trie built shown l = left_whole (one_side here) tt s new gone trie built shown l

-- The node above, with the two below one fork of it

-- What is left of a body, with its subtrie.
abbrev IsLeftAs : BareCore → ℕ → Item → Tree → Subtrie → List Rec → List Rec → Type 0
IsLeftAs c q x s p new gone = (r : Tree) × (subtrie r ≡ p) × IsLeft c q x s r new gone

-- The entry for it, in place of the node with that body.
entry_left : (c : BareCore) (q : ℕ) (x : Item) (n : ℕ) (y : Fixed) (b : Tree) (p : Subtrie) (new gone : List Rec) → c.lock n ≡ Some q → IsBuilt (node n y b) → IsShown c.heap (node n y b) →
    ((i : Rec) → Links (node n y b) i → ¬ (c.fate i ≡ Ready q)) → IsLeftAs c q x b p new gone → (e : Entry) (i : IsEntryFor c q p e) →
    IsLeftAs c q x (node n y b) (Place e) (linked_for_entry i ++ new) (a_node n ∷ gone)
entry_left c q x n y b p new gone lock built shown old (r, pg, l) e (alone d z) = (r, pg ∙ z, left_open c q x n y b r new gone lock built shown old l)
entry_left c q x n y b p new gone lock built shown old (r, pg, l) e (in_node m g i) = (
  node m g r,
  refl,
  left_open c q x n y b (node m g r) (a_node m ∷ new) gone lock built shown old
      (left_around c q x b r m g new gone (λ h. old (a_node m) (inr h) i.fate) (new_node c q m g r p pg i) l),
)

module _ (c : BareCore) (q : ℕ) (law : IsLawfulState (view c)) (k : Key) (n j : ℕ) (seen : IsLeafOf c q k n j) (o m : ℕ) (b : IsBesideNode c q k o n m) (t : Tree) (now : c.past.version c.past.now ≡ Some t) where
  abbrev gone_item : Item
  gone_item = item j k (c.heap.leaves j).value

  here_beside : (y : Fixed) (d : Tree) → Within (node o y d) t → StandBeside k d b.position n m
  here_beside y d v = beside_now c law t now k o n m b.height b.position b.other_height b.entry b.sibling y d v

  module _ (y : Fixed) (d : Tree) (v : Within (node o y d) t) (st : StandBeside k d b.position n m) where
    two_in : Within (two st) t
    two_in = two_within st v

    two_trie : IsTrie (two st)
    two_trie = trie_within two_in (trie_now c law t now)

    two_built : IsBuilt (two st)
    two_built = built_within two_in (built_now c law t now)

    two_shown : IsShown c.heap (two st)
    two_shown = shown_within c.heap two_in (shown_now c law t now)

    lower_in : Within (node n st.fixed st.lower) t
    lower_in = within_trans (first_within (bit k b.position) b.position (node n st.fixed st.lower) (node m st.fixed_too st.other)) two_in

    lower_without : IsWithout c q k j (c.heap.leaves j).value st.lower
    lower_without =
        let built = built_within lower_in (built_now c law t now) in
        let old : child k st.lower ≡ leaf j k (c.heap.leaves j).value = entry_leaf c law t now lower_in k j seen.entry ∙ ap (λ z. leaf j z (c.heap.leaves j).value) seen.key in
        without c q k j (c.heap.leaves j).value st.lower built.0 old (trie_within (within_trans (inside here) lower_in) (trie_now c law t now)) built.2 (shown_within c.heap lower_in (shown_now c law t now)).1

    -- the lower node without the leaf
    lower_left : IsLeftAs c q gone_item st.lower (subtrie_without k (c.heap.nodes n).subtrie) [] (a_leaf j ∷ [])
    lower_left =
        let words : (c.heap.nodes n).subtrie ≡ subtrie st.lower = ap (λ (w : NodeWords). w.subtrie) (shown_within c.heap lower_in (shown_now c law t now)).0 in
        let (s, pg, less, hand, trade) = lower_without in
        (s, pg ∙ ap (subtrie_without k) (sym words), record { less = less; hand = hand; trade = record { trade = trade; ready = λ i h. absurd h; apart = ((λ h. absurd h), tt) } })

    -- and the other one beside it
    bodies_left : IsLeftAs c q gone_item (fork_on (bit k b.position) b.position st.lower st.other) (subtrie_merged c q k o n m b) [] (a_leaf j ∷ [])
    bodies_left =
        let (s, pg, l) = lower_left in
        let words : (c.heap.nodes m).subtrie ≡ subtrie st.other = ap (λ (w : NodeWords). w.subtrie)
        (shown_within c.heap (second_within (bit k b.position) b.position (node n st.fixed st.lower) (node m st.fixed_too st.other)) two_shown).0 in (
          fork_on (bit k b.position) b.position s st.other,
          shows_both (bit k b.position) b.position s st.other ∙ ap₂ (λ x y. fork_of (bit k b.position) b.position x y) pg (sym words),
          left_side c q gone_item (bit k b.position) b.position st.lower s st.other [] (a_leaf j ∷ [])
              (bodies_trie (bit k b.position) b.position n m st.fixed st.fixed_too st.lower st.other two_trie)
              (bodies_built (bit k b.position) b.position n m st.fixed st.fixed_too st.lower st.other two_built)
              (bodies_shown c.heap (bit k b.position) b.position n m st.fixed st.fixed_too st.lower st.other two_shown) l,
        )

    module _ (z : ℕ) (g : Fixed) (new : IsNewSubtrie c q z g (subtrie_merged c q k o n m b)) where
      -- one new node in place of both
      two_left : IsLeftAs c q gone_item (two st) (Place (Node z g.height)) (a_node z ∷ []) (a_node n ∷ a_node m ∷ a_leaf j ∷ [])
      two_left =
          let (r, pg, l) = bodies_left in
          let old = old_now c q law t now two_in in (
            node z g r,
            refl,
            left_two c q gone_item (bit k b.position) b.position n m st.fixed st.fixed_too st.lower st.other (node z g r) (a_node z ∷ []) (a_leaf j ∷ []) two_trie two_built two_shown old seen.lock b.locked_too
                (left_around c q gone_item (fork_on (bit k b.position) b.position st.lower st.other) r z g [] (a_leaf j ∷ [])
                (λ h. old (a_node z) (bodies_linked (bit k b.position) b.position n m st.fixed st.fixed_too st.lower st.other (a_node z) h) new.fate)
                (new_node c q z g r (subtrie_merged c q k o n m b) pg new) l),
          )

      -- and what that leaves of the body above
      body_left : IsLeftAs c q gone_item d (subtrie_collapsed k (Node z g.height) (c.heap.nodes o).subtrie) (a_node z ∷ []) (a_node n ∷ a_node m ∷ a_leaf j ∷ [])
      body_left =
          let (r, pg, l) = two_left in
          let w = within_trans (inside here) v in
          let words : (c.heap.nodes o).subtrie ≡ subtrie d = ap (λ (w : NodeWords). w.subtrie) (shown_within c.heap v (shown_now c law t now)).0 in (
            put st.last.place r,
            st.last.closed (Node z g.height) r pg ∙ ap (subtrie_collapsed k (Node z g.height)) (sym words),
            left_whole c q gone_item st.last.place st.last.own r (a_node z ∷ []) (a_node n ∷ a_node m ∷ a_leaf j ∷ [])
                (trie_within w (trie_now c law t now)) (built_within w (built_now c law t now)) (shown_within c.heap w (shown_now c law t now)) l,
          )

  -- What the new nodes show are subtries of lawful trees.
  pub merged_tree : (y : Fixed) (d : Tree) → Within (node o y d) t → (s : Tree) × (subtrie s ≡ subtrie_merged c q k o n m b) × IsTrie s × IsBuilt s
  merged_tree y d v = let (r, pg, l) = bodies_left y d v (here_beside y d v) in (r, pg, l.less.trie, l.hand.built)

  pub collapsed_tree : (y : Fixed) (d : Tree) → Within (node o y d) t → (z : ℕ) (g : Fixed) → IsNewSubtrie c q z g (subtrie_merged c q k o n m b) →
      (s : Tree) × (subtrie s ≡ subtrie_collapsed k (Node z g.height) (c.heap.nodes o).subtrie) × IsTrie s × IsBuilt s
  collapsed_tree y d v z g new = let (r, pg, l) = body_left y d v (here_beside y d v) z g new in (r, pg, l.less.trie, l.hand.built)

  pub merged_now : (y : Fixed) (d : Tree) → Within (node o y d) t → (z : ℕ) (g : Fixed) → IsNewSubtrie c q z g (subtrie_merged c q k o n m b) →
      (e : Entry) (i : IsEntryFor c q (subtrie_collapsed k (Node z g.height) (c.heap.nodes o).subtrie) e) →
      IsLeftAs c q gone_item (node o y d) (Place e) (linked_for_entry i ++ a_node z ∷ []) (a_node o ∷ a_node n ∷ a_node m ∷ a_leaf j ∷ [])
  merged_now y d v z g new e i =
      entry_left c q gone_item o y d (subtrie_collapsed k (Node z g.height) (c.heap.nodes o).subtrie) (a_node z ∷ []) (a_node n ∷ a_node m ∷ a_leaf j ∷ [])
      b.locked (built_within v (built_now c law t now)) (shown_within c.heap v (shown_now c law t now)) (old_now c q law t now v) (body_left y d v (here_beside y d v) z g new) e i

-- At the spot of the node above.
pub merge_at_spot : MergeAtSpot
merge_at_spot c q law k n j seen o m b z g new h e i s low heap root st =
    let (t, now) = newest_tree_if_spot_held c q law s in
    let (y, d, at) = node_at c q law t now k o h s in
    let (r, pg, l) = merged_now c q law k n j seen o m b t now y d at.place z g new e i in
    let x = item j k (c.heap.leaves j).value in
    let whole = removed_in_whole at.place r x (trie_now c law t now) l.less in
    published_at c q law t now k (Node o h) s (node o y d) at r e pg low l.hand j (linked_for_entry i ++ a_node z ∷ []) (a_node o ∷ a_node n ∷ a_node m ∷ a_leaf j ∷ [])
    l.trade (inr (inr (inr (inr (inl refl))))) whole.trie (removed_change q x) refl (j, whole.less) heap root st
