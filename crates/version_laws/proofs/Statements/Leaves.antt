-- What a writer has in words makes its publish legal: a pair of leaves, an upsert, and the first key.
use Rattle.version_laws.proofs.Common.{◌≡◌, ◌≢◌, inl, inr, ℕ, [], ◌∷◌, Bool, true, false, refl, ap, sym, subst, Some, None, IsKey, Key, bit, AgreeBelow, Leaf, Node, Place, Tree, leaf, node, subtrie, IsTrie, IsBuilt, Item, item, IsAdded, subtrie_forked, a_node, a_leaf, trie_within, grown_subtrie, differ_first_through, grown, added_here, added_in_whole, exchanged_leaf, exchanged_in_whole, shown_within, HasTraded}
use Rattle.version_laws.specs.Writer.{added_change, replaced_change}
use Rattle.version_laws.proofs.Now.{shown_now, trie_now}
use Rattle.version_laws.proofs.Writer.Hands.{hand_around, hand_grown, hand_leaf, hand_stay, added_around}
use Rattle.version_laws.proofs.Spots.{StandsAt, newest_tree_if_spot_held, leaf_at, leaf_low, published_at}
use Rattle.version_laws.proofs.Rise.Insertions.{first_key}
use Rattle.version_laws.proofs.Standing.{now_empty}
use Rattle.version_laws.proofs.Trading.{grown_trade, around_trade, leaf_trade}
use Rattle.version_laws.proofs.Differing.{trade_differs}
use Rattle.version_laws.proofs.Rise.{new_node}
use Rattle.version_laws.specs.Statements.{PairAtSpot, UpsertAtSpot, FirstKey}

-- A leaf with a new one beside it, from whose key its own differs first at `p`.
pair_added : (x : Item) (p j a : ℕ) (k : Key) → IsKey x.key → IsKey k → AgreeBelow p x.key k → bit x.key p ≢ bit k p → IsAdded x p (leaf j k a) (grown (bit x.key p) p (leaf j k a) x)
pair_added x p j a k is_x is_k agree differ =
    added_here (leaf j k a) x p is_k is_x (λ y h. differ_first_through p x.key k y agree differ (λ r i. ap (λ o. bit o r) (sym h)) (ap (λ o. bit o p) (sym h)))

-- What a leaf and a new one make in a node of their own is the subtrie of a lawful tree.
pub pair_tree : (x : Item) (p j a : ℕ) (k : Key) → IsKey x.key → IsKey k → AgreeBelow p x.key k → bit x.key p ≢ bit k p →
    (s : Tree) × (subtrie s ≡ subtrie_forked (bit x.key p) p (Leaf x.number) (Place (Leaf j))) × IsTrie s × IsBuilt s
pair_tree x p j a k is_x is_k agree differ = (
  grown (bit x.key p) p (leaf j k a) x,
  grown_subtrie (bit x.key p) p (leaf j k a) x,
  (pair_added x p j a k is_x is_k agree differ).trie,
  both (bit x.key p),
)
  where
    both : (u : Bool) → IsBuilt (grown u p (leaf j k a) x)
    both false = (tt, tt)
    both true = (tt, tt)

-- A new node of the two, at the leaf's spot.
pub pair_at_spot : PairAtSpot
pair_at_spot c q law x p new j m g s alone agree differ subtrie_made low heap root st =
    let (t, now) = newest_tree_if_spot_held c q law s in
    let k : Key = (c.heap.leaves j).key in
    let a : ℕ = (c.heap.leaves j).value in
    let u : Tree = leaf j k a in
    let at = leaf_at c q law t now x.key j s in
    let both : Tree = grown (bit x.key p) p u x in
    let node_made = new_node c q m g both _ (grown_subtrie (bit x.key p) p u x) subtrie_made in
    let trie = trie_within at.place (trie_now c law t now) in
    let hand = hand_around c q u both m g (hand_grown c q (bit x.key p) p u u x (hand_stay c q u tt (shown_within c.heap at.place (shown_now c law t now))) new.fate new.words) node_made in
    let adds = added_around u both m g x p (pair_added x p j a k new.key trie agree differ) in
    let trade = around_trade c q law t now u both m g (a_leaf x.number ∷ []) [] at.place subtrie_made.fate (grown_trade c q law t now x p new u at.place) in
    let whole = added_in_whole at.place (node m g both) x p (trie_now c law t now) (at.path p (λ h. absurd h) alone) adds in
    published_at c q law t now x.key (Leaf j) s u at (node m g both) (Node m g.height) refl low hand x.number (a_node m ∷ a_leaf x.number ∷ []) [] trade (inl (inr (inl refl)))
    whole.trie (added_change q x) refl (x.number, whole.more) heap root st

-- Another leaf of the key, at the leaf's spot.
pub upsert_at_spot : UpsertAtSpot
upsert_at_spot c q law x new j s same heap root st =
    let (t, now) = newest_tree_if_spot_held c q law s in
    let a : ℕ = (c.heap.leaves j).value in
    let at : StandsAt c q law t now x.key (Leaf j) s (leaf j x.key a) = subst (λ k. StandsAt c q law t now x.key (Leaf j) s (leaf j k a)) same (leaf_at c q law t now x.key j s) in
    let r : Tree = leaf x.number x.key x.value in
    let whole = exchanged_in_whole at.place r (item j x.key a) x (trie_now c law t now) (exchanged_leaf j x.number x.key a x.value new.key) in
    published_at c q law t now x.key (Leaf j) s (leaf j x.key a) at r (Leaf x.number) refl (leaf_low c q law t now x.key (Leaf j) s x.number) (hand_leaf c q j x.number x.key x.key a x.value new.fate new.words) x.number
    (a_leaf x.number ∷ []) (a_leaf j ∷ []) (leaf_trade c q law t now j x.key a x at.place new) (inl (inl refl)) whole.trie (replaced_change q x) refl (x.number, (item j x.key a, refl, whole.exchange)) heap root st

-- The first key.
pub first_root : FirstKey
first_root c q law x lock root new = record {
  tree = Some new_leaf;
  legal = first_key c q law now x lock new;
  differs = trade_differs (c.past.version c.past.now) (Some new_leaf) (a_leaf x.number ∷ []) [] x.number trade (inl (inl refl));
  trade = trade;
}
  where
    new_leaf : Tree
    new_leaf = leaf x.number x.key x.value

    now : c.past.version c.past.now ≡ None
    now = now_empty c law root

    trade : HasTraded (c.past.version c.past.now) (Some new_leaf) (a_leaf x.number ∷ []) []
    trade = subst (λ z. HasTraded z (Some new_leaf) (a_leaf x.number ∷ []) []) (sym now) (record {
      comes = λ i h. inr (inl h);
      came = λ i h. elim h [ inl e ↦ (e, λ o. absurd o) | inr y ↦ absurd y ];
      goes = λ i h. absurd h;
      went = λ i h. absurd h;
      apart = tt;
    })
