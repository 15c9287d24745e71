-- What stands at a spot whose lock a pass holds, and that the store of something else there is a legal publish.
use Rattle.version_laws.proofs.Common.{◌≡◌, ◌⊎◌, inl, inr, ℕ, List, Option, Some, ap, sym, ◌∙◌, subst, Key, Entry, Leaf, Node, Place, Fixed, Tree, leaf, node, fork, subtrie, IsTrie, IsTip, Within, here, child, seek, with_subtrie, affected, subtrie_affected, IsLowerSubtrie, FirstForkIsBefore, IsTipSubtrie, put, IsPathBelow, built_within, subtrie_child, affected_subtrie, lower_subtrie, lower_positive, subtrie_spot, with_subtrie_entry, Change, Heap, shown_within, IsLawfulState, BareCore, view, Rec, a_leaf, IsVersionPublish, IsChange, IsOneOf}
use Rattle.version_laws.specs.Writer.{IsSubtrieStored}
use Rattle.version_laws.specs.Spots.{IsLockedNode, HoldsSpot, by_anchor, by_node, IsLowAt, subtrie_below, AffectsSpotAloneInCore, IsStoredAt}
use Rattle.version_laws.specs.Statements.{IsPublished}
use Rattle.version_laws.proofs.Writer.AtHand.{IsAtHand}
use Rattle.version_laws.proofs.Paths.{in_body, put_in_body, path_in_body, path_above}
use Rattle.version_laws.proofs.Differing.{published}
use Rattle.version_laws.proofs.Now.{built_now, shown_now, trie_now}
use Rattle.version_laws.proofs.Replaced.{slot_legal, root_legal}
use Rattle.version_laws.proofs.Scan.{node_of}
use Rattle.version_laws.proofs.Standing.{stands_now, root_subtrie, leaf_of, newest_tree_if_node, newest_tree_if_rooted}
use Rattle.version_laws.proofs.Trading.{IsTrade, traded_in_whole}

pub is_tip : (u : Tree) → IsTipSubtrie (subtrie u) → IsTip u
is_tip (leaf n k v) i = tt
is_tip (node n k v) i = tt
is_tip (fork n k v) i = i

-- The tree of the present
pub newest_tree_if_spot_held : (c : BareCore) (q : ℕ) → IsLawfulState (view c) → {k : Key} {d : Entry} → HoldsSpot c q k d → (t : Tree) × (c.past.version c.past.now ≡ Some t)
newest_tree_if_spot_held c q law {d = d} (by_anchor lock root) = newest_tree_if_rooted c law d root
newest_tree_if_spot_held c q law (by_node o locked names) = newest_tree_if_node c law o locked.linked locked.fate

module _ (c : BareCore) (q : ℕ) (law : IsLawfulState (view c)) (t : Tree) (now : c.past.version c.past.now ≡ Some t) where
  -- The tree `u` stands at the spot. Where an insertion affects it alone, the forks above are before `p`. Another tree in its place is a
  -- legal publish, if that makes a bit trie, and tells the change that it makes.
  pub record StandsAt (k : Key) (d : Entry) (s : HoldsSpot c q k d) (u : Tree) : Type 0 where
    pub place : Within u t
    pub shows : subtrie u ≡ Place d
    pub path : (p : ℕ) → (FirstForkIsBefore p (subtrie_below c.heap d) → IsPathBelow p place) → AffectsSpotAloneInCore s p → IsPathBelow p place
    pub legal : (r : Tree) (e : Entry) → subtrie r ≡ Place e → IsLowAt s e → IsAtHand c q u r → IsTrie (put place r) → (ch : Change) → ch.pass ≡ q →
        IsChange (Some t) ch (Some (put place r)) → (heap : Heap) (top : Option Entry) → IsStoredAt s heap top e → IsVersionPublish c q heap top (Some (put place r)) ch

  at_top : (k : Key) (d : Entry) (lock : c.anchor ≡ Some q) (root : c.root ≡ Some d) → StandsAt k d (by_anchor lock root) t
  at_top k d lock root = record {
    place = here;
    shows = root_subtrie c law t now d root;
    path = λ p f one. tt;
    legal = λ r e pg low hand trie ch pass one heap top st.
        subst (λ z. IsVersionPublish c q z top (Some r) ch) (sym st.0) (subst (λ z. IsVersionPublish c q c.heap z (Some r) ch) (sym st.1) (root_legal c q law t now r e pg lock hand trie ch pass one));
  }

  below_top : (k : Key) (d : Entry) (o : ℕ) (locked : IsLockedNode c q o) (names : seek k (c.heap.nodes o).subtrie ≡ d) → (u : Tree) × StandsAt k d (by_node o locked names) u
  below_top k d o locked names =
      let x : Fixed = (c.heap.nodes o).fixed in
      let (b, v, pg) = stands_now c law t now o locked.linked locked.fate in
      let (w, flat, subtries, alone) = subtrie_spot k b in
      let shows : subtrie (child k b) ≡ Place d = subtrie_child k b ∙ ap Place (ap (seek k) pg ∙ names) in
      let tip : IsTip (child k b) = is_tip (child k b) (subst IsTipSubtrie (sym shows) tt) in
      let same : (r : Tree) → put (in_body v w) r ≡ put v (node o x (put w r)) = put_in_body v w in
      let on : (p : ℕ) → IsPathBelow p w → IsPathBelow p (in_body v w) = λ p h.
      path_in_body p v w (path_above p v w tip (built_within v (built_now c law t now)).0 (trie_now c law t now) h) h in (
        child k b,
        record {
          place = in_body v w;
          shows = shows;
          path = λ p f one. elim one [
            | inl h ↦ f h
            | inr h ↦ on p (alone p (is_tip (affected p k b) (subst IsTipSubtrie (ap (subtrie_affected p k) (sym pg) ∙ sym (affected_subtrie p k b)) h)))
          ];
          legal = λ r e z low hand trie ch pass one heap top st.
              let stored : IsSubtrieStored c.heap heap o (subtrie (put w r)) =
              subst (IsSubtrieStored c.heap heap o)
              (sym (with_subtrie_entry k e (c.heap.nodes o).subtrie) ∙ (ap (with_subtrie k (Place e)) (sym pg) ∙ (ap (λ y. with_subtrie k y (subtrie b)) (sym z) ∙ sym (subtries r)))) st.0 in
              subst (λ y. IsVersionPublish c q heap top (Some y) ch) (sym (same r)) (subst (λ y. IsVersionPublish c q heap y (Some (put v (node o x (put w r)))) ch) (sym st.1)
              (slot_legal c q law t now v w flat tip r (is_tip r (subst IsTipSubtrie (sym z) tt)) locked.lock hand (lower_subtrie x.height r (subst (IsLowerSubtrie x.height) (sym z) low))
              (subst IsTrie (same r) trie) heap stored ch pass (subst (λ y. IsChange (Some t) ch (Some y)) (same r) one)));
        },
      )

  stands_at : (k : Key) (d : Entry) (s : HoldsSpot c q k d) → (u : Tree) × StandsAt k d s u
  stands_at k d (by_anchor lock root) = (t, at_top k d lock root)
  stands_at k d (by_node o locked names) = below_top k d o locked names

  -- A node, with a body; and a leaf with its words.
  pub node_at : (k : Key) (n h : ℕ) (s : HoldsSpot c q k (Node n h)) → (y : Fixed) × (b : Tree) × StandsAt k (Node n h) s (node n y b)
  node_at k n h s =
      let (u, at) = stands_at k (Node n h) s in
      let (y, b, is, high) = node_of n h u at.shows in
      (y, b, subst (StandsAt k (Node n h) s) is at)

  pub leaf_at : (k : Key) (j : ℕ) (s : HoldsSpot c q k (Leaf j)) → StandsAt k (Leaf j) s (leaf j (c.heap.leaves j).key (c.heap.leaves j).value)
  leaf_at k j s =
      let (u, at) = stands_at k (Leaf j) s in
      subst (StandsAt k (Leaf j) s) (leaf_of c u (shown_within c.heap at.place (shown_now c law t now)) at.shows) at

  -- A leaf may stand at each spot.
  pub leaf_low : (k : Key) (d : Entry) (s : HoldsSpot c q k d) (n : ℕ) → IsLowAt s (Leaf n)
  leaf_low k d (by_anchor lock root) n = tt
  leaf_low k d (by_node o locked names) n =
      let (b, v, pg) = stands_now c law t now o locked.linked locked.fate in
      lower_positive (c.heap.nodes o).fixed.height b (built_within v (built_now c law t now)).1

  -- The publish, with what it trades.
  pub published_at : (k : Key) (d : Entry) (s : HoldsSpot c q k d) (u : Tree) (at : StandsAt k d s u) (r : Tree) (e : Entry) → subtrie r ≡ Place e → IsLowAt s e → IsAtHand c q u r →
      (n : ℕ) (new gone : List Rec) → IsTrade c q u r new gone → IsOneOf (a_leaf n) new ⊎ IsOneOf (a_leaf n) gone → IsTrie (put at.place r) →
      (ch : Change) → ch.pass ≡ q → IsChange (Some t) ch (Some (put at.place r)) → (heap : Heap) (top : Option Entry) → IsStoredAt s heap top e → IsPublished c heap top ch new gone
  published_at k d s u at r e pg low hand n new gone tr one trie ch pass told heap top st =
      published c q law t now heap top ch (put at.place r) n new gone (at.legal r e pg low hand trie ch pass told heap top st)
      (record { trade = traded_in_whole c.heap at.place r new gone (trie_now c law t now) (built_now c law t now) (shown_now c law t now) tr.trade; ready = tr.ready; apart = tr.apart }) one
