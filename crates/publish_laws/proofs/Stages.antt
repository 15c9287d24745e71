-- What holds in each core in which a writer's records are made, from their words and those of its locks.
pub mod Valuing
use Rattle.publish_laws.proofs.Common.{◌≡◌, inl, inr, ℕ, ◌+◌, ◌-◌, ◌*◌, ◌<◌, ◌≤◌, List, length, set, Some, refl, sym, ap, ap₂, subst, ◌∙◌, arith, All, Entry, Leaf, Node, NodeView, StandsBelow, height_of, piece, MAX_BYTES, Place, Fork, size, places, Layout, HasEntryWord, entry_word, Key, Fixed, Subtrie, first_position, Item, spot, with_entry, subtrie_affected, IsLowerSubtrie, IsTipSubtrie, FirstForkIsBefore, seek, spot_below, a_node, a_leaf, NodeWords, IsNewLeaf, IsSubtrieStored, IsLockedNode, IsNewSubtrie, IsUpper, Slot, Known, Locked, node_words_of, leaf_of, IsPacked, Core, IsLawful, IsPastFilling, bare, heap_of, IsPackedAt, IsLockedAt, stored_words, IsLocked, IsOwned, Knows, knows_all, recalls, node_is, IsOneOf, of_left, of_right, all_of, map_of, node_used, Made, held_as, node_number, leaf_node, size-piece}
use Rattle.partial_keys.specs.Shows.{ShowsPiece}
use Rattle.record_words.specs.Node.{HasNodeWords, node_words}
use Rattle.record_words.specs.Leaf.{up_to_key}
use Rattle.versions.proofs.Core.{same_rec_refl}
use Rattle.rowex_core.specs.declared.known.Holding.TheVariants.{Ready}
use Rattle.rowex_core.proofs.Reading.Leafing.{leaf_is}
use Rattle.rowex_core.proofs.Cores.Publishing.{other_words}
use Rattle.rowex_core.proofs.Writers.Slots.{slot_is_stored}
use Rattle.publish_laws.specs.Stages.{HasReady, HasLeaf, IsLockedAbove, IsStage}

abbrev pub node_fixed : NodeView → Fixed
node_fixed v = record { height = v.height; columns = v.columns; rows = v.rows }

not_tip : (p : Subtrie) → 2 ≤ size p → IsTipSubtrie p → ⊥
not_tip (Place e) h t = omega arith
not_tip (Fork q a b) h t = t

lower_subtrie_from : (h : ℕ) (p : Subtrie) → ((e : Entry) → IsOneOf e (places p) → height_of e < h) → IsLowerSubtrie h p
lower_subtrie_from h (Place (Leaf n)) f = f (Leaf n) (inl refl)
lower_subtrie_from h (Place (Node n g)) f = f (Node n g) (inl refl)
lower_subtrie_from h (Fork q x y) f = (lower_subtrie_from h x (λ e i. f e (of_left e (places x) (places y) i)), lower_subtrie_from h y (λ e i. f e (of_right e (places x) (places y) i)))

-- an entry that is lower than a node may stand in it
below_stands : (h : ℕ) (e : Entry) → h ≤ 65535 → HasEntryWord (Some e) → IsLowerSubtrie h (Place e) → StandsBelow h e
below_stands h (Leaf n) top word low = (tt, low)
below_stands h (Node n g) top word low = ((omega (arith, word.1), omega arith), low)

module _ (layout : Layout) (k : Known) (held : List Locked) (news : List Made) (c : Core) (stage : IsStage layout k held news c) where
  -- Locked nodes

  pub locked_node : (n : ℕ) (words : List ℕ) → IsOneOf (record { node = n; words = words }) held → IsLockedNode (bare c) k.pass n × ((bare c).heap.nodes n ≡ node_words_of words)
  locked_node n words h =
      let (lock, tree, same) = stage.locks (record { node = n; words = words }) h in
      (record { lock = lock; linked = tree.0; fate = tree.1 }, ap node_words_of same)

  -- the store of an entry at the key's place of a locked node
  pub slot_store : (o j w : ℕ) (words : List ℕ) (key : Key) (e : Entry) → IsOneOf (record { node = o; words = words }) held → spot key (node_words_of words).subtrie ≡ j → HasEntryWord (Some e) → entry_word (Some e) ≡ w →
      IsLowerSubtrie (node_words_of words).fixed.height (Place e) →
      IsPackedAt c (Slot o j) w × IsSubtrieStored (heap_of c.words) (heap_of (stored_words c (Slot o j) w)) o (with_entry (node_words_of (c.words (a_node o))).subtrie (spot key (node_words_of (c.words (a_node o))).subtrie) e) ×
      IsLowerSubtrie (node_words_of (c.words (a_node o))).fixed.height (Place e) × IsLockedAt c k.pass (Slot o j)
  unfolding IsPacked
  slot_store o j w words key e h at fits is low =
      let (lock, tree, same) = stage.locks (record { node = o; words = words }) h in
      let now : node_words_of (c.words (a_node o)) ≡ node_words_of words = ap node_words_of same in
      let sized = stage.lawful.records.sized (a_node o) in
      let (view, has, spells) = stage.lawful.records.packed (a_node o) (subst IsPastFilling (sym tree.1) tt) in
      let is_node = node_is view (c.words (a_node o)) sized.1 has spells in
      let view_subtrie : (node_words_of words).subtrie ≡ piece view = ap (λ (z : NodeWords). z.subtrie) (sym now ∙ is_node) in
      let view_height : (node_words_of words).fixed.height ≡ view.height = ap (λ (z : NodeWords). z.fixed.height) (sym now ∙ is_node) in
      let inside : j < length view.entries = subst (λ i. i < length view.entries) at
      (subst (λ q. spot key (node_words_of words).subtrie < q) (size-piece view has.lawful) (subst (λ (q : Subtrie). spot key (node_words_of words).subtrie < size q) view_subtrie (spot_below key (node_words_of words).subtrie))) in
      let stands : StandsBelow view.height e = below_stands view.height e has.lawful.bound fits (subst (λ z. IsLowerSubtrie z (Place e)) view_height low) in
      let offset : 26 + j - 1 ≡ 25 + j = omega arith in
      let here : stored_words c (Slot o j) w (a_node o) ≡ set (c.words (a_node o)) (25 + j) (entry_word (Some e)) =
      rw (same_rec_refl (a_node o)) (ap₂ (λ i z. set (c.words (a_node o)) i z) offset (sym is)) in
      let (new_has, new_spells, after) = slot_is_stored view (c.words (a_node o)) has spells sized.1 j e inside fits stands in
      let place : j ≡ spot key (node_words_of (c.words (a_node o))).subtrie = sym at ∙ ap (λ (z : NodeWords). spot key z.subtrie) (sym now) in (
        subst (IsPacked (a_node o)) (sym here) (record view { entries = set view.entries j e }, new_has, new_spells),
        record {
          others = λ i ne. ap node_words_of (sym (other_words c o j w (a_node i) (λ z. ne (node_number z))));
          leaves = λ i. ap leaf_of (sym (other_words c o j w (a_leaf i) leaf_node));
          stored = ap node_words_of here ∙ (after ∙ ap (λ i. let s : NodeWords = record { fixed = (node_words_of (c.words (a_node o))).fixed; subtrie = with_entry (node_words_of (c.words (a_node o))).subtrie i e } in s) place);
        },
        subst (λ (z : NodeWords). IsLowerSubtrie z.fixed.height (Place e)) (sym now) low,
        (node_used c stage.lawful o tree, omega (arith, has.lawful.room), lock),
      )

  -- a locked node above another one
  pub upper_in : (key : Key) (p o n : ℕ) → IsLockedAbove held key p o n → IsUpper (bare c) k.pass key p o n
  upper_in key p o n a =
      let (on, upper) = locked_node o a.upper a.has_upper in
      let (below, lower) = locked_node n a.lower a.has_lower in
      record {
        locked = on;
        height = a.height;
        entry = ap (λ (z : NodeWords). seek key z.subtrie) upper ∙ a.entry;
        path = elim a.path [
          | inl h ↦ inl (subst (λ (z : NodeWords). FirstForkIsBefore p z.subtrie) (sym lower) h)
          | inr h ↦ inr (subst (λ (z : NodeWords). IsTipSubtrie (subtrie_affected p key z.subtrie)) (sym upper) h)
        ];
      }

  -- New records

  pub made_leaf : (x : Item) → HasLeaf news x → IsNewLeaf (bare c) k.pass x
  made_leaf x (fresh, h, spelled) =
      let (fate, words) = stage.made (record { rec = a_leaf x.number; words = fresh }) h in
      record { key = spelled.0.key; fate = fate; words = leaf_is (x.key, x.value) (c.words (a_leaf x.number)) spelled.0 (spelled.1 ∙ ap up_to_key (sym words)) }

  pub made_node : (m : ℕ) (view : NodeView) → IsOneOf (record { rec = a_node m; words = node_words view }) news → HasNodeWords view → view.height + first_position (piece view) ≤ 9 * MAX_BYTES →
      IsNewSubtrie (bare c) k.pass m (node_fixed view) (piece view)
  made_node m view h has bound =
      let (fate, words) = stage.made (record { rec = a_node m; words = node_words view }) h in
      let l = has.lawful in
      record {
        fate = fate;
        words = node_is view (c.words (a_node m)) (stage.lawful.records.sized (a_node m)).1 has (sym words);
        two = not_tip (piece view) (omega (arith, size-piece view l, l.several));
        lower = lower_subtrie_from view.height (piece view) (λ e i. all_of (λ e. height_of e < view.height) e (places (piece view)) (subst (All (λ e. height_of e < view.height)) l.shows.entries_are l.above) i);
        fit = record {
          positions = l.positions;
          shows = subst (λ es. ShowsPiece view.columns view.rows es (piece view)) l.shows.entries_are l.shows;
          room = omega (arith, size-piece view l, l.room);
          bound = bound;
        };
      }

-- a core of which all that the pass knows is true is a stage
pub stage_of : (layout : Layout) (k : Known) (held : List Locked) (news : List Made) → HasReady k held news →
    (c : Core) → IsLawful c → c.layout ≡ layout → Knows c k → IsStage layout k held news c
stage_of layout k held news has c law at known = record {
  lawful = law;
  layout_is = at;
  recalls = recalls c k known;
  locks = λ l i. all_of (IsLocked k.pass c) l k.locks (knows_all c k known).locks (subst (IsOneOf l) (sym has.locks) i);
  made = λ m i. all_of (IsOwned k.pass c) (held_as Ready m) k.own (knows_all c k known).own (subst (IsOneOf (held_as Ready m)) (sym has.own) (map_of (held_as Ready) m news i));
}
