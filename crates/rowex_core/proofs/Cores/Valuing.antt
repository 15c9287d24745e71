-- The value of a leaf is stored: what the words say then, and the versions.
use Rattle.rowex_core.proofs.Common.{◌≡◌, ◌≢◌, ◌⊎◌, inl, inr, ℕ, ◌+◌, ◌<◌, ◌^◌, List, [], ◌∷◌, ◌&&◌, length, set, get_or, Bool, true, false, eqb, refl, sym, ap, ◌∙◌, subst, arith, lit<, le_refl, ◌≤◌, Option, Some, None, All, All-weaker, false≢true, cases_Bool, ne_eqb, eq-eqb, eqb-true, get_or-set_same, get_or-set_other, drop-set-lt, Entry, Leaf, size, entry_at, Layout, up_to_key, IsLeafOf, leaf_words_parts, up_to_key_before, up_to_key_size, spells_up_to_key, Tree, IsTrie, IsBuilt, Rec, a_node, a_leaf, Fate, Free, Held, Ready, InTree, Unlinked, Marked, life_of, NodeWords, Heap, IsTop, IsLinked, IsLived, Links, Spans, is_linked, next_fate, same_rec, in_root, in_node, IsNextVersion, IsVersionPublish, linked_cases, same_rec_true, within_links, HasTraded, NamerNow, namer_now, named_in_tree, in_tree_if_linked, then_, value_publish, value_trade}
use Rattle.tries.proofs.Read.{some_injective as some_same}
use Rattle.versions.proofs.Read.{read_exact}
use Rattle.versions.proofs.Heap.Revalued.{IsValueStored, revalued, links_before, links_revalued, namer_links}
use Rattle.rowex_core.specs.declared.event.Spot.{Spot}
use Rattle.rowex_core.specs.declared.event.Spot.TheVariants.{Root, Slot, Value}
use Rattle.rowex_core.specs.Reading.{leaf_of, node_words_of, IsPacked}
use Rattle.rowex_core.specs.declared.known.Loaded.{Loaded}
use Rattle.rowex_core.specs.declared.known.Locked.{Locked}
use Rattle.rowex_core.specs.Cores.{Core, IsLawful, bare, heap_of}
use Rattle.rowex_core.specs.Events.{IsLegalPublish, IsLockedAt, IsInTree, MayStoreAt, with_word, stored_words, next_tree, tree_of, value_change}
use Rattle.rowex_core.specs.Knowing.{IsStillLoaded}
use Rattle.rowex_core.specs.Sharing.{Share, share, is_by, is_in_tree, anchored_at, locked}
use Rattle.rowex_core.proofs.Sharing.{by_itself, is_by_true}

-- The words of one leaf

module _ (words : List ℕ) (w : ℕ) where
  later : (i : ℕ) → i ≢ 0 → get_or (set words 0 w) i 0 ≡ get_or words i 0
  later i ne = get_or-set_other words 0 i w 0 ne

  pub key_then : (leaf_of (set words 0 w)).key ≡ (leaf_of words).key
  unfolding leaf_of
  key_then = rw (later 1 (omega arith), drop-set-lt 2 words 0 w (lit< tt)) refl

  module _ (long : length words ≡ 32) where
    value_then : get_or (set words 0 w) 0 0 ≡ w
    value_then = get_or-set_same words 0 w 0 (omega (arith, long))

    leaf_then : leaf_of (set words 0 w) ≡ record { key = (leaf_of words).key; value = w }
    unfolding leaf_of
    leaf_then = rw (value_then, later 1 (omega arith), drop-set-lt 2 words 0 w (lit< tt)) refl

    pub packed_then : (l : ℕ) → w < 2 ^ 64 → IsPacked (a_leaf l) words → IsPacked (a_leaf l) (set words 0 w)
    unfolding IsPacked
    packed_then l small ((key, value), has, same) =
        let parts : IsLeafOf (key, value) (up_to_key words) = leaf_words_parts (key, value) (up_to_key words) (sym same) in
        let size : get_or words 1 0 ≡ length key = sym (up_to_key_size words) ∙ parts.size in (
          (key, w),
          record { key = has.key; value = small },
          spells_up_to_key (key, w) (set words 0 w) value_then (later 1 (omega arith) ∙ size)
              (λ j before few. later (2 + j) (omega arith) ∙ (sym (up_to_key_before words (2 + j) (omega (arith, before, size)) (omega (arith, few))) ∙ parts.bytes j few)),
        )

-- Those of all records: the heap is as the versions ask.
pub value_stored : (c : Core) (l w : ℕ) → length (c.words (a_leaf l)) ≡ 32 → IsValueStored (heap_of c.words) (heap_of (stored_words c (Value l) w)) l w
value_stored c l w long = record {
  nodes = λ n. refl;
  leaves = λ n ne. rw (ne_eqb n l ne) refl;
  stored = rw (eq-eqb l l refl) (leaf_then (c.words (a_leaf l)) w long);
}

-- The key of each leaf stays.
pub key_stays : (c : Core) (l w n : ℕ) → ((heap_of c.words).leaves n).key ≡ ((heap_of (stored_words c (Value l) w)).leaves n).key
key_stays c l w n = go (cases_Bool (eqb n l))
  where
    go : ((eqb n l ≡ true) ⊎ (eqb n l ≡ false)) → ((heap_of c.words).leaves n).key ≡ ((heap_of (stored_words c (Value l) w)).leaves n).key
    go (inl e) = rw (e, eqb-true n l e) (sym (key_then (c.words (a_leaf l)) w))
    go (inr e) = rw e refl

-- the tree that the words show is read
pub tree_read : (m : Heap) (e : Option Entry) (t : Option Tree) → IsTop m e t → ((u : Tree) → t ≡ Some u → IsTrie u × IsBuilt u) → tree_of m e ≡ t
tree_read m None None top trees = refl
tree_read m None (Some t) top trees = absurd top
tree_read m (Some e) None top trees = absurd top
tree_read m (Some e) (Some t) top trees = read_exact m e t (trees t refl).1 top.1 top.0

-- The store is a legal publish of the same tree with that value.
module _ (c : Core) (q l w : ℕ) (law : IsLawful c) (named : IsLockedAt c q (Value l)) where
  stored : IsValueStored (heap_of c.words) (heap_of (stored_words c (Value l) w)) l w
  stored = value_stored c l w (law.records.sized (a_leaf l)).0

  legal : IsVersionPublish (bare c) q (heap_of (stored_words c (Value l) w)) c.root (Some (then_ (bare c) law.core.state q l w named.1 _ stored)) (value_change c q l w)
  legal = value_publish (bare c) law.core.state q l w named.1 (heap_of (stored_words c (Value l) w)) stored

  tree_is : next_tree c (Value l) w ≡ Some (then_ (bare c) law.core.state q l w named.1 _ stored)
  tree_is = tree_read (heap_of (stored_words c (Value l) w)) c.root _ legal.top legal.tree

  pub value_next : IsNextVersion c.shared q (heap_of (stored_words c (Value l) w)) c.root (next_tree c (Value l) w) (value_change c q l w)
  value_next = subst (λ z. IsNextVersion c.shared q (heap_of (stored_words c (Value l) w)) c.root z (value_change c q l w)) (sym tree_is) legal.next

  pub value_trades : HasTraded (c.past.version c.past.now) (next_tree c (Value l) w) [] []
  value_trades = subst (λ z. HasTraded (c.past.version c.past.now) z [] []) (sym tree_is) (value_trade (bare c) law.core.state q l w named.1 (heap_of (stored_words c (Value l) w)) stored)

  -- The newest tree, and that with the value.
  pub value_tree : (t : Tree) × (c.past.version c.past.now ≡ Some t) × (next_tree c (Value l) w ≡ Some (revalued l w t))
  value_tree = let f : NamerNow (bare c) q l = namer_now (bare c) law.core.state q l named.1 in (f.tree, f.now, tree_is)

  -- Each record has the fate that it had.
  pub fate_stays : (r : Rec) → next_fate c.past.now q (is_linked (next_tree c (Value l) w) r) (c.fate r) ≡ c.fate r
  fate_stays r = go (c.fate r) refl (linked_cases (next_tree c (Value l) w) r)
    where
      linked_then : (s : ℕ) → c.fate r ≡ InTree s → IsLinked (next_tree c (Value l) w) r
      linked_then s e =
          let lived : s ≤ c.past.now = subst (λ z. IsLived c.past.now (life_of z)) e (law.core.state.lived r) in
          let u = law.core.state.alive r c.past.now (subst (λ z. Spans c.past.now (life_of z) c.past.now) (sym e) (lived, le_refl c.past.now)) in
          subst (λ z. IsLinked z r) (sym value_tree.2)
          (links_revalued l w value_tree.0 r (subst (λ z. Links z r) (some_same (sym u.1.is_version ∙ value_tree.1)) (within_links u.1.within r u.1.is_record)))

      not_ready : (p : ℕ) → c.fate r ≡ Ready p → IsLinked (next_tree c (Value l) w) r → ⊥
      not_ready p e linked =
          let x = in_tree_if_linked (bare c) law.core.state value_tree.0 value_tree.1 r (links_before l w value_tree.0 r (subst (λ z. IsLinked z r) value_tree.2 linked)) in
          let z : Ready p ≡ InTree x.0 = sym e ∙ x.1 in cc

      go : (f : Fate) → c.fate r ≡ f → (IsLinked (next_tree c (Value l) w) r × (is_linked (next_tree c (Value l) w) r ≡ true)) ⊎ ((¬ (IsLinked (next_tree c (Value l) w) r)) × (is_linked (next_tree c (Value l) w) r ≡ false)) →
          next_fate c.past.now q (is_linked (next_tree c (Value l) w) r) f ≡ f
      go Free e x = refl
      go (Held p) e x = refl
      go (Ready p) e (inl x) = absurd (not_ready p e x.0)
      go (Ready p) e (inr x) = rw x.1 refl
      go (InTree s) e (inl x) = rw x.1 refl
      go (InTree s) e (inr x) = absurd (x.0 (linked_then s e))
      go (Unlinked s n p) e x = refl
      go (Marked s n p) e x = refl

  -- its leaf is linked before and then
  pub valued_in_tree : (since : ℕ) × (c.fate (a_leaf l) ≡ InTree since)
  valued_in_tree = named_in_tree (bare c) law.core.state q l named.1

  pub valued_linked : IsLinked (next_tree c (Value l) w) (a_leaf l)
  valued_linked = subst (λ z. IsLinked z (a_leaf l)) (sym tree_is) (links_revalued l w found_.tree (a_leaf l) (namer_links None found_.tree found_.by l found_.names))
    where
      found_ : NamerNow (bare c) q l
      found_ = namer_now (bare c) law.core.state q l named.1

-- A legal publish may be made.
pub legal_store : (c : Core) (q : ℕ) (spot : Spot) (w : ℕ) → IsLegalPublish c q spot w → MayStoreAt c q spot w
legal_store c q Root w l = l
legal_store c q (Slot n j) w l = l
legal_store c q (Value n) w l = (l.locked, l.entry)

-- What a pass may store is a legal publish.
pub legal_publish : (c : Core) (q : ℕ) (spot : Spot) (w : ℕ) → IsLawful c → MayStoreAt c q spot w → IsLegalPublish c q spot w
legal_publish c q Root w law l = l
legal_publish c q (Slot n j) w law l = l
legal_publish c q (Value l) w law (named, small) = record { locked = named; entry = small; packed = tt; next = value_next c q l w law named }

-- A word of a record that is not in the tree leaves the value of a leaf of which a pass has locked what names it.
pub value_left : (c : Core) (q : ℕ) (r : Rec) (offset w : ℕ) → IsLawful c → is_in_tree (c.fate r) ≡ false → (l : ℕ) → IsLockedAt c q (Value l) →
    get_or (with_word c.words r offset w (a_leaf l)) 0 0 ≡ get_or (c.words (a_leaf l)) 0 0
value_left c q r offset w law out l named = elim (cases_Bool (same_rec (a_leaf l) r)) [
  | inl e ↦ absurd (false≢true (sym out ∙ (ap (λ z. is_in_tree (c.fate z)) (sym (same_rec_true (a_leaf l) r e)) ∙ ap is_in_tree (named_in_tree (bare c) law.core.state q l named.1).1)))
  | inr e ↦ rw e refl
]

-- What a pass has locked in one core it has locked in another one, where it has these locks there, of the same words.
module _ (c d : Core) (q : ℕ) where
  pub namer_back : c.layout ≡ d.layout → (d.anchor ≡ Some q → (c.anchor ≡ Some q) × (c.root ≡ d.root)) →
      ((n since : ℕ) → d.lock n ≡ Some q → d.fate (a_node n) ≡ InTree since →
      (c.lock n ≡ Some q) × IsInTree c n × (c.words (a_node n) ≡ d.words (a_node n))) →
      (l : ℕ) → IsLockedAt d q (Value l) → IsLockedAt c q (Value l)
  namer_back layout top nodes l (low, in_root anchor root) = let t = top anchor in (subst (λ (z : Layout). l < z.leaves) (sym layout) low, in_root t.0 (t.1 ∙ root))
  namer_back layout top nodes l (few, in_node n since place lock fate low names) =
      let t = nodes n since lock fate in
      let same : node_words_of (d.words (a_node n)) ≡ node_words_of (c.words (a_node n)) = ap node_words_of (sym t.2) in
      (subst (λ (z : Layout). l < z.leaves) (sym layout) few, in_node n t.1.0 place t.0 t.1.1 (subst (λ (z : NodeWords). place < size z.subtrie) same low) (subst (λ (z : NodeWords). entry_at z.subtrie place ≡ Leaf l) same names))

  -- so where it has the same
  pub namer_shared : c.layout ≡ d.layout → share q d ≡ share q c → (l : ℕ) → IsLockedAt d q (Value l) → IsLockedAt c q (Value l)
  namer_shared layout same = namer_back layout top nodes
    where
      anchored : (b : Bool) → anchored_at c.root b ≡ Some d.root → (b ≡ true) × (c.root ≡ d.root)
      anchored true e = (refl, cc)
      anchored false e = absurd cc

      top : d.anchor ≡ Some q → (c.anchor ≡ Some q) × (c.root ≡ d.root)
      top h =
          let x = anchored (is_by q c.anchor) (sym (ap (λ (z : Share). z.anchor) same) ∙ ap (anchored_at d.root) (ap (is_by q) h ∙ by_itself q)) in
          (is_by_true q c.anchor x.0, x.1)

      words_in : List Locked → List ℕ
      words_in [] = []
      words_in (x ∷ xs) = x.words

      lock_had : (n : ℕ) (f : Fate) (b : Bool) → c.fate (a_node n) ≡ f → is_by q (c.lock n) ≡ b → locked n (c.words (a_node n)) (is_in_tree f && b) ≡ record { node = n; words = d.words (a_node n) } ∷ [] →
          (c.lock n ≡ Some q) × IsInTree c n × (c.words (a_node n) ≡ d.words (a_node n))
      lock_had n (InTree s) true e t i = (is_by_true q (c.lock n) t, (s, e), ap (λ (z : List Locked). words_in z) i)
      lock_had n (InTree s) false e t i = absurd cc
      lock_had n _ b e t i = absurd cc

      nodes : (n since : ℕ) → d.lock n ≡ Some q → d.fate (a_node n) ≡ InTree since →
          (c.lock n ≡ Some q) × IsInTree c n × (c.words (a_node n) ≡ d.words (a_node n))
      nodes n since lock fate = lock_had n (c.fate (a_node n)) (is_by q (c.lock n)) refl refl
          (sym (ap (λ (z : Share). z.locks n) same) ∙ rw (fate, lock, by_itself q) refl)

  -- and what it has loaded is so still
  pub loaded_kept : ((l : ℕ) → IsLockedAt d q (Value l) → IsLockedAt c q (Value l)) →
      ((l : ℕ) → IsLockedAt c q (Value l) → get_or (d.words (a_leaf l)) 0 0 ≡ get_or (c.words (a_leaf l)) 0 0) →
      (values : List Loaded) → All (IsStillLoaded q c) values → All (IsStillLoaded q d) values
  loaded_kept back same values = All-weaker (IsStillLoaded q c) (IsStillLoaded q d) (λ v h g. let b = back v.leaf g in same v.leaf b ∙ h b) values
