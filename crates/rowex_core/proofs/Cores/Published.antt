-- A legal publish keeps the core lawful.
use Rattle.rowex_core.proofs.Common.{◌≡◌, ◌⊎◌, inl, inr, ℕ, ◌+◌, ◌^◌, ◌<◌, Bool, true, false, Option, Some, None, refl, sym, ap, ◌∙◌, subst, arith, cases_Bool, false≢true, All-push, Change, Entry, Leaf, Node, HasEntryWord, entry_word, Rec, a_node, a_leaf, IsLinked, Fate, Free, Held, ReadyBy, InTree, Unlinked, Marked, same_rec, is_linked, next_fate, publishes, IsStore, at_root, at_slot, at_value, IsVersionsPublish, same_rec_true, linked_cases, step_lawful, entry_of, get_or-set_other, node_number}
use Rattle.rowex_core.specs.declared.event.Act.TheVariants.{Publish}
use Rattle.rowex_core.specs.declared.event.Spot.{Spot}
use Rattle.rowex_core.specs.declared.event.Spot.TheVariants.{Root, Slot, Value}
use Rattle.rowex_core.specs.Reading.{node_words_of, leaf_of, IsPacked}
use Rattle.rowex_core.specs.Cores.{Core, IsLawful, bare, heap_of, HasRecord, IsSized, FitsIn, IsPastFilling, holder_of}
use Rattle.rowex_core.specs.Events.{after, stored_words, stored_root, next_tree, next_change, IsLegalPublish, IsWordFor, IsPackedAt, IsLockedAt}
use Rattle.rowex_core.proofs.Frames.{next_change_pass}
use Rattle.rowex_core.proofs.Events.Records.{sized_after, word_at_record}
use Rattle.rowex_core.proofs.Cores.Publishing.{other_words, unlinked_words, true_linked}
use Rattle.rowex_core.proofs.Reading.Storing.{near_store}
use Rattle.rowex_core.proofs.Cores.Valuing.{value_stored, packed_then}
use Rattle.versions.proofs.Core.Pace.{next_marked}

whole_before : (now q : ℕ) (b : Bool) (f : Fate) → IsPastFilling (next_fate now q b f) → IsPastFilling f
whole_before now q b Free h = h
whole_before now q b (Held p) h = h
whole_before now q true (ReadyBy p) h = tt
whole_before now q true (InTree s) h = tt
whole_before now q b (Unlinked s l p) h = tt
whole_before now q b (Marked s l p) h = tt
whole_before now q false (ReadyBy p) h = tt
whole_before now q false (InTree s) h = tt

-- what a publish makes an unlinked record was one, or was in the tree and went
unlinked_before : (now q : ℕ) (b : Bool) (f : Fate) (since last p : ℕ) → next_fate now q b f ≡ Unlinked since last p →
    (f ≡ Unlinked since last p) ⊎ ((s : ℕ) × (f ≡ InTree s) × (b ≡ false) × (q ≡ p))
unlinked_before now q b Free since last p e = absurd cc
unlinked_before now q b (Held i) since last p e = absurd cc
unlinked_before now q true (ReadyBy i) since last p e = absurd cc
unlinked_before now q true (InTree s) since last p e = absurd cc
unlinked_before now q b (Unlinked s l i) since last p e = inl e
unlinked_before now q b (Marked s l i) since last p e = absurd cc
unlinked_before now q false (ReadyBy i) since last p e = absurd cc
unlinked_before now q false (InTree s) since last p e = inr (s, refl, refl, cc)

-- who has a record then: the pass that publishes, of what it unlinks
holder_after : (now q passes : ℕ) (b : Bool) (f : Fate) → q < passes → (p : ℕ) → (holder_of f ≡ Some p → p < passes) → holder_of (next_fate now q b f) ≡ Some p → p < passes
holder_after now q passes b Free low p old e = old e
holder_after now q passes b (Held i) low p old e = old e
holder_after now q passes true (ReadyBy i) low p old e = absurd (let x : None ≡ Some p = e in cc)
holder_after now q passes true (InTree s) low p old e = old e
holder_after now q passes b (Unlinked s l i) low p old e = old e
holder_after now q passes b (Marked s l i) low p old e = old e
holder_after now q passes false (ReadyBy i) low p old e = old e
holder_after now q passes false (InTree s) low p old e = subst (λ z. z < passes) (let x : q ≡ p = cc in x) low

pub entry_small : (e : Option Entry) → HasEntryWord e → entry_word e < 2 ^ 64
entry_small None h = omega arith
entry_small (Some (Leaf n)) h = omega arith
entry_small (Some (Node n height)) h = omega arith

module _ (c : Core) (q : ℕ) (spot : Spot) (w : ℕ) (law : IsLawful c) (l : IsLegalPublish c q spot w) where
  store : (s : Spot) → IsLockedAt c q s → IsStore (bare c) q (heap_of (stored_words c s w)) (stored_root c s w)
  store Root e = at_root e refl
  store (Slot n j) e = at_slot n e.2
      (λ m ne. ap node_words_of (other_words c n j w (a_node m) (λ x. ne (node_number x))))
      (λ m. ap leaf_of (other_words c n j w (a_leaf m) (λ x. absurd cc))) refl
  store (Value m) e = let s = value_stored c m w (law.records.sized (a_leaf m)).0 in at_value m e.1 s.nodes s.leaves refl

  kept : (s : Spot) → IsLegalPublish c q s w → (n : ℕ) → IsLinked (next_tree c s w) (a_node n) ⊎ ((heap_of c.words).nodes n ≡ (heap_of (stored_words c s w)).nodes n)
  kept s k n = elim (linked_cases (next_tree c s w) (a_node n)) [ inl x ↦ inl x.0 | inr x ↦ inr (ap node_words_of (sym (unlinked_words c q law s w k (a_node n) x.0))) ]

  kept_leaves : (s : Spot) → IsLegalPublish c q s w → (n : ℕ) → IsLinked (next_tree c s w) (a_leaf n) ⊎ ((heap_of c.words).leaves n ≡ (heap_of (stored_words c s w)).leaves n)
  kept_leaves s k n = elim (linked_cases (next_tree c s w) (a_leaf n)) [ inl x ↦ inl x.0 | inr x ↦ inr (ap leaf_of (sym (unlinked_words c q law s w k (a_leaf n) x.0))) ]

  pub versions_publish : IsVersionsPublish (bare c) q (heap_of (stored_words c spot w)) (stored_root c spot w) (next_tree c spot w) (next_change c q spot w)
  versions_publish = record {
    store = store spot l.locked;
    near = near_store c spot w;
    kept = kept spot l;
    kept_leaves = kept_leaves spot l;
    own = next_change_pass c q spot w;
    next = l.next;
  }

  published_words : (s : Spot) → IsWordFor s w → IsPackedAt c s w → (r : Rec) → IsPastFilling (c.fate r) → IsPacked r (stored_words c s w r)
  published_words Root e p r h = law.records.packed r h
  published_words (Value m) e p r h = word_at_record c.words (a_leaf m) 1 w (λ i words. IsPastFilling (c.fate i) → IsPacked i words)
      (λ x. packed_then (c.words (a_leaf m)) w (law.records.sized (a_leaf m)).0 m e (law.records.packed (a_leaf m) x)) (λ i ne. law.records.packed i) r h
  published_words (Slot n j) y p r h = elim (cases_Bool (same_rec r (a_node n))) [ inl e ↦ subst (λ z. IsPacked z (stored_words c (Slot n j) w z)) (sym (same_rec_true r (a_node n) e)) p | inr e ↦ rw e (law.records.packed r h) ]

  small : (s : Spot) → IsWordFor s w → w < 2 ^ 64
  small Root e = subst (λ z. z < 2 ^ 64) e.1 (entry_small (entry_of w) e.0)
  small (Slot n j) e = subst (λ z. z < 2 ^ 64) e.1 (entry_small (entry_of w) e.0)
  small (Value m) e = e

  published_sizes : (s : Spot) → IsWordFor s w → (r : Rec) → IsSized r (stored_words c s w r)
  published_sizes Root e r = law.records.sized r
  published_sizes (Slot n j) e r = sized_after c.words (a_node n) (26 + j) w (small (Slot n j) e) law.records.sized r
  published_sizes (Value m) e r = sized_after c.words (a_leaf m) 1 w e law.records.sized r

  -- a leaf's words behind its value stay
  published_fits : (s : Spot) (r : Rec) → IsPastFilling (c.fate r) → FitsIn c.layout r (stored_words c s w r)
  published_fits Root r h = law.records.fits r h
  published_fits (Slot n j) (a_node m) h = tt
  published_fits (Slot n j) (a_leaf m) h = law.records.fits (a_leaf m) h
  published_fits (Value m) r h = word_at_record c.words (a_leaf m) 1 w (λ i words. IsPastFilling (c.fate i) → FitsIn c.layout i words)
      (λ x. rw (get_or-set_other (c.words (a_leaf m)) 0 1 w 0 (λ z. omega arith)) (law.records.fits (a_leaf m) x)) (λ i ne. law.records.fits i) r h

  published_root : (s : Spot) → IsWordFor s w → HasEntryWord (stored_root c s w)
  published_root Root e = e.0
  published_root (Slot n j) e = law.root
  published_root (Value m) e = law.root

  published_used : (r : Rec) → (next_fate c.past.now q (is_linked (next_tree c spot w) r) (c.fate r) ≡ Free) ⊎ HasRecord c.layout r
  published_used r = elim (law.records.used r) [ inr h ↦ inr h | inl e ↦ inl (rw e refl) ]

  published_locks : (n since last p : ℕ) → next_fate c.past.now q (is_linked (next_tree c spot w) (a_node n)) (c.fate (a_node n)) ≡ Unlinked since last p → c.lock n ≡ Some p
  published_locks n since last p e =
      elim (unlinked_before c.past.now q (is_linked (next_tree c spot w) (a_node n)) (c.fate (a_node n)) since last p e) [
        | inl x ↦ law.records.retired n since last p x
        | inr (s, t, b, z) ↦ subst (λ i. c.lock n ≡ Some i) z (l.goes n s t (λ y. false≢true (sym b ∙ true_linked (next_tree c spot w) (a_node n) y)))
      ]

  pub publish_stays : q < c.layout.passes → IsLawful (after c q (Publish spot w))
  publish_stays low = record {
    core = step_lawful (bare c) q _ law.core (publishes (heap_of (stored_words c spot w)) (stored_root c spot w) (next_tree c spot w) (next_change c q spot w) versions_publish);
    records = record {
      sized = published_sizes spot l.entry;
      packed = λ r h. published_words spot l.entry l.packed r (whole_before c.past.now q (is_linked (next_tree c spot w) r) (c.fate r) h);
      fits = λ r h. published_fits spot r (whole_before c.past.now q (is_linked (next_tree c spot w) r) (c.fate r) h);
      retired = published_locks;
      used = published_used;
      holders = λ r p e. holder_after c.past.now q c.layout.passes (is_linked (next_tree c spot w) r) (c.fate r) low p (law.records.holders r p) e;
    };
    epochs = record {
      now = law.epochs.now;
      loads = law.epochs.loads;
      pinned = law.epochs.pinned;
      marked = λ r since last epoch e. law.epochs.marked r since last epoch (next_marked c.past.now q (is_linked (next_tree c spot w) r) (c.fate r) since last epoch e);
    };
    root = published_root spot l.entry;
    lockers = law.lockers;
    makers = All-push (λ (x : Change). x.pass < c.layout.passes) c.changes (next_change c q spot w) law.makers
        (subst (λ z. z < c.layout.passes) (sym (next_change_pass c q spot w)) low);
  }
