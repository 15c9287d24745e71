-- A legal publish tells its one change.
use Rattle.versions.proofs.Common.{◌≡◌, ◌⊎◌, inl, inr, ℕ, suc, ◌<◌, ◌≤◌, List, [], ◌∷◌, ◌++◌, length, take, refl, ap, sym, ◌∙◌, subst, arith, Option, Some, None, le_refl, cases_lt, take-append-le, take_all, length-append, Change, Added, Replaced, Removed, value_at, IsInOrder, map_of, changed, changed_by, FitsKind, Fits, Entry, Tree, IsTrie, Item, pairs, content_rises, IsRising, AreKeys, are_keys, pairs_rise, more_inserts, more_was_absent, more_removes, more_was_held, exchange_inserts, exchange_was_held, map_of-push, legal_front_push}
use Rattle.finite_map.specs.declared.Kind.{Kind}
use Rattle.versions.specs.Heap.{Heap}
use Rattle.versions.specs.State.{IsLawfulState}
use Rattle.versions.specs.Core.{BareCore, view}
use Rattle.versions.specs.Told.{items_of, content, item_of, IsChanged, IsChange, TellChanges}
use Rattle.versions.specs.Steps.{after_publish, IsVersionPublish}
use Rattle.versions.proofs.State.Publish.{version_old, version_new}

-- A change of the leaves is the change of the map, and is legal on it.
changed_pairs : (k : Kind) (x : Item) (xs ys : List Item) → IsChanged k x xs ys → IsRising xs → AreKeys xs → IsRising ys → AreKeys ys →
    (changed_by k (pairs xs) x.key x.value ≡ pairs ys) × FitsKind k (value_at (pairs xs) x.key) x.value
changed_pairs Added x xs ys m r a s b = (more_inserts x xs ys m s b, more_was_absent x xs ys m s b)
changed_pairs Replaced x xs ys (y, e, m) r a s b = (exchange_inserts y x xs ys m e r a, rw (exchange_was_held y x xs ys m e r a) refl)
changed_pairs Removed x xs ys m r a s b = (more_removes x ys xs m r a, more_was_held x ys xs m r a)

-- The version is empty or a bit trie.
abbrev AreTries : Option Tree → Type 0
AreTries t = (u : Tree) → t ≡ Some u → IsTrie u

items_rise : (t : Option Tree) → AreTries t → IsRising (items_of t)
items_rise None i = tt
items_rise (Some t) i = content_rises t (i t refl)

items_are_keys : (t : Option Tree) → AreTries t → AreKeys (items_of t)
items_are_keys None i = tt
items_are_keys (Some t) i = are_keys t (i t refl)

-- The content of a version is in strict key order.
pub content_in_order : (t : Option Tree) → AreTries t → IsInOrder (content t)
content_in_order t i = pairs_rise (items_of t) (items_rise t i) (items_are_keys t i)

changed_content : (s : Option Tree) (x : Change) (t : Option Tree) → AreTries s → AreTries t → IsChange s x t → (changed (content s) x ≡ content t) × Fits (content s) x
changed_content s x t i j (n, m) =
    changed_pairs x.kind (item_of n x) (items_of s) (items_of t) m (items_rise s i) (items_are_keys s i) (items_rise t j) (items_are_keys t j)

-- After a legal publish the versions tell the changes, with this one at the end.
pub publish_told : (c : BareCore) (q : ℕ) (heap : Heap) (root : Option Entry) (t : Option Tree) (x : Change) → IsLawfulState (view c) → TellChanges c.past c.changes →
    IsVersionPublish c q heap root t x → TellChanges (after_publish c q heap root t x).past (after_publish c q heap root t x).changes
publish_told c q heap root t x law told l = record {
  count = rw length-append (let e = told.count in omega arith);
  content_is = λ n h. go n h (cases_lt c.past.now n);
  legal = legal_front_push c.changes x told.legal (subst (λ m. Fits m x) all step.1);
}
  where
    whole : take c.past.now c.changes ≡ c.changes
    whole = let e = told.count in take_all c.past.now c.changes (omega arith)

    all : content (c.past.version c.past.now) ≡ map_of c.changes
    all = told.content_is c.past.now (le_refl c.past.now) ∙ ap map_of whole

    step : (changed (content (c.past.version c.past.now)) x ≡ content t) × Fits (content (c.past.version c.past.now)) x
    step = changed_content (c.past.version c.past.now) x t (λ u e. (law.trees c.past.now u (le_refl c.past.now) e).0) (λ u e. (l.tree u e).0) l.change

    longest : (n : ℕ) → n ≡ suc c.past.now → length (c.changes ++ x ∷ []) ≤ n
    longest n z = let e = told.count in rw length-append (omega arith)

    go : (n : ℕ) → n ≤ suc c.past.now → (c.past.now < n) ⊎ (n ≤ c.past.now) →
        content ((after_publish c q heap root t x).past.version n) ≡ map_of (take n (c.changes ++ x ∷ []))
    go n h (inr y) =
        let e = told.count in
        ap content (version_old c.past.version (suc c.past.now) t n (omega arith)) ∙
        (told.content_is n y ∙ ap map_of (sym (take-append-le n c.changes (x ∷ []) (omega arith))))
    go n h (inl y) =
        let z : n ≡ suc c.past.now = omega arith in
        ap (λ m. content ((after_publish c q heap root t x).past.version m)) z ∙
        (ap content (version_new c.past.version (suc c.past.now) t) ∙
        (sym step.0 ∙ (ap (λ m. changed m x) all ∙ (sym (map_of-push c.changes x) ∙ ap map_of (sym (take_all n (c.changes ++ x ∷ []) (longest n z)))))))
