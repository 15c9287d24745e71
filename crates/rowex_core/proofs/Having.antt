-- What a pass has: of the table, and by lists in which nothing is left out after a publish, a mark and an unlock.
pub mod Kept
use Rattle.rowex_core.proofs.Common.{◌≡◌, inl, inr, ℕ, ◌<◌, List, [], ◌∷◌, map, Bool, true, false, nat_eq, Option, Some, None, refl, sym, ap, subst, ◌∙◌, not, false≢true, eq-eqb, eqb-true, Tree, leaf, node, fork, Rec, a_node, not_true, Links, IsLinked, InTree, Free, same_rec, is_linked, in_tree_now, within_links, same_rec_refl, same_rec_true, linked_cases, IsOneOf, AreApart, HasTraded, all_of, of_append, of_left, of_right, of_map, of_filter, filter_of, none_of}
use Rattle.std.proofs.Common.{filter}
use Rattle.rowex_core.specs.declared.known.Locked.{Locked}
use Rattle.rowex_core.specs.declared.known.Owned.{Owned}
use Rattle.rowex_core.specs.Cores.{Core, IsLawful, bare, HasRecord}
use Rattle.rowex_core.specs.Events.{IsInTree, stored_words, next_tree}
use Rattle.rowex_core.specs.Knowing.{records_of, records_in, owned_unlinked, own_after, locked_with_words, locks_after, without_record, without_lock}
use Rattle.rowex_core.proofs.Cores.Publishing.{linked_now, true_linked}
use Rattle.rowex_core.specs.Having.{OwnsJust, LocksJust, AreKept, InAnyWay, IsUnlinked}
use Rattle.versions.proofs.Trades.{map_of}
use Rattle.rowex_core.specs.declared.known.Holding.{Holding}
use Rattle.rowex_core.specs.declared.known.Holding.TheVariants.{Held, Ready, Unlinked}
use Rattle.rowex_core.specs.Sharing.{IsOwned, IsLocked, fate_of}
use Rattle.rowex_core.specs.Writers.{OwnedAfterPublish}
use Rattle.rowex_core.proofs.Sharing.Owning.{knows_all}

-- a record of the pass's own is not free
pub not_free : (q : ℕ) (h : Holding) → Free ≡ fate_of q h → ⊥
not_free q Held e = cc
not_free q Ready e = cc
not_free q (Unlinked s l) e = cc

tree_not_free : {since : ℕ} → Free ≡ InTree since → ⊥
tree_not_free e = cc

module _ (c : Core) (law : IsLawful c) where
  pub owned_used : (q : ℕ) (o : Owned) → IsOwned q c o → HasRecord c.layout o.rec
  owned_used q o owned = elim (law.records.used o.rec) [ inl e ↦ absurd (not_free q o.holding (sym e ∙ owned.0)) | inr h ↦ h ]

  pub node_used : (n : ℕ) → IsInTree c n → n < c.layout.nodes
  node_used n (since, is) = elim (law.records.used (a_node n)) [ inl e ↦ absurd (tree_not_free (sym e ∙ is)) | inr h ↦ h ]

-- The records of a tree are those that it links

of_records : (t : Tree) (r : Rec) → IsOneOf r (records_of t) → Links t r
of_records (leaf n k v) r (inl e) = e
of_records (leaf n k v) r (inr h) = absurd h
of_records (node n x b) r (inl e) = inl e
of_records (node n x b) r (inr h) = inr (of_records b r h)
of_records (fork p a b) r h = elim (of_append r (records_of a) (records_of b) h) [ inl y ↦ inl (of_records a r y) | inr y ↦ inr (of_records b r y) ]

records_have : (t : Tree) (r : Rec) → Links t r → IsOneOf r (records_of t)
records_have (leaf n k v) r e = inl e
records_have (node n x b) r (inl e) = inl e
records_have (node n x b) r (inr h) = inr (records_have b r h)
records_have (fork p a b) r (inl h) = of_left r (records_of a) (records_of b) (records_have a r h)
records_have (fork p a b) r (inr h) = of_right r (records_of a) (records_of b) (records_have b r h)

in_version : (t : Option Tree) (r : Rec) → IsOneOf r (records_in t) → IsLinked t r
in_version None r h = absurd h
in_version (Some t) r h = of_records t r h

version_has : (t : Option Tree) (r : Rec) → IsLinked t r → IsOneOf r (records_in t)
version_has None r h = absurd h
version_has (Some t) r h = records_have t r h

-- what passes the test is not linked
out_of : (t : Option Tree) (r : Rec) → not (is_linked t r) ≡ true → IsLinked t r → ⊥
out_of t r e h = false≢true (sym (not_true (is_linked t r) e) ∙ true_linked t r h)

out_passes : (t : Option Tree) (r : Rec) → (IsLinked t r → ⊥) → not (is_linked t r) ≡ true
out_passes t r f = elim (linked_cases t r) [ inl h ↦ absurd (f h.0) | inr h ↦ ap not h.1 ]

-- a node in the tree is linked now
pub node_linked : (c : Core) → IsLawful c → (n : ℕ) → IsInTree c n → IsLinked (c.past.version c.past.now) (a_node n)
node_linked c law n (since, e) =
    let u = (in_tree_now (bare c) law.core.state n since e).1 in
    subst (λ z. IsLinked z (a_node n)) (sym u.is_version) (within_links u.within (a_node n) u.is_record)

-- The publish

module _ (c : Core) (law : IsLawful c) (t : Option Tree) (new gone : List Rec) (trade : HasTraded (c.past.version c.past.now) t new gone) where
  unlinked_is : (r : Rec) → IsLinked (c.past.version c.past.now) r → ((owned_unlinked c r (c.fate r)).rec ≡ r) × IsUnlinked (owned_unlinked c r (c.fate r))
  unlinked_is r h =
      let (since, e) = linked_now c law r h in
      subst (λ f. ((owned_unlinked c r f).rec ≡ r) × IsUnlinked (owned_unlinked c r f)) (sym e) (refl, (since, c.past.now, refl))

  -- of a pass that owned just what is linked anew: it owns just what is unlinked
  abbrev left : List Owned
  left = map (λ r. owned_unlinked c r (c.fate r)) (filter (λ r. not (is_linked t r)) (records_in (c.past.version c.past.now)))

  abbrev right : List Owned → List Owned
  right own = filter (λ o. not (is_linked t o.rec)) own

  pub publish_owns : (own : List Owned) → OwnsJust own InAnyWay new → OwnsJust (own_after c t own) IsUnlinked gone
  publish_owns own has = record { only = only; each = each }
    where
      only : (o : Owned) → IsOneOf o (own_after c t own) → IsOneOf o.rec gone × IsUnlinked o
      only o h = elim (of_append o left (right own) h) [
        | inl y ↦
            let (r, i, e) = of_map (λ r. owned_unlinked c r (c.fate r)) o (filter (λ r. not (is_linked t r)) (records_in (c.past.version c.past.now))) y in
            let (k, out) = of_filter (λ r. not (is_linked t r)) r (records_in (c.past.version c.past.now)) i in
            let was = in_version (c.past.version c.past.now) r k in
            let u = unlinked_is r was in
            let going : IsOneOf r gone = elim (trade.goes r was) [ inl z ↦ absurd (out_of t r out z) | inr z ↦ z ] in
            subst (λ (z : Owned). IsOneOf z.rec gone × IsUnlinked z) (sym e) (subst (λ z. IsOneOf z gone) (sym u.0) going, u.1)
        | inr y ↦
            let (i, out) = of_filter (λ (o : Owned). not (is_linked t o.rec)) o own y in
            absurd (out_of t o.rec out ((trade.came o.rec (has.only o i).0).0))
      ]

      each : (r : Rec) → IsOneOf r gone → (o : Owned) × IsOneOf o (own_after c t own) × (o.rec ≡ r)
      each r h =
          let (was, out) = trade.went r h in
          let i = filter_of (λ r. not (is_linked t r)) r (records_in (c.past.version c.past.now)) (version_has (c.past.version c.past.now) r was) (out_passes t r out) in
          let o : Owned = owned_unlinked c r (c.fate r) in
          (o, of_left o left (right own) (map_of (λ r. owned_unlinked c r (c.fate r)) r (filter (λ r. not (is_linked t r)) (records_in (c.past.version c.past.now))) i), (unlinked_is r was).0)

  -- of a pass whose locked nodes are in the tree: it has locked just those that stay
  pub publish_locks : (words : Rec → List ℕ) (locks : List Locked) (held kept : List ℕ) → LocksJust locks held → AreKept held gone kept → ((l : Locked) → IsOneOf l locks → IsLinked (c.past.version c.past.now) (a_node l.node)) →
      LocksJust (locks_after words t locks) kept
  publish_locks words locks held kept has keeps now = record { only = only; each = each }
    where
      test : Locked → Bool
      test l = is_linked t (a_node l.node)

      only : (l : Locked) → IsOneOf l (locks_after words t locks) → IsOneOf l.node kept
      only l h =
          let (o, i, e) = of_map (λ l. locked_with_words words l) l (filter (λ l. is_linked t (a_node l.node)) locks) h in
          let (k, on) = of_filter (λ (l : Locked). is_linked t (a_node l.node)) o locks i in
          subst (λ (z : Locked). IsOneOf z.node kept) (sym e)
          (elim (keeps.only o.node (has.only o k)) [ inl y ↦ y | inr y ↦ absurd ((trade.went (a_node o.node) y).1 (linked o on)) ])
        where
          linked : (o : Locked) → is_linked t (a_node o.node) ≡ true → IsLinked t (a_node o.node)
          linked o on = elim (linked_cases t (a_node o.node)) [ inl y ↦ y.0 | inr y ↦ absurd (false≢true (sym y.1 ∙ on)) ]

      each : (n : ℕ) → IsOneOf n kept → (l : Locked) × IsOneOf l (locks_after words t locks) × (l.node ≡ n)
      each n h =
          let (was, stays) = keeps.each n h in
          let (l, i, e) = has.each n was in
          let on : IsLinked t (a_node l.node) = elim (trade.goes (a_node l.node) (now l i)) [ inl y ↦ y | inr y ↦ absurd (stays (subst (λ z. IsOneOf (a_node z) gone) e y)) ] in
          let k = filter_of (λ (l : Locked). is_linked t (a_node l.node)) l locks i (true_linked t (a_node l.node) on) in
          (locked_with_words words l, map_of (λ l. locked_with_words words l) l (filter (λ l. is_linked t (a_node l.node)) locks) k, e)

pub owned_after_publish : OwnedAfterPublish
owned_after_publish c k spot w law known new gone held kept trade own locks keeps = (
  publish_owns c law (next_tree c spot w) new gone trade k.own own,
  publish_locks c law (next_tree c spot w) new gone trade (stored_words c spot w) k.locks held kept locks keeps
      (λ l i. node_linked c law l.node (all_of (IsLocked k.pass c) l k.locks (knows_all c k known).locks i).1),
)

-- Marks and unlocks take one away

-- another record than this one
pub other_rec : (s r : Rec) → (s ≡ r → ⊥) → same_rec s r ≡ false
other_rec s r ne = go (same_rec s r) refl
  where
    go : (b : Bool) → same_rec s r ≡ b → b ≡ false
    go true e = absurd (ne (same_rec_true s r e))
    go false e = refl

pub mark_owns : (P : Owned → Type 0) (own : List Owned) (r : Rec) (rs : List Rec) → OwnsJust own P (r ∷ rs) → AreApart (r ∷ rs) → OwnsJust (without_record r own) P rs
mark_owns P own r rs has apart = record { only = only; each = each }
  where
    only : (o : Owned) → IsOneOf o (without_record r own) → IsOneOf o.rec rs × P o
    only o h =
        let (i, out) = of_filter (λ (o : Owned). not (same_rec o.rec r)) o own h in
        let (was, p) = has.only o i in
        (elim was [ inl e ↦ absurd (false≢true (sym (not_true (same_rec o.rec r) out) ∙ subst (λ z. same_rec o.rec z ≡ true) e (same_rec_refl o.rec))) | inr y ↦ y ], p)

    each : (s : Rec) → IsOneOf s rs → (o : Owned) × IsOneOf o (without_record r own) × (o.rec ≡ s)
    each s h =
        let (o, i, e) = has.each s (inr h) in
        (o, filter_of (λ (o : Owned). not (same_rec o.rec r)) o own i (ap not (other_rec o.rec r (λ z. apart.0 (subst (λ y. IsOneOf y rs) (sym e ∙ z) h)))), e)

other_node : (n m : ℕ) → (n ≡ m → ⊥) → not (nat_eq n m) ≡ true
other_node n m ne = go (nat_eq n m) refl
  where
    go : (b : Bool) → nat_eq n m ≡ b → not b ≡ true
    go true e = absurd (ne (eqb-true n m e))
    go false e = refl

pub unlock_locks : (locks : List Locked) (n : ℕ) (ns : List ℕ) → LocksJust locks (n ∷ ns) → AreApart (n ∷ ns) → LocksJust (without_lock n locks) ns
unlock_locks locks n ns has apart = record { only = only; each = each }
  where
    only : (l : Locked) → IsOneOf l (without_lock n locks) → IsOneOf l.node ns
    only l h =
        let (i, out) = of_filter (λ (l : Locked). not (nat_eq l.node n)) l locks h in
        elim (has.only l i) [ inl e ↦ absurd (false≢true (sym (not_true (nat_eq l.node n) out) ∙ eq-eqb l.node n e)) | inr y ↦ y ]

    each : (m : ℕ) → IsOneOf m ns → (l : Locked) × IsOneOf l (without_lock n locks) × (l.node ≡ m)
    each m h =
        let (l, i, e) = has.each m (inr h) in
        (l, filter_of (λ (l : Locked). not (nat_eq l.node n)) l locks i (other_node l.node n (λ z. apart.0 (subst (λ y. IsOneOf y ns) (sym e ∙ z) h))), e)

-- At the end there is none

pub owns_none : (P : Owned → Type 0) (own : List Owned) → OwnsJust own P [] → own ≡ []
owns_none P own has = none_of own (λ o h. (has.only o h).0)

pub locks_none : (locks : List Locked) → LocksJust locks [] → locks ≡ []
locks_none locks has = none_of locks (λ l h. has.only l h)
