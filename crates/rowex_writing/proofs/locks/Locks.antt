-- Steps after which a pass recalls what it did, one after the other; locks that are taken and refused.
use Rattle.rowex_writing.proofs.Common.{◌≡◌, ◌≢◌, inl, inr, ℕ, ◌-◌, ◌<◌, ◌≤◌, List, [], ◌∷◌, ◌++◌, length, get_or, true, false, nat_eq, Option, Some, None, IsSome, refl, sym, ap, subst, ◌∙◌, arith, All, Contains, slice_get, cases_lt, eqb-true, false≢true, slice_get-get_or, length-append, Change, Added, OthersGoOn, IsLived, IsLockable, IsOneOf, map_of, Locked, Owned, Core, IsLawful, fate_of, All-head, All-tail, All-weaker, state_word, Layout, a_node, Spans, Fate, Free, InTree, Unlinked, Marked, life_of, pin_version, Node, EntryStoodSince, Act, Lock, Event, Target, Anchor, NodeTarget, Failed, a_lock, Known, target_word, IsEvent, IsPinnedSince, Knows, maker_of, blocking_pass_at, blocking_pass_of, tag_of, lock_tag, knows_all, recalls, pin_is, IsLater, nodes_of, KeepsRecall, Runs, Steps, silent, TableView, SeatView, IsSeatOf, runs_same, IsSure, later_if_same, later_transitive, one_of}
use Rattle.std.proofs.Math.ListN.{get_or-append}
use Rattle.std.proofs.Math.Seq.{get_or-append_right}
use Rattle.rowex_core.specs.declared.known.Holding.TheVariants.{Unlinked as IsUnlinked}
use Rattle.record_words.specs.declared.state.Tag.TheVariants.{Live}
use Rattle.versions.specs.Core.{Held, Ready}
use Rattle.rowex_table.proofs.Made.ActsBefore as before
use Rattle.rowex_table.proofs.Made.ActsLeave as leave
use Rattle.rowex_writing.proofs.locks.Runs.{plain_recalls, runs_count}
use Rattle.rowex_writing.proofs.locks.Tried.{tries_none, tries_one, tries_more}
use Rattle.rowex_writing.specs.locks.Locks.{Tries, Works, KeepsLocksAndRecords, LoadsNoRoot, IsTakenWord, LocksOne, LocksAnchor, IsRefusedLock, NoChangeFrom, HasMadeNoChange, targets_of}

module _ {G : Type 0} (table : TableView) (becomes : G → Event → G → Type 0) where
  pub works_none : (a : SeatView × G) → Works table becomes a a
  works_none a = tries_none table becomes a

  pub works_one : (act : Act) (a b : SeatView × G) → LoadsNoRoot act → Steps table becomes act a b → Tries table becomes (targets_of (act ∷ [])) a b
  works_one act a b plain s = tries_one table becomes act a b plain s

  pub works_more : (a m b : SeatView × G) → Works table becomes a m → Works table becomes m b → Works table becomes a b
  works_more a m b first second = tries_more table becomes {s = []} {t = []} a m b first second

  -- the seat is one of the table still
  pub works_seat : {tried : List Target} (a b : SeatView × G) → Tries table becomes tried a b → IsSeatOf table a.0 → IsSeatOf table b.0
  works_seat a b w is = (runs_same table becomes w.acts a b w.steps).0 ∙ is

  later_runs : (acts : List Act) (a b : SeatView × G) → All KeepsRecall acts → Runs table becomes acts a b → IsLater a.0.known b.0.known
  later_runs [] a b plain e = later_if_same a.0.known b.0.known (ap (λ (z : SeatView × G). z.0.known) e)
  later_runs (act ∷ acts) a b plain (m, s, more) =
      later_transitive a.0.known m.0.known b.0.known (before.recalls_on table.layout silent a.0.known m.0.known act (All-head KeepsRecall act acts plain) s.event)
      (later_runs acts m b (All-tail KeepsRecall act acts plain) more)

  pub works_later : {tried : List Target} (a b : SeatView × G) → Tries table becomes tried a b → IsLater a.0.known b.0.known
  works_later a b w = later_runs w.acts a b (All-weaker LoadsNoRoot KeepsRecall plain_recalls w.acts w.each) w.steps

  pub works_count : {tried : List Target} (a b : SeatView × G) → Tries table becomes tried a b → a.0.known.steps ≤ b.0.known.steps
  works_count a b w = runs_count table becomes w.acts a b w.steps

-- ---- a lock that is refused
taken_state : (now m : ℕ) (lock : Option ℕ) (f : Fate) → Spans now (life_of f) m → state_word (tag_of lock f) ≢ 2 → IsTakenWord (state_word (tag_of lock f))
taken_state now m lock Free s ne = absurd s
taken_state now m lock (Held p) s ne = absurd s
taken_state now m lock (Ready p) s ne = absurd s
taken_state now m None (InTree f) s ne = absurd (ne refl)
taken_state now m (Some q) (InTree f) s ne = inl refl
taken_state now m None (Unlinked f l p) s ne = absurd (ne refl)
taken_state now m (Some q) (Unlinked f l p) s ne = inl refl
taken_state now m lock (Marked f l epoch) s ne = inr (epoch, refl)

taken_anchor : (lock : Option ℕ) → state_word (lock_tag lock) ≢ 2 → IsTakenWord (state_word (lock_tag lock))
taken_anchor None ne = absurd (ne refl)
taken_anchor (Some q) ne = inl refl

-- from a place on the pass has made no change, and others alone have since
pub no_change_from_later : (q m : ℕ) (front later : List Change) → NoChangeFrom q m front → OthersGoOn q front later → NoChangeFrom q m later
no_change_from_later q m front later none (more, is, others) = subst (NoChangeFrom q m) (sym is) both
  where
    both : NoChangeFrom q m (front ++ more)
    both i d late low = elim (cases_lt i (length front)) [
      | inl old ↦ subst (λ (x : Change). x.pass ≢ q) (sym (get_or-append front more d i old)) (none i d late old)
      | inr new ↦ subst (λ (x : Change). x.pass ≢ q) (sym (get_or-append_right front more i d new))
          (others (i - length front) d (let n = length-append front more in omega (arith, n)))
    ]

-- so it is later on
pub no_change_made_later : (k j : Known) → IsLater k j → HasMadeNoChange k → HasMadeNoChange j
no_change_made_later k j later quiet p is =
    subst (λ q. NoChangeFrom q p.version j.front) (sym later.pass) (no_change_from_later k.pass p.version k.front j.front (quiet p (sym later.pin ∙ is)) later.front)

-- another pass of the index is in the way
abbrev pub IsAnother : Core → Known → Option ℕ → Type 0
IsAnother c k taker = (by : ℕ) × (taker ≡ Some by) × (by ≢ k.pass) × (by < c.layout.passes)

-- A pass that has nothing of its own, has made no change since its pin and has not locked the node.
module _ (c : Core) (k : Known) (law : IsLawful c) (knows : Knows c k) (own : k.own ≡ []) (n : ℕ) (free : ¬ (IsOneOf n (nodes_of k.locks))) where
  -- the lock is another's, where the node is in the tree or its lock's pass has unlinked it
  other_lock : (q : ℕ) → c.lock n ≡ Some q → (f : Fate) → c.fate (a_node n) ≡ f → IsLockable q f → q ≢ k.pass
  other_lock q has (InTree s) fate may same =
      free (map_of (λ (l : Locked). l.node) _ k.locks (one_of k.locks _ ((knows_all c k knows).all_locks n (has ∙ ap Some same) (s, fate))))
  other_lock q has (Unlinked s l p) fate may same =
      let mine : c.fate (a_node n) ≡ fate_of k.pass (IsUnlinked s l) = fate ∙ ap (Unlinked s l) (may ∙ same) in
      let o : Owned = record { rec = a_node n; holding = IsUnlinked s l; words = c.words (a_node n) } in
      subst (λ z. IsOneOf o z) own (one_of k.own o ((knows_all c k knows).all_own (a_node n) (IsUnlinked s l) mine))
  other_lock q has _ fate may same = absurd may

  lock_taker : (f : Fate) → c.fate (a_node n) ≡ f → (lock : Option ℕ) → c.lock n ≡ lock → IsSome lock → IsAnother c k (c.lock n)
  lock_taker f fate None has some = absurd (false≢true some)
  lock_taker f fate (Some q) has some = (q, has, other_lock q has f fate (subst (IsLockable q) fate (law.core.locked n q has)), law.lockers.nodes n q has)

  -- the change that unlinked the node is another's, where it was linked in a version since the pin
  retirer : (m at last : ℕ) → NoChangeFrom k.pass m k.front → m ≤ at → at ≤ last → last < c.past.now → IsAnother c k (maker_of (slice_get c.changes last))
  retirer m at last none late old now =
      let d : Change = record { pass = 0; key = []; value = 0; kind = Added } in
      let low : last < length c.changes = let e = law.core.told.count in omega (arith, e, now) in (
        (get_or c.changes last d).pass,
        ap maker_of (slice_get-get_or c.changes last d low),
        no_change_from_later k.pass m k.front c.changes none knows.seen.front last d (omega (arith, late, old)) low,
        law.makers last d low,
      )

  pub node_taker : (m at : ℕ) → NoChangeFrom k.pass m k.front → m ≤ at → (f : Fate) → c.fate (a_node n) ≡ f → Spans c.past.now (life_of f) at → state_word (tag_of (c.lock n) f) ≢ 2 → IsAnother c k (blocking_pass_of c n f)
  node_taker m at none late Free fate s ne = absurd s
  node_taker m at none late (Held p) fate s ne = absurd s
  node_taker m at none late (Ready p) fate s ne = absurd s
  node_taker m at none late (InTree f) fate s ne = lock_taker (InTree f) fate (c.lock n) refl (is_locked (c.lock n) ne)
    where
      is_locked : (lock : Option ℕ) → state_word (lock_tag lock) ≢ 2 → IsSome lock
      is_locked None other = absurd (other refl)
      is_locked (Some q) other = refl
  node_taker m at none late (Unlinked f l p) fate s ne = lock_taker (Unlinked f l p) fate (c.lock n) refl (is_locked (c.lock n) ne)
    where
      is_locked : (lock : Option ℕ) → state_word (lock_tag lock) ≢ 2 → IsSome lock
      is_locked None other = absurd (other refl)
      is_locked (Some q) other = refl
  node_taker m at none late (Marked f l epoch) fate s ne =
      let lived = subst (λ z. IsLived c.past.now (life_of z)) fate (law.core.state.lived (a_node n)) in retirer m at l none late s.1 lived.1

-- the anchor's lock is another's, where the pass doesn't have it
pub anchor_taker : (c : Core) (k : Known) → IsLawful c → Knows c k → k.anchor ≡ None → (lock : Option ℕ) → c.anchor ≡ lock → state_word (lock_tag lock) ≢ 2 → IsAnother c k c.anchor
anchor_taker c k law knows none None has ne = absurd (ne refl)
anchor_taker c k law knows none (Some q) has ne =
    (q, has, (λ same. let x : None ≡ Some c.root = sym none ∙ (knows_all c k knows).all_anchor (has ∙ ap Some same) in cc), law.lockers.root q has)

module _ (layout : Layout) (k j : Known) where
  met : (target : Target) (found : ℕ) (e : IsEvent layout (Lock target found) silent k j) → found ≢ 2 → IsTakenWord found → IsAnother e.core k (blocking_pass_at e.core target) → IsRefusedLock layout k j
  met target found e ne taken (by, by_is, another, below) =
      let is = before.lock_fails layout k j target found e ne in
      let here : Failed = record { act = a_lock (blocking_pass_at e.core target); location = target_word target; word = found; step = k.steps } in (
        record { target = target; failed = here; is = subst (λ (z : Known). Contains z.failed here) (sym is) (0, omega arith, refl); by = by; act = ap (λ o. a_lock o) by_is; another = another; below = subst (λ (z : Layout). by < z.passes) e.layout_is below; place = refl; word = taken; now = omega arith },
        ap (λ (z : Known). z.locks) is,
        ap (λ (z : Known). z.anchor) is,
        ap (λ (z : Known). z.own) is,
      )

  pub node_met : (n m h found : ℕ) → IsPinnedSince k m → IsSure k (λ past. EntryStoodSince past m (Node n h)) → k.own ≡ [] → ¬ (IsOneOf n (nodes_of k.locks)) → HasMadeNoChange k → IsEvent layout (Lock (NodeTarget n) found) silent k j → found ≢ 2 → IsRefusedLock layout k j
  node_met n m h found (pin, pinned, early) sure own free quiet e ne =
      let c = e.core in
      let (at, u, lo, hi, stands, subtrie_is) = sure c e.lawful (recalls c k e.knows) in
      let spans = e.lawful.core.state.reach k.pass pin.version (ap pin_version (pin_is c k e.knows ∙ pinned)) at (omega arith) hi (a_node n) u stands in
      let is = e.legal.1.1 in
      met (NodeTarget n) found e ne (subst IsTakenWord (sym is) (taken_state c.past.now at (c.lock n) (c.fate (a_node n)) spans (λ z. ne (is ∙ z))))
      (node_taker c k e.lawful e.knows own n free pin.version at (quiet pin pinned) (omega (arith, early, lo)) (c.fate (a_node n)) refl spans (λ z. ne (is ∙ z)))

  pub anchor_met : (found : ℕ) → k.anchor ≡ None → IsEvent layout (Lock Anchor found) silent k j → found ≢ 2 → IsRefusedLock layout k j
  anchor_met found free e ne =
      let is = e.legal.1 in
      met Anchor found e ne (subst IsTakenWord (sym is) (taken_anchor e.core.anchor (λ z. ne (is ∙ z)))) (anchor_taker e.core k e.lawful e.knows free e.core.anchor refl (λ z. ne (is ∙ z)))

  -- whoever is in the way, the pass has what it had
  pub node_same : (n found : ℕ) → IsEvent layout (Lock (NodeTarget n) found) silent k j → found ≢ 2 → KeepsLocksAndRecords k j
  node_same n found e ne =
      let is = before.lock_fails layout k j (NodeTarget n) found e ne in (ap (λ (z : Known). z.locks) is, ap (λ (z : Known). z.anchor) is, ap (λ (z : Known). z.own) is)

  -- ---- a lock that is taken
  pub node_locked : (n found : ℕ) → IsEvent layout (Lock (NodeTarget n) found) silent k j → found ≡ 2 → LocksOne n k j
  node_locked n found e two =
      let t = before.lock_gives_node layout silent k j n found e two in
      let l = leave.act_leaves layout k j (Lock (NodeTarget n) found) e in
      ((t.0, t.2), t.3, l.own tt, l.anchor tt)

  pub anchor_locked : (found : ℕ) → IsEvent layout (Lock Anchor found) silent k j → found ≡ 2 → LocksAnchor k j
  anchor_locked found e two =
      let t = before.lock_gives_anchor layout silent k j found e two in
      let l = leave.act_leaves layout k j (Lock Anchor found) e in
      (subst (λ o. IsSome o) (sym t.1.1) refl, l.locks tt, l.own tt)

-- the word that was found is that of a live node, or another
pub is_live : (found word : ℕ) → word ≡ state_word Live → nat_eq found word ≡ true → found ≡ 2
is_live found word is t = eqb-true found word t ∙ is

pub is_not_live : (found word : ℕ) → word ≡ state_word Live → nat_eq found word ≡ false → found ≢ 2
is_not_live found word is f two = absurd (let z : true ≡ false = subst (λ x. nat_eq 2 x ≡ false) is (subst (λ x. nat_eq x word ≡ false) two f) in cc)
