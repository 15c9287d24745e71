-- What the acts before a publish leave a pass, on the whole lists of what it has: locks, claims, fills, readies, releases, loads.
use Rattle.rowex_table.proofs.Common.{◌≡◌, inl, inr, ℕ, suc, ◌+◌, List, [], ◌∷◌, ◌++◌, length, get_or, map, nat_eq, Bool, true, false, Option, None, refl, sym, ap, ap₂, subst, ◌∙◌, arith, append_assoc, All, eqb-true, map-append, All-tail, Entry, Note, OthersGoOn, Layout, state_word, Rec, a_node, Past, Fate, InTree, Act, Claim, Fill, Ready, Release, LoadRef, LoadFixed, Lock, Unlock, Publish, Mark, LoadEpoch, Advance, SetPin, ClearPin, LoadPin, LoadState, GiveBack, Load, Root, Slot, Value, Anchor, NodeTarget, Holding, Held, IsReady, Known, Locked, Owned, Core, lock_tag, tag_of, record_word, target_word, Location, Knows, failed_with, IsFact, IsEvent, facts_with, with_holding, without_record, anchor_learned, node_learned, learned_by, learned, blocking_pass_at, Recalls, IsLocked, knows_all, IsOneOf, other_rec, of_map, all_of}
use Rattle.std.proofs.Common.{Some}
use Rattle.std.proofs.lemmas.List.{append-nil}
use Rattle.versions.specs.declared.Pin.{Pin}
use Rattle.versions.proofs.Core.{same_rec_refl}
use Rattle.rowex_core.specs.declared.known.Fact.{Fact}
use Rattle.rowex_core.specs.declared.known.FailedAct.{FailedAct}
use Rattle.rowex_core.specs.declared.known.FailedAct.TheVariants.{Lock as a_lock}
use Rattle.rowex_core.specs.declared.known.Loaded.{Loaded}
use Rattle.rowex_core.specs.declared.event.Target.{Target}
use Rattle.rowex_table.proofs.Made.ActsLeave.{as_before}
use Rattle.rowex_table.proofs.Rights.{anchor_free}
use Rattle.rowex_table.specs.Runs.{silent}
use Rattle.rowex_table.specs.Stays.{KeepsRecall, LeavesFront, LeavesPin}
use Rattle.rowex_table.specs.Made.{Made, held_as, recs_of, nodes_of, IsLater}
use Rattle.versions.proofs.Trades.{map_of}
use Rattle.finite_map.proofs.Fronts.{others_on, others_none}

-- the front, the facts and the pin are as before
pub same_later : (k j : Known) → j.pass ≡ k.pass → j.pin ≡ k.pin → j.front ≡ k.front → j.facts ≡ k.facts → IsLater k j
same_later k j pass pin front facts = record {
  pass = pass;
  pin = pin;
  front = subst (OthersGoOn k.pass k.front) (sym front) (others_none k.pass k.front);
  facts = λ s h. subst (All (IsFact s)) facts h;
}

-- later than what is later is later
pub later_trans : {k i j : Known} → IsLater k i → IsLater i j → IsLater k j
later_trans {k} {i} {j} x y = record {
  pass = y.pass ∙ x.pass;
  pin = y.pin ∙ x.pin;
  front = others_on k.pass k.front i.front j.front x.front (subst (λ z. OthersGoOn z i.front j.front) x.pass y.front);
  facts = λ s h. x.facts s (y.facts s h);
}

-- a core in which a pass recalls what it does is one in which it recalled what it did
pub recalls_before : {k j : Known} {c : Core} → IsLater k j → Recalls c j → Recalls c k
recalls_before {k} {j} {c} l h = record {
  front = others_on k.pass k.front j.front c.changes l.front (subst (λ z. OthersGoOn z j.front c.changes) l.pass h.front);
  facts = l.facts c.past h.facts;
  pin = subst (λ z. c.pins z ≡ j.pin) l.pass h.pin ∙ l.pin;
}

-- Lists in which one record is changed

same_map : {X : Type 0} (f : X → X) (xs : List X) → ((x : X) → IsOneOf x xs → f x ≡ x) → map f xs ≡ xs
same_map f [] h = refl
same_map f (x ∷ xs) h = ap₂ (λ y ys. y ∷ ys) (h x (inl refl)) (same_map f xs (λ y i. h y (inr i)))

-- of records made and held in any way, none of which is r
unlike : (h : Holding) (ms : List Made) (r : Rec) → (IsOneOf r (recs_of ms) → ⊥) → (o : Owned) → IsOneOf o (map (held_as h) ms) → o.rec ≡ r → ⊥
unlike h ms r not_it o i e =
    let (m, k, z) = of_map (held_as h) o ms i in
    not_it (subst (λ y. IsOneOf y (recs_of ms)) (sym (ap (λ (x : Owned). x.rec) z) ∙ e) (map_of (λ (m : Made). m.rec) m ms k))

hold_others : (h g : Holding) (ms : List Made) (r : Rec) → (IsOneOf r (recs_of ms) → ⊥) → map (with_holding r h) (map (held_as g) ms) ≡ map (held_as g) ms
hold_others h g ms r not_it = same_map (with_holding r h) (map (held_as g) ms) (λ o i. rw (other_rec o.rec r (unlike g ms r not_it o i)) refl)

keep_others : (own : List Owned) (r : Rec) → ((o : Owned) → IsOneOf o own → o.rec ≡ r → ⊥) → without_record r own ≡ own
keep_others [] r not_it = refl
keep_others (o ∷ own) r not_it = rw (other_rec o.rec r (not_it o (inl refl))) (ap (λ z. o ∷ z) (keep_others own r (λ x i. not_it x (inr i))))

-- a node in the tree whose lock is taken is not live
taken : (o : Option ℕ) (f : Fate) (q s : ℕ) → o ≡ Some q → f ≡ InTree s → state_word (tag_of o f) ≡ 2 → ⊥
taken o f q s e g h = not_live (subst (λ z. state_word (tag_of z (InTree s)) ≡ 2) e (subst (λ z. state_word (tag_of o z) ≡ 2) g h))
  where
    not_live : state_word (tag_of (Some q) (InTree s)) ≡ 2 → ⊥
    not_live e = omega arith

module _ (layout : Layout) (said : Known → List Note) (k j : Known) where
  -- Locks

  pub lock_gives_node : (n found : ℕ) → IsEvent layout (Lock (NodeTarget n) found) said k j → found ≡ 2 →
      (words : List ℕ) × (length words ≡ 57) × (j.locks ≡ record { node = n; words = words } ∷ k.locks) × (IsOneOf n (nodes_of k.locks) → ⊥)
  lock_gives_node n found e live =
      let c = e.core in (
        c.words (a_node n),
        (e.lawful.records.sized (a_node n)).0,
        ap (λ (z : Known). z.locks) e.learned_is ∙ ap (λ f. (node_learned c n f k).locks) live,
        λ i. (let (l, h, is) = of_map (λ (l : Locked). l.node) n k.locks i in
            let (lock, tree, words) = all_of (IsLocked k.pass c) l k.locks (knows_all c k e.knows).locks h in
            taken (c.lock n) (c.fate (a_node n)) k.pass tree.0 (ap c.lock is ∙ lock) (ap (λ z. c.fate (a_node z)) is ∙ tree.1) (sym e.legal.1.1 ∙ live)),
      )

  -- the anchor that it has locked was not locked by it before
  pub lock_gives_anchor : (found : ℕ) → IsEvent layout (Lock Anchor found) said k j → found ≡ 2 → (k.anchor ≡ None) × ((root : Option Entry) × (j.anchor ≡ Some root))
  lock_gives_anchor found e live =
      let c = e.core in
      let loose : c.anchor ≡ None = anchor_free c.anchor (sym e.legal.1 ∙ live) in
      (unlocked c e.knows loose k.anchor refl, (c.root, ap (λ (z : Known). z.anchor) e.learned_is ∙ ap (λ o. (anchor_learned c found o k).anchor) loose))
    where
      unlocked : (c : Core) → Knows c k → c.anchor ≡ None → (o : Option (Option Entry)) → k.anchor ≡ o → k.anchor ≡ None
      unlocked c known loose None is = is
      unlocked c known loose (Some r) is = absurd (let z : None ≡ Some k.pass = sym loose ∙ ((knows_all c k known).anchor r is).0 in cc)

  -- what it loads of a node that it has locked is that of the words
  pub entry_of_locked : (n i w : ℕ) (words : List ℕ) → IsEvent layout (LoadRef (Slot n i) w) said k j → IsOneOf (record { node = n; words = words }) k.locks → (w ≡ get_or words (25 + i) 0) × (j.locks ≡ k.locks)
  entry_of_locked n i w words e h =
      let c = e.core in
      let (lock, tree, same) = all_of (IsLocked k.pass c) (record { node = n; words = words }) k.locks (knows_all c k e.knows).locks h in
      let next : 26 + i ≡ suc (25 + i) = omega arith in (
        e.legal.1.2 ∙ (ap (record_word c (a_node n)) next ∙ ap (λ ws. get_or ws (25 + i) 0) same),
        ap (λ (z : Known). z.locks) e.learned_is,
      )

  pub fixed_of_locked : (n offset w : ℕ) (words : List ℕ) → IsEvent layout (LoadFixed (a_node n) (suc offset) w) said k j → IsOneOf (record { node = n; words = words }) k.locks → (w ≡ get_or words offset 0) × (j.locks ≡ k.locks)
  fixed_of_locked n offset w words e h =
      let c = e.core in
      let (lock, tree, same) = all_of (IsLocked k.pass c) (record { node = n; words = words }) k.locks (knows_all c k e.knows).locks h in
      (e.legal.1.2 ∙ ap (λ ws. get_or ws offset 0) same, ap (λ (z : Known). z.locks) e.learned_is)

  -- what it loads of a leaf's value it remembers, and it is so still while what names the leaf is locked
  pub value_loaded : (l w : ℕ) → IsEvent layout (LoadRef (Value l) w) said k j → j.values ≡ record { leaf = l; value = w } ∷ k.values
  value_loaded l w e =
      ap (λ (z : Known). z.values) e.learned_is ∙ ap (λ z. let x : Loaded = record { leaf = l; value = z } in x ∷ k.values) (sym e.legal.1.1)

  -- New records

  pub claim_leaves : (r : Rec) (found : ℕ) → IsEvent layout (Claim r found) said k j → (j.locks ≡ k.locks) × (j.anchor ≡ k.anchor)
  claim_leaves r found e =
      let still = as_before k e.core (Claim r found) in
      (ap (λ (z : Known). z.locks) e.learned_is ∙ still.locks tt, ap (λ (z : Known). z.anchor) e.learned_is ∙ still.anchor tt)

  -- the next one is ready
  pub ready_gives_next : (m : Made) (done todo : List Made) → IsEvent layout (Ready m.rec) said k j → k.own ≡ map (held_as IsReady) done ++ (held_as Held m ∷ map (held_as Held) todo) →
      (IsOneOf m.rec (recs_of done) → ⊥) → (IsOneOf m.rec (recs_of todo) → ⊥) → j.own ≡ map (held_as IsReady) (done ++ m ∷ []) ++ map (held_as Held) todo
  ready_gives_next m done todo e own before behind =
      let next : with_holding m.rec IsReady (held_as Held m) ≡ held_as IsReady m = rw (same_rec_refl m.rec) refl in
      ap (λ (z : Known). z.own) e.learned_is ∙
      (ap (map (with_holding m.rec IsReady)) own ∙ (map-append (with_holding m.rec IsReady) (map (held_as IsReady) done) (held_as Held m ∷ map (held_as Held) todo) ∙
      (ap₂ (λ y ys. y ++ ys) (hold_others IsReady IsReady done m.rec before) (ap₂ (λ y ys. y ∷ ys) next (hold_others IsReady Held todo m.rec behind)) ∙
      (sym (append_assoc (map (held_as IsReady) done) (held_as IsReady m ∷ []) (map (held_as Held) todo)) ∙
      ap (λ z. z ++ map (held_as Held) todo) (sym (map-append (held_as IsReady) done (m ∷ [])))))))

  -- What the pass recalls

  abbrev AreSeen : Core → Known → Type 0
  AreSeen c i = (i.pass ≡ k.pass) × (i.pin ≡ k.pin) × OthersGoOn k.pass k.front i.front × ((s : Past) → All (IsFact s) i.facts → All (IsFact s) k.facts)

  facts_kept : (o : Option Pin) (f : ℕ → Fact) (s : Past) → All (IsFact s) (facts_with o f k.facts) → All (IsFact s) k.facts
  facts_kept None f s a = a
  facts_kept (Some p) f s a = All-tail (IsFact s) (f p.version) k.facts a

  still : (c : Core) (act : Act) → LeavesFront act → LeavesPin act → AreSeen c (learned_by c act k)
  still c act front pin =
      let kept = as_before k c act in
      (kept.pass, kept.pin pin, subst (OthersGoOn k.pass k.front) (sym (kept.front front)) (others_none k.pass k.front), λ s a. subst (All (IsFact s)) (kept.facts front) a)

  act_seen : (c : Core) (act : Act) → OthersGoOn k.pass k.front c.changes → KeepsRecall act → AreSeen c (learned_by c act k)
  act_seen c (LoadRef Root w) o t = (refl, refl, o, facts_kept k.pin _)
  act_seen c (LoadRef (Slot n i) w) o t = (refl, refl, o, facts_kept k.pin _)
  act_seen c (LoadRef (Value l) w) o t = (refl, refl, o, facts_kept k.pin _)
  act_seen c (LoadFixed r offset w) o t = (refl, refl, o, facts_kept k.pin _)
  act_seen c (Claim r found) o t = still c (Claim r found) tt tt
  act_seen c (Fill r offset w) o t = still c (Fill r offset w) tt tt
  act_seen c (Ready r) o t = still c (Ready r) tt tt
  act_seen c (Release r) o t = still c (Release r) tt tt
  act_seen c (Lock target found) o t = still c (Lock target found) tt tt
  act_seen c (Unlock target) o t = still c (Unlock target) tt tt
  act_seen c (Mark r epoch) o t = still c (Mark r epoch) tt tt
  act_seen c (LoadEpoch w) o t = still c (LoadEpoch w) tt tt
  act_seen c (Advance expected found) o t = still c (Advance expected found) tt tt
  act_seen c (LoadPin p w) o t = still c (LoadPin p w) tt tt
  act_seen c (LoadState r w) o t = still c (LoadState r w) tt tt
  act_seen c (GiveBack r epoch found) o t = still c (GiveBack r epoch found) tt tt
  act_seen c (Publish spot w) o t = absurd t
  act_seen c (SetPin w) o t = absurd t
  act_seen c ClearPin o t = absurd t
  act_seen c (Load words) o t = absurd t

  -- whatever a pass does but publish, pin and unpin, it recalls what it did
  pub recalls_on : (act : Act) → KeepsRecall act → IsEvent layout act said k j → IsLater k j
  recalls_on act t e =
      let (pass, pin, front, facts) = act_seen e.core act e.knows.seen.front t in record {
        pass = ap (λ (z : Known). z.pass) e.learned_is ∙ pass;
        pin = ap (λ (z : Known). z.pin) e.learned_is ∙ pin;
        front = subst (OthersGoOn k.pass k.front) (sym (ap (λ (z : Known). z.front) e.learned_is)) front;
        facts = λ s a. facts s (subst (All (IsFact s)) (ap (λ (z : Known). z.facts) e.learned_is) a);
      }

-- Attempts that fail, with the word that each found

module _ (layout : Layout) (k j : Known) where
  noted : (i : Known) → record i { notes = i.notes ++ [] } ≡ i
  noted i = ap (λ n. record i { notes = n }) (append-nil i.notes)

  failed_step : (c : Core) (act : Act) (kind : FailedAct) (location : Location) (found : ℕ) → j ≡ record (learned c act k) { notes = k.notes ++ [] } → learned_by c act k ≡ failed_with k kind location found →
      j ≡ record (failed_with k kind location found) { steps = k.steps + 1 }
  failed_step c act kind location found e is =
      e ∙ (ap (λ (z : Known). record z { steps = k.steps + 1; notes = k.notes ++ [] }) is ∙ noted (record (failed_with k kind location found) { steps = k.steps + 1 }))

  dead : (found n : ℕ) → (found ≡ n → ⊥) → nat_eq found n ≡ false
  dead found n ne = go (nat_eq found n) refl
    where
      go : (b : Bool) → nat_eq found n ≡ b → b ≡ false
      go true e = absurd (ne (eqb-true found n e))
      go false e = refl

  anchor_held : (c : Core) (found : ℕ) (o : Option ℕ) → found ≡ state_word (lock_tag o) → (found ≡ 2 → ⊥) → anchor_learned c found o k ≡ failed_with k (a_lock o) (target_word Anchor) found
  anchor_held c found None e ne = absurd (ne e)
  anchor_held c found (Some q) e ne = refl

  pub lock_fails : (target : Target) (found : ℕ) (e : IsEvent layout (Lock target found) silent k j) → (found ≡ 2 → ⊥) →
      j ≡ record (failed_with k (a_lock (blocking_pass_at e.core target)) (target_word target) found) { steps = k.steps + 1 }
  lock_fails Anchor found e ne = failed_step e.core (Lock Anchor found) (a_lock (blocking_pass_at e.core Anchor)) (target_word Anchor) found e.learned_is (anchor_held e.core found e.core.anchor e.legal.1 ne)
  lock_fails (NodeTarget n) found e ne = failed_step e.core (Lock (NodeTarget n) found) (a_lock (blocking_pass_at e.core (NodeTarget n))) (target_word (NodeTarget n)) found e.learned_is (rw (dead found 2 ne) refl)
