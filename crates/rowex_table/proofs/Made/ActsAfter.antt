-- What a publish and the acts after it leave a pass, on the whole lists of what it has, and which of them it may make.
use Rattle.rowex_table.proofs.Common.{◌≡◌, ℕ, ◌<◌, List, [], ◌∷◌, ◌++◌, map, Option, None, IsSome, refl, sym, ap, subst, ◌∙◌, Entry, Change, Note, map_of, Fits, Layout, Rec, a_node, IsLived, InTree, life_of, Unlock, Publish, Mark, LoadEpoch, Root, Slot, Value, Anchor, NodeTarget, Known, Locked, Owned, Core, HasRecord, IsLawful, Knows, IsEvent, IsOwned, IsLocked, fate_of, knows_all, round_is, publish_is_a_step, IsOneOf, AreApart, HasTraded, all_of, of_map, has_mapped, owned_used, node_used, owned_after_publish, mark_owns, unlock_locks, IsLegalPublish, next_tree, next_change}
use Rattle.std.proofs.Common.{Some}
use Rattle.versions.specs.declared.Round.{Round}
use Rattle.rowex_core.specs.declared.event.Spot.{Spot}
use Rattle.rowex_table.specs.Rule.{MayStep}
use Rattle.rowex_core.specs.Having.{OwnsJust, LocksJust, AreKept, InAnyWay, IsUnlinked, IsUnlinkedBefore}
use Rattle.rowex_table.specs.Publishes.{HasPublished, Publishes}
use Rattle.rowex_table.specs.Runs.{silent}
use Rattle.rowex_table.specs.Made.{Made, held_as, recs_of, nodes_of}
use Rattle.rowex_core.specs.declared.known.Holding.TheVariants.{Ready}
use Rattle.rowex_core.proofs.Cores.Valuing.{legal_store}
use Rattle.finite_map.specs.Maps.{value_at}

-- In this core the store of the word at the spot is a legal publish by pass q of the change x: `was` is what the key's value was
-- before; just the records `new` are linked anew, and just the records `gone` are linked no more.
pub record IsPublishOf (c : Core) (q : ℕ) (spot : Spot) (w : ℕ) (x : Change) (was : Option ℕ) (new gone : List Rec) : Type 0 where
  pub legal : IsLegalPublish c q spot w
  pub change : next_change c q spot w ≡ x
  pub was_held : value_at (map_of c.changes) x.key ≡ was
  pub trade : HasTraded (c.past.version c.past.now) (next_tree c spot w) new gone

-- So in each core of which what the pass knows is true.
abbrev pub MayPublish : Layout → Known → Spot → ℕ → Change → Option ℕ → List Rec → List Rec → Type 0
MayPublish layout k spot w x was new gone = (c : Core) → IsLawful c → c.layout ≡ layout → Knows c k → IsPublishOf c k.pass spot w x was new gone

-- what a core says of one of the pass's own records, and of one of its locks
owned_in : (c : Core) (k : Known) → Knows c k → (o : Owned) → IsOneOf o k.own → IsOwned k.pass c o
owned_in c k known o i = all_of (IsOwned k.pass c) o k.own (knows_all c k known).own i

locked_in : (c : Core) (k : Known) → Knows c k → (l : Locked) → IsOneOf l k.locks → IsLocked k.pass c l
locked_in c k known l i = all_of (IsLocked k.pass c) l k.locks (knows_all c k known).locks i

module _ (layout : Layout) (k : Known) where
  -- Rights

  pub publishes_step : (spot : Spot) (w : ℕ) (x : Change) (was : Option ℕ) (new gone : List Rec) → MayPublish layout k spot w x was new gone → MayStep layout (λ found. Publish spot w) k
  publishes_step spot w x was new gone may c law at known = (known.pass, legal_store c k.pass spot w (may c law at known).legal)

  pub marks_own : (gone : List Rec) (r : Rec) (epoch : ℕ) → OwnsJust k.own (IsUnlinkedBefore k.round.version) gone → IsOneOf r gone → epoch ≡ k.round.epoch → MayStep layout (λ found. Mark r epoch) k
  marks_own gone r epoch has h is c law at known =
      let (o, i, e) = has.each r h in
      let (since, last, held, due) = (has.only o i).1 in
      let owned = owned_in c k known o i in (
        known.pass,
        (
          subst (HasRecord c.layout) e (owned_used c law k.pass o owned),
          is ∙ ap (λ (z : Round). z.epoch) (sym (round_is c k known)),
          (since, last, ap c.fate (sym e) ∙ (owned.0 ∙ ap (fate_of k.pass) held), subst (λ (z : Round). last < z.version) (sym (round_is c k known)) due),
        ),
      )

  pub unlocks_node : (nodes : List ℕ) (n : ℕ) → LocksJust k.locks nodes → IsOneOf n nodes → MayStep layout (λ found. Unlock (NodeTarget n)) k
  unlocks_node nodes n has h c law at known =
      let (l, i, e) = has.each n h in
      let (lock, tree, words) = locked_in c k known l i in
      (known.pass, subst (λ m. (m < c.layout.nodes) × (c.lock m ≡ Some k.pass) × ((since : ℕ) × (c.fate (a_node m) ≡ InTree since))) e (node_used c law l.node tree, lock, tree))

none_some : {e : Option Entry} → None ≡ Some e → ⊥
none_some e = cc

module _ (layout : Layout) (said : Known → List Note) (k j : Known) where
  -- What is left

  anchor_kept : (spot : Spot) (w : ℕ) → IsEvent layout (Publish spot w) said k j → (k.anchor ≡ None → j.anchor ≡ None) × (IsSome k.anchor → IsSome j.anchor)
  anchor_kept (Slot n m) w e = let same : j.anchor ≡ k.anchor = ap (λ (z : Known). z.anchor) e.learned_is in ((λ h. same ∙ h), (λ h. subst IsSome (sym same) h))
  anchor_kept (Value l) w e = let same : j.anchor ≡ k.anchor = ap (λ (z : Known). z.anchor) e.learned_is in ((λ h. same ∙ h), (λ h. subst IsSome (sym same) h))
  anchor_kept Root w e = (
    (λ h. absurd (none_some (sym h ∙ (knows_all e.core k e.knows).all_anchor e.legal.1.locked))),
    λ h. subst IsSome (sym (ap (λ (z : Known). z.anchor) e.learned_is)) refl,
  )

  pub publish_gives : (spot : Spot) (w : ℕ) (x : Change) (was : Option ℕ) (new gone : List Rec) (held kept : List ℕ) → IsEvent layout (Publish spot w) said k j →
      MayPublish layout k spot w x was new gone → OwnsJust k.own InAnyWay new → LocksJust k.locks held → AreKept held gone kept → HasPublished k j x was gone kept
  publish_gives spot w x was new gone held kept e may own locks keeps =
      let c = e.core in
      let p = may c e.lawful e.layout_is e.knows in
      let (told, by, fits, content) = publish_is_a_step c k.pass spot w e.lawful e.legal in
      let left = owned_after_publish c k spot w e.lawful e.knows new gone held kept p.trade own locks keeps in
      record {
        pass = ap (λ (z : Known). z.pass) e.learned_is;
        pin = ap (λ (z : Known). z.pin) e.learned_is;
        before = c.changes;
        others = e.knows.seen.front;
        front = ap (λ (z : Known). z.front) e.learned_is ∙ ap (λ z. c.changes ++ z ∷ []) p.change;
        fits = subst (λ z. Fits (map_of c.changes) z) p.change fits;
        was_held = p.was_held;
        own = subst (λ z. OwnsJust z IsUnlinked gone) (sym (ap (λ (z : Known). z.own) e.learned_is)) left.0;
        apart = p.trade.apart;
        locks = subst (λ z. LocksJust z kept) (sym (ap (λ (z : Known). z.locks) e.learned_is)) left.1;
        anchor = anchor_kept spot w e;
      }

  -- what it had unlinked is of before the load
  pub epoch_owns : (w : ℕ) (gone : List Rec) → IsEvent layout (LoadEpoch w) said k j → OwnsJust k.own IsUnlinked gone →
      OwnsJust j.own (IsUnlinkedBefore j.round.version) gone × (w ≡ j.round.epoch)
  epoch_owns w gone e has =
      let c = e.core in
      let own : j.own ≡ k.own = ap (λ (z : Known). z.own) e.learned_is in
      let now : j.round.version ≡ c.past.now = ap (λ (z : Known). z.round.version) e.learned_is in
      let due : (o : Owned) → IsOneOf o k.own → IsUnlinked o → IsUnlinkedBefore c.past.now o = λ o i u. (
        u.0,
        u.1,
        u.2,
        (subst (λ f. IsLived c.past.now (life_of f)) ((owned_in c k e.knows o i).0 ∙ ap (fate_of k.pass) u.2) (e.lawful.core.state.lived o.rec)).1,
      ) in (
        subst (λ z. OwnsJust z (IsUnlinkedBefore j.round.version) gone) (sym own)
            (subst (λ m. OwnsJust k.own (IsUnlinkedBefore m) gone) (sym now) (record { only = λ o i. ((has.only o i).0, due o i (has.only o i).1); each = has.each })),
        e.legal.1 ∙ sym (ap (λ (z : Known). z.round.epoch) e.learned_is),
      )

  pub epoch_leaves : (w : ℕ) → IsEvent layout (LoadEpoch w) said k j → (j.locks ≡ k.locks) × (j.anchor ≡ k.anchor) × (j.front ≡ k.front)
  epoch_leaves w e = (ap (λ (z : Known). z.locks) e.learned_is, ap (λ (z : Known). z.anchor) e.learned_is, ap (λ (z : Known). z.front) e.learned_is)

  pub mark_gives : (P : Owned → Type 0) (r : Rec) (rs : List Rec) (epoch : ℕ) → IsEvent layout (Mark r epoch) said k j → OwnsJust k.own P (r ∷ rs) → AreApart (r ∷ rs) → OwnsJust j.own P rs
  mark_gives P r rs epoch e has apart = subst (λ z. OwnsJust z P rs) (sym (ap (λ (z : Known). z.own) e.learned_is)) (mark_owns P k.own r rs has apart)

  pub mark_leaves : (r : Rec) (epoch : ℕ) → IsEvent layout (Mark r epoch) said k j → (j.locks ≡ k.locks) × (j.anchor ≡ k.anchor) × (j.front ≡ k.front) × (j.round ≡ k.round)
  mark_leaves r epoch e = (ap (λ (z : Known). z.locks) e.learned_is, ap (λ (z : Known). z.anchor) e.learned_is, ap (λ (z : Known). z.front) e.learned_is, ap (λ (z : Known). z.round) e.learned_is)

  pub unlock_gives : (n : ℕ) (ns : List ℕ) → IsEvent layout (Unlock (NodeTarget n)) said k j → LocksJust k.locks (n ∷ ns) → AreApart (n ∷ ns) → LocksJust j.locks ns
  unlock_gives n ns e has apart = subst (λ z. LocksJust z ns) (sym (ap (λ (z : Known). z.locks) e.learned_is)) (unlock_locks k.locks n ns has apart)

  pub unlock_leaves : (n : ℕ) → IsEvent layout (Unlock (NodeTarget n)) said k j → (j.own ≡ k.own) × (j.anchor ≡ k.anchor) × (j.front ≡ k.front)
  unlock_leaves n e = (ap (λ (z : Known). z.own) e.learned_is, ap (λ (z : Known). z.anchor) e.learned_is, ap (λ (z : Known). z.front) e.learned_is)

  pub unlock_round : (n : ℕ) → IsEvent layout (Unlock (NodeTarget n)) said k j → j.round ≡ k.round
  unlock_round n e = ap (λ (z : Known). z.round) e.learned_is

  pub unlock_anchor_gives : IsEvent layout (Unlock Anchor) said k j → (j.anchor ≡ None) × (j.own ≡ k.own) × (j.locks ≡ k.locks) × (j.front ≡ k.front) × (j.round ≡ k.round)
  unlock_anchor_gives e = (
    ap (λ (z : Known). z.anchor) e.learned_is,
    ap (λ (z : Known). z.own) e.learned_is,
    ap (λ (z : Known). z.locks) e.learned_is,
    ap (λ (z : Known). z.front) e.learned_is,
    ap (λ (z : Known). z.round) e.learned_is,
  )

-- Lists that are known exactly

pub owns_exact : (k : Known) (news : List Made) → k.own ≡ map (held_as Ready) news → OwnsJust k.own InAnyWay (recs_of news)
owns_exact k news own = record {
  only = λ o i. (let (m, h, e) = of_map (held_as Ready) o news (subst (IsOneOf o) own i) in
      (subst (λ z. IsOneOf z (recs_of news)) (sym (ap (λ (z : Owned). z.rec) e)) (has_mapped (λ (m : Made). m.rec) m news h), tt));
  each = λ r i. (let (m, h, e) = of_map (λ (m : Made). m.rec) r news i in (held_as Ready m, subst (IsOneOf (held_as Ready m)) (sym own) (has_mapped (held_as Ready) m news h), sym e));
}

pub locks_exact : (locks : List Locked) → LocksJust locks (nodes_of locks)
locks_exact locks = record {
  only = λ l i. has_mapped (λ (l : Locked). l.node) l locks i;
  each = λ n i. (let (l, h, e) = of_map (λ (l : Locked). l.node) n locks i in (l, h, sym e));
}

-- what may be published with just the records that it has made ready
pub publishes_made : (layout : Layout) (k : Known) (spot : Spot) (w : ℕ) (x : Change) (was : Option ℕ) (news : List Made) (gone : List Rec) → k.own ≡ map (held_as Ready) news →
    MayPublish layout k spot w x was (recs_of news) gone → Publishes layout k spot w x was gone
publishes_made layout k spot w x was news gone own may = record {
  may = publishes_step layout k spot w x was (recs_of news) gone may;
  gives = λ j kept keeps e. publish_gives layout silent k j spot w x was (recs_of news) gone (nodes_of k.locks) kept e may (owns_exact k news own) (locks_exact k.locks) keeps;
}
