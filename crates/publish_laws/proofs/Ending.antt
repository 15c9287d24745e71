-- From the publish to rest.
use Rattle.publish_laws.proofs.Common.{◌≡◌, inl, ℕ, List, [], ◌∷◌, refl, sym, ap, subst, ◌∙◌, Layout, Rec, Known, Owned, AreApart, not, a_node, owns_none, locks_none, marks_own, unlocks_node, unlock_round, epoch_owns, epoch_leaves, mark_gives, mark_leaves, unlock_gives, unlock_leaves, unlock_anchor_gives, silent}
use Rattle.versions.specs.declared.Round.{Round}
use Rattle.rowex_core.specs.Having.{OwnsJust, LocksJust, IsUnlinkedBefore, is_among}
use Rattle.rowex_table.proofs.Rights.{unlocks_anchor}
use Rattle.rowex_core.proofs.Having.Kept.{kept_are_not_gone, filter_apart}
use Rattle.publish_laws.specs.Ending.{KeptAreNotGone, EndInAnyOrder, EndBegins, EndMarks, EndRests, EndUnlocks, EndUnlocksAnchor, EndsAtOnce, MarksEach, Settles, UnlocksEach}

-- all marks
pub marked_all : (layout : Layout) (P : Owned → Type 0) (epoch : ℕ) (rs : List Rec) (k j : Known) → MarksEach layout epoch rs k j → OwnsJust k.own P rs → AreApart rs →
    (j.own ≡ []) × (j.locks ≡ k.locks) × (j.anchor ≡ k.anchor) × (j.front ≡ k.front)
marked_all layout P epoch [] k j e has apart = (ap (λ (z : Known). z.own) e ∙ owns_none P k.own has, ap (λ (z : Known). z.locks) e, ap (λ (z : Known). z.anchor) e, ap (λ (z : Known). z.front) e)
marked_all layout P epoch (r ∷ rs) k j (i, e, rest) has apart =
    let m = mark_leaves layout silent k i r epoch e in
    let n = marked_all layout P epoch rs i j rest (mark_gives layout silent k i P r rs epoch e has apart) apart.1 in
    (n.0, n.1 ∙ m.0, n.2 ∙ m.1, n.3 ∙ m.2)

-- all unlocks
pub unlocked_all : (layout : Layout) (ns : List ℕ) (k j : Known) → UnlocksEach layout ns k j → LocksJust k.locks ns → AreApart ns →
    (j.locks ≡ []) × (j.own ≡ k.own) × (j.anchor ≡ k.anchor) × (j.front ≡ k.front)
unlocked_all layout [] k j e has apart = (ap (λ (z : Known). z.locks) e ∙ locks_none k.locks has, ap (λ (z : Known). z.own) e, ap (λ (z : Known). z.anchor) e, ap (λ (z : Known). z.front) e)
unlocked_all layout (n ∷ ns) k j (i, e, rest) has apart =
    let m = unlock_leaves layout silent k i n e in
    let l = unlocked_all layout ns i j rest (unlock_gives layout silent k i n ns e has apart) apart.1 in
    (l.0, l.1 ∙ m.0, l.2 ∙ m.1, l.3 ∙ m.2)

-- One law an act

pub end_begins : EndBegins
end_begins layout k j i x was gone kept epoch done unlike load =
    let due = epoch_owns layout silent j i epoch gone load done.own in
    let still = epoch_leaves layout silent j i epoch load in (
      record { own = due.0; locks = subst (λ z. LocksJust z kept) (sym still.0) done.locks; recs_apart = done.apart; nodes_apart = unlike; epoch_is = due.1 },
      (still.2, still.1),
    )

pub ends_at_once : EndsAtOnce
ends_at_once k j x was kept done unlike = record {
  own = record { only = λ o i. absurd ((done.own.only o i).0); each = λ r i. absurd i };
  locks = done.locks;
  recs_apart = done.apart;
  nodes_apart = unlike;
  epoch_is = refl;
}

pub end_marks : EndMarks
end_marks layout k epoch r rs ns e = (
  marks_own layout k (r ∷ rs) r epoch e.own (inl refl) e.epoch_is,
  λ j event. (let still = mark_leaves layout silent k j r epoch event in (
    record {
      own = subst (λ (z : Round). OwnsJust j.own (IsUnlinkedBefore z.version) rs) (sym still.3) (mark_gives layout silent k j (IsUnlinkedBefore k.round.version) r rs epoch event e.own e.recs_apart);
      locks = subst (λ z. LocksJust z ns) (sym still.0) e.locks;
      recs_apart = e.recs_apart.1;
      nodes_apart = e.nodes_apart;
      epoch_is = e.epoch_is ∙ ap (λ (z : Round). z.epoch) (sym still.3);
    },
    (still.2, still.1),
  )),
)

pub end_unlocks : EndUnlocks
end_unlocks layout k epoch rs n ns e = (
  unlocks_node layout k (n ∷ ns) n e.locks (inl refl),
  λ j event. (let still = unlock_leaves layout silent k j n event in let round = unlock_round layout silent k j n event in (
    record {
      own = subst (λ (z : Round). OwnsJust j.own (IsUnlinkedBefore z.version) rs) (sym round) (subst (λ z. OwnsJust z (IsUnlinkedBefore k.round.version) rs) (sym still.0) e.own);
      locks = unlock_gives layout silent k j n ns event e.locks e.nodes_apart;
      recs_apart = e.recs_apart;
      nodes_apart = e.nodes_apart.1;
      epoch_is = e.epoch_is ∙ ap (λ (z : Round). z.epoch) (sym round);
    },
    (still.2, still.1),
  )),
)

pub end_rests : EndRests
end_rests k epoch e none = record { own = owns_none (IsUnlinkedBefore k.round.version) k.own e.own; locks = locks_none k.locks e.locks; anchor = none }

pub end_unlocks_anchor : EndUnlocksAnchor
end_unlocks_anchor layout k epoch rs ns e some = (
  unlocks_anchor layout k some,
  λ j event. (let (anchor, own, locks, front, round) = unlock_anchor_gives layout silent k j event in (
    record {
      own = subst (λ (z : Round). OwnsJust j.own (IsUnlinkedBefore z.version) rs) (sym round) (subst (λ z. OwnsJust z (IsUnlinkedBefore k.round.version) rs) (sym own) e.own);
      locks = subst (λ z. LocksJust z ns) (sym locks) e.locks;
      recs_apart = e.recs_apart;
      nodes_apart = e.nodes_apart;
      epoch_is = e.epoch_is ∙ ap (λ (z : Round). z.epoch) (sym round);
    },
    front,
    anchor,
  )),
)

pub settles : Settles
settles layout k j i h g x was gone kept epoch done unlike load marks unlocks =
    let due = epoch_owns layout silent j i epoch gone load done.own in
    let still = epoch_leaves layout silent j i epoch load in
    let marked = marked_all layout (IsUnlinkedBefore i.round.version) epoch gone i h marks due.0 done.apart in
    let held_on : LocksJust h.locks kept = subst (λ z. LocksJust z kept) (sym (marked.1 ∙ still.0)) done.locks in
    let free = unlocked_all layout kept h g unlocks held_on unlike in
    (free.1 ∙ marked.0, free.0, (free.3 ∙ (marked.3 ∙ still.2), free.2 ∙ (marked.2 ∙ still.1)))

-- Lists in another order

pub kept_apart : KeptAreNotGone
kept_apart held gone apart = (kept_are_not_gone held gone, filter_apart (λ n. not (is_among (a_node n) gone)) held apart)

pub end_in_any_order : EndInAnyOrder
end_in_any_order k epoch rs qs ns ms e recs nodes recs_apart nodes_apart = record {
  own = record { only = λ o i. (let h = e.own.only o i in (recs.0 o.rec h.0, h.1)); each = λ r i. e.own.each r (recs.1 r i) };
  locks = record { only = λ l i. nodes.0 l.node (e.locks.only l i); each = λ n i. e.locks.each n (nodes.1 n i) };
  recs_apart = recs_apart;
  nodes_apart = nodes_apart;
  epoch_is = e.epoch_is;
}
