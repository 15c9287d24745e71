-- Records to mark, one less and none; from a publish to the first of them.
use Rattle.rowex_writing.proofs.Common.{◌≡◌, ℕ, ◌+◌, ◌<◌, ◌≤◌, List, [], ◌∷◌, length, get_or, drop, map, refl, sym, ap, subst, ◌∙◌, arith, All, drop_more, drop_all, length-map, All-cons, Layout, Rec, IsOneOf, none_of, LoadEpoch, Mark, Release, Event, Known, OwnsJust, IsUnlinkedBefore, LocksJust, IsEvent, silent, TableView, SeatView, epoch_owns, mark_gives, act_leaves, GivesUpAll}
use Rattle.versions.specs.declared.Round.{Round}
use Rattle.rowex_writing.proofs.locks.Spans.{locked_same}
use Rattle.rowex_writing.specs.locks.Locks.{HasJustLocked, LoadsNoRoot, Works, targets_of}
use Rattle.rowex_writing.specs.store.Retiring.{HasJustPublished, HasToMark}

pub first_due : (k : Known) (epoch : ℕ) (recs : List Rec) (i : ℕ) (d : Rec) → i < length recs → HasToMark k epoch (drop i recs) → HasToMark k epoch (get_or recs i d ∷ drop (i + 1) recs)
first_due k epoch recs i d low h = subst (HasToMark k epoch) (drop_more recs i d low) h

pub none_due : (k : Known) (epoch : ℕ) (recs : List Rec) (i : ℕ) → length recs ≤ i → HasToMark k epoch (drop i recs) → k.own ≡ []
none_due k epoch recs i past h = none_of k.own (λ o there. subst (λ (z : List Rec). IsOneOf o.rec z) (drop_all i recs past) (h.own.only o there).0)

module _ (layout : Layout) (k j : Known) where
  -- the first is marked
  pub due_less : (epoch : ℕ) (r : Rec) (rs : List Rec) → IsEvent layout (Mark r epoch) silent k j → HasToMark k epoch (r ∷ rs) → HasToMark j epoch rs
  due_less epoch r rs e h =
      let round = (act_leaves layout k j (Mark r epoch) e).round tt in
      record {
        own = subst (λ (z : Round). OwnsJust j.own (IsUnlinkedBefore z.version) rs) (sym round) (mark_gives layout silent k j (IsUnlinkedBefore k.round.version) r rs epoch e h.own h.apart);
        apart = h.apart.1;
        epoch_is = h.epoch_is ∙ ap (λ (z : Round). z.epoch) (sym round);
      }

  -- the epoch is loaded straight after the publish
  pub due_first : (epoch : ℕ) (gone : List Rec) (kept : List ℕ) → IsEvent layout (LoadEpoch epoch) silent k j → HasJustPublished k gone kept → HasToMark j epoch gone × HasJustLocked j kept
  due_first epoch gone kept e (i, x, was, done, apart) =
      let due = epoch_owns layout silent k j epoch gone e done.own in (
        record { own = due.0; apart = done.apart; epoch_is = due.1 },
        (subst (λ z. LocksJust z kept) (sym ((act_leaves layout k j (LoadEpoch epoch) e).locks tt)) done.locks, apart),
      )

-- ---- records given up
all_plain : (recs : List Rec) → All LoadsNoRoot (map (λ r. Release r) recs)
all_plain [] = λ i d low. absurd (omega arith)
all_plain (r ∷ recs) = All-cons LoadsNoRoot (Release r) (map (λ r. Release r) recs) tt (all_plain recs)

none_tried : (recs : List Rec) → targets_of (map (λ r. Release r) recs) ≡ []
none_tried [] = refl
none_tried (r ∷ recs) = none_tried recs

module _ {G : Type 0} (table : TableView) (becomes : G → Event → G → Type 0) (recs : List Rec) (a b : SeatView × G) (g : GivesUpAll table becomes recs a b) where
  pub given_works : Works table becomes a b
  given_works = record { acts = map (λ r. Release r) recs; each = all_plain recs; tried_are = none_tried recs; steps = g.does.steps }

  pub given_locks : (ns : List ℕ) → HasJustLocked a.0.known ns → HasJustLocked b.0.known ns
  given_locks ns h = locked_same a.0.known b.0.known ns (ap (λ (z : Known). z.locks) g.does.rest) h

  pub given_anchor : b.0.known.anchor ≡ a.0.known.anchor
  given_anchor = ap (λ (z : Known). z.anchor) g.does.rest

  pub given_few : b.0.known.steps ≡ a.0.known.steps + length recs
  given_few = ap (λ (z : Known). z.steps) g.does.rest ∙ ap (λ n. a.0.known.steps + n) (length-map recs (λ r. Release r))
