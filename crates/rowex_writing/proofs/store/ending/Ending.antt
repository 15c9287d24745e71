-- The store that makes a change, and what is known after the end of the change.
use Rattle.rowex_writing.proofs.Common.{◌≡◌, ℕ, eqb, ◌+◌, ◌*◌, ◌/◌, ◌%◌, ◌<◌, ◌≤◌, ◌^◌, List, Bool, true, false, Option, Some, sym, subst, ◌∙◌, arith, ne_eqb, Node, Change, BeginsWith, OthersGoOn, begins_on, others_on, HasEntryWord, Layout, Rec, AreApart, Publish, Event, Spot, Fresh, Known, AreKept, IsEvent, entry_of, nodes_of, HasPublished, Publishes, MayStep, silent, TableView, SeatView, act_leaves, IsAtRest, HasReady, IsPossible, Root, Slot, Value, IsOfEntry}
use Rattle.std.specs.Prelude.{IsSome}
use Rattle.rowex_writing.specs.build.Changes.{HasChanged, KnowsWas, MayPublishOnceReady}
use Rattle.rowex_writing.specs.locks.Going.{WorksOn}
use Rattle.rowex_writing.specs.store.Retiring.{HasJustPublished}
use Rattle.rowex_writing.specs.build.Putting.{IsAnchored}
use Rattle.rowex_writing.proofs.build.Building.{goes_possible}

-- ---- the word
-- a word that spells a node has a height in it
pub high : (n height : ℕ) → n < 2 ^ 32 → height < 2 ^ 16 → HasEntryWord (entry_of (2 ^ 34 * height + 4 * n + 2)) → 1 ≤ height
unfolding entry_of
high n height low small h =
    let other : eqb (2 ^ 34 * height + 4 * n + 2) 0 ≡ false = ne_eqb (2 ^ 34 * height + 4 * n + 2) 0 (λ z. omega arith) in
    let tagged : eqb ((2 ^ 34 * height + 4 * n + 2) % 4) 1 ≡ false = ne_eqb ((2 ^ 34 * height + 4 * n + 2) % 4) 1 (λ z. omega arith) in
    let is : (2 ^ 34 * height + 4 * n + 2) / 2 ^ 34 ≡ height = omega arith in
    let spelled : HasEntryWord (Some (Node ((2 ^ 34 * height + 4 * n + 2) / 4 % 2 ^ 32) ((2 ^ 34 * height + 4 * n + 2) / 2 ^ 34))) = rw (other, tagged) at h in
    subst (λ z. 1 ≤ z) is spelled.1

-- a word that may be published is that of an entry
pub word_spells : (layout : Layout) (k : Known) (spot : Spot) (w : ℕ) → IsOfEntry spot → IsPossible layout k → MayStep layout (λ found. Publish spot w) k → HasEntryWord (entry_of w)
word_spells layout k Root w of possible may = (may possible.core possible.lawful possible.layout_is possible.knows).1.entry.0
word_spells layout k (Slot n i) w of possible may = (may possible.core possible.lawful possible.layout_is possible.knows).1.entry.0
word_spells layout k (Value l) w of possible may = absurd of

-- ---- the store
pub word_published : (layout : Layout) (spot : Spot) (v w : ℕ) (k j : Known) → v ≡ w → IsEvent layout (Publish spot v) silent k j → IsEvent layout (Publish spot w) silent k j
word_published layout spot v w k j same e = subst (λ z. IsEvent layout (Publish spot z) silent k j) same e

module _ {G : Type 0} (table : TableView) (becomes : G → Event → G → Type 0) (a b : SeatView × G) (made : List Rec) (spot : Spot) (w : ℕ) (gone : List Rec) (goes : WorksOn table becomes a b) where
  -- all that it has made is ready
  module _ (x : Change) (was : Option ℕ) (m : MayPublishOnceReady table a.0 made spot w x was gone) (ready : HasReady b.0.known a.0.known.locks m.news) (told : KnowsWas a.0.known gone was) where
    pub now_publishes : Publishes table.layout b.0.known spot w x was gone
    now_publishes = m.publishes b.0.known goes.stays.0 ready goes.stays.2 (λ leaf i. let (value, is, loaded) = told leaf i in (value, is, goes.stays.3 leaf value loaded))

    pub now_spells : IsOfEntry spot → HasEntryWord (entry_of w)
    now_spells of = word_spells table.layout b.0.known spot w of (goes_possible table becomes a b goes m.building.possible) now_publishes.may

    module _ (kept : List ℕ) (keeps : AreKept (nodes_of a.0.known.locks) gone kept) (j : Known) (e : IsEvent table.layout (Publish spot w) silent b.0.known j) where
      pub published : HasPublished b.0.known j x was gone kept
      published = now_publishes.gives j kept (subst (λ z. AreKept (nodes_of z) gone kept) (sym goes.stays.1) keeps) e

      pub just_published : AreApart kept → HasJustPublished j gone kept
      just_published apart = (b.0.known, x, was, published, apart)

      -- the anchor is locked as it was
      pub still_anchored : (anchor : Bool) → IsAnchored anchor a.0.known → IsAnchored anchor j
      still_anchored true h = published.anchor.1 (subst (λ z. IsSome z) (sym goes.stays.2) h)
      still_anchored false h = published.anchor.0 (goes.stays.2 ∙ h)

      -- at rest again
      pub has_changed : (i : Known) → IsAtRest i → i.front ≡ j.front → i.fresh ≡ j.fresh → HasChanged a.0.known i x was
      has_changed i rest front fresh =
          let p = published in
          let since = p.others in
          let last : i.fresh ≡ b.0.known.fresh = fresh ∙ (act_leaves table.layout b.0.known j (Publish spot w) e).fresh tt in
          let seen : BeginsWith b.0.known.front b.0.known.fresh.front = e.knows.seen.fresh in
          record {
            rest = rest;
            before = p.before;
            others = others_on a.0.known.pass a.0.known.front b.0.known.front p.before goes.stays.0.front (subst (λ q. OthersGoOn q b.0.known.front p.before) goes.stays.0.pass since);
            front = front ∙ p.front;
            fresh = subst (λ (z : Fresh). BeginsWith p.before z.front) (sym last) (begins_on b.0.known.fresh.front b.0.known.front p.before seen (since.0, since.1));
            fits = p.fits;
            was_held = p.was_held;
          }
