-- From the publish to a pass that has nothing of its own and no lock.
use Rattle.std.specs.Prelude.{◌≡◌, ℕ, List, [], ◌∷◌, Option, None, IsSome}
use Rattle.finite_map.specs.declared.Change.{Change}
use Rattle.record_words.specs.declared.layout.Layout.{Layout}
use Rattle.record_words.specs.declared.records.Rec.{Rec}
use Rattle.versions.specs.Trades.{IsOneOf, AreApart}
use Rattle.rowex_core.specs.declared.event.Act.TheVariants.{Unlock, Mark, LoadEpoch}
use Rattle.rowex_core.specs.declared.event.Target.TheVariants.{Anchor, Node as NodeTarget}
use Rattle.rowex_core.specs.declared.known.Known.{Known}
use Rattle.rowex_core.specs.Having.{OwnsJust, LocksJust, AreKept, IsUnlinkedBefore, kept_locks}
use Rattle.rowex_core.specs.Knowing.{IsEvent}
use Rattle.rowex_table.specs.Rule.{MayStep}
use Rattle.rowex_table.specs.Publishes.{HasPublished}
use Rattle.rowex_table.specs.Runs.{silent}

-- The pass is at the end of an attempt, and its last load of the epoch found `epoch`. Its own records are just `recs`, each unlinked before
-- that load, and each still to be marked. It has locked just the nodes `nodes`. Both lists have each once. Of the anchor's lock nothing is
-- said.
pub record IsEnding (known : Known) (epoch : ℕ) (recs : List Rec) (nodes : List ℕ) : Type 0 where
  pub own : OwnsJust known.own (IsUnlinkedBefore known.round.version) recs
  pub locks : LocksJust known.locks nodes
  pub recs_apart : AreApart recs
  pub nodes_apart : AreApart nodes
  pub epoch_is : epoch ≡ known.round.epoch

-- the pass has seen the same changes as before, and knows the same of the anchor's lock
abbrev pub KeepsFrontAndAnchor : (old new : Known) → Type 0
KeepsFrontAndAnchor old new = (new.front ≡ old.front) × (new.anchor ≡ old.anchor)

-- the pass has no records of its own, and no locks
pub record IsAtRest (known : Known) : Type 0 where
  pub own : known.own ≡ []
  pub locks : known.locks ≡ []
  pub anchor : known.anchor ≡ None

-- Of the locked nodes `held`, each listed once, `kept_locks` lists just those whose records are not among the unlinked ones, `gone`, each
-- once.
abbrev pub KeptAreNotGone : Type 0
KeptAreNotGone = (held : List ℕ) (gone : List Rec) → AreApart held → AreKept held gone (kept_locks held gone) × AreApart (kept_locks held gone)

-- two lists have the same elements, in any order and any number
abbrev pub HaveSameElements : {X : Type 0} → (xs ys : List X) → Type 0
HaveSameElements {X} xs ys = ((x : X) → IsOneOf x xs → IsOneOf x ys) × ((x : X) → IsOneOf x ys → IsOneOf x xs)

-- After a publish, a load of the epoch begins the end of the attempt (`IsEnding`). The records that the publish unlinked are to be marked
-- with that epoch, and the nodes that it kept are to be unlocked. Front and anchor stay as they are.
abbrev pub EndBegins : Type 0
EndBegins =
    (layout : Layout) (before old new : Known) (change : Change) (was : Option ℕ) (gone : List Rec) (kept : List ℕ) (epoch : ℕ) →
    HasPublished before old change was gone kept →
    AreApart kept → IsEvent layout (LoadEpoch epoch) silent old new → IsEnding new epoch gone kept × KeepsFrontAndAnchor old new

-- A publish that unlinks nothing begins the end of the attempt (`IsEnding`) by itself: no record is to be marked, so no epoch need be
-- loaded.
abbrev pub EndsAtOnce : Type 0
EndsAtOnce =
    (old new : Known) (change : Change) (was : Option ℕ) (kept : List ℕ) → HasPublished old new change was [] kept → AreApart kept →
    IsEnding new new.round.epoch [] kept

-- A pass that ends an attempt may mark the first of its records with the epoch. Then it has the others still to mark, with the locked
-- nodes, the front and the anchor's lock as before.
abbrev pub EndMarks : Type 0
EndMarks =
    (layout : Layout) (old : Known) (epoch : ℕ) (rec : Rec) (recs : List Rec) (nodes : List ℕ) → IsEnding old epoch (rec ∷ recs) nodes →
    MayStep layout (λ found. Mark rec epoch) old ×
    ((new : Known) → IsEvent layout (Mark rec epoch) silent old new → IsEnding new epoch recs nodes × KeepsFrontAndAnchor old new)

-- A pass that ends an attempt may unlock the first of its nodes. Then it has the others still locked, with the records to mark, the front
-- and the anchor's lock as before.
abbrev pub EndUnlocks : Type 0
EndUnlocks =
    (layout : Layout) (old : Known) (epoch : ℕ) (recs : List Rec) (node : ℕ) (nodes : List ℕ) → IsEnding old epoch recs (node ∷ nodes) →
    MayStep layout (λ found. Unlock (NodeTarget node)) old ×
    ((new : Known) → IsEvent layout (Unlock (NodeTarget node)) silent old new → IsEnding new epoch recs nodes × KeepsFrontAndAnchor old new)

-- A pass that ends an attempt may unlock the anchor, if it has locked it. Its records to mark, its locked nodes and its front stay the
-- same.
abbrev pub EndUnlocksAnchor : Type 0
EndUnlocksAnchor =
    (layout : Layout) (old : Known) (epoch : ℕ) (recs : List Rec) (nodes : List ℕ) → IsEnding old epoch recs nodes → IsSome old.anchor →
    MayStep layout (λ found. Unlock Anchor) old ×
    ((new : Known) → IsEvent layout (Unlock Anchor) silent old new → IsEnding new epoch recs nodes × (new.front ≡ old.front) × (new.anchor ≡ None))

-- The records that a pass has to mark, and the nodes that it has to unlock, may be listed in any order, each once. So it may mark and
-- unlock in any order.
abbrev pub EndInAnyOrder : Type 0
EndInAnyOrder =
    (known : Known) (epoch : ℕ) (recs other_recs : List Rec) (nodes other_nodes : List ℕ) → IsEnding known epoch recs nodes →
    HaveSameElements recs other_recs → HaveSameElements nodes other_nodes →
    AreApart other_recs → AreApart other_nodes →
    IsEnding known epoch other_recs other_nodes

-- A pass that ends an attempt is at rest once it has no record to mark, no locked node, and no lock of the anchor.
abbrev pub EndRests : Type 0
EndRests = (known : Known) (epoch : ℕ) → IsEnding known epoch [] [] → known.anchor ≡ None → IsAtRest known

-- The loops

-- the pass marks these records with this epoch, one step for each, in the order of the list
abbrev pub MarksEach : (layout : Layout) → (epoch : ℕ) → (recs : List Rec) → (old new : Known) → Type 0
MarksEach layout epoch [] old new = new ≡ old
MarksEach layout epoch (rec ∷ recs) old new = (middle : Known) × IsEvent layout (Mark rec epoch) silent old middle × MarksEach layout epoch recs middle new

-- the pass unlocks these nodes, one step for each, in the order of the list
abbrev pub UnlocksEach : (layout : Layout) → (nodes : List ℕ) → (old new : Known) → Type 0
UnlocksEach layout [] old new = new ≡ old
UnlocksEach layout (node ∷ nodes) old new =
    (middle : Known) × IsEvent layout (Unlock (NodeTarget node)) silent old middle × UnlocksEach layout nodes middle new

-- Let a pass publish, load the epoch, mark each record that it has unlinked, and unlock each node that it keeps. Then it has no record and
-- no locked node. Its front, which ends with its own change, and its lock of the anchor are as after the publish.
abbrev pub Settles : Type 0
Settles =
    (layout : Layout) (before published ending marked rested : Known) (change : Change) (was : Option ℕ) (gone : List Rec) (kept : List ℕ) (epoch : ℕ) →
    -- from one moment to the next: the publish, the load of the epoch, the marks, the unlocks
    HasPublished before published change was gone kept →
    AreApart kept → IsEvent layout (LoadEpoch epoch) silent published ending → MarksEach layout epoch gone ending marked →
    UnlocksEach layout kept marked rested →
    (rested.own ≡ []) × (rested.locks ≡ []) × KeepsFrontAndAnchor published rested
