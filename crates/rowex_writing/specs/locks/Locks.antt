-- Which locks a writer tries and has, and why one was refused.
use Rattle.std.specs.Prelude.{◌≡◌, ◌≢◌, ◌⊎◌, ℕ, ◌+◌, ◌-◌, ◌<◌, ◌≤◌, List, [], ◌∷◌, length, get_or, map, All, Contains, IsSome, Some, None, slice_range}
use Rattle.finite_map.specs.declared.Change.{Change}
use Rattle.insert_cases.specs.declared.choice.PathNode.{PathNode}
use Rattle.compound_node.specs.declared.entries.Entry.TheVariants.{Node}
use Rattle.record_words.specs.declared.layout.Layout.{Layout}
use Rattle.record_words.specs.declared.state.Tag.TheVariants.{Locked as LockedTag, Obsolete}
use Rattle.record_words.specs.State.{state_word}
use Rattle.versions.specs.declared.Pin.{Pin}
use Rattle.versions.specs.Trades.{IsOneOf, AreApart}
use Rattle.version_laws.specs.Scan.{EntryStoodSince}
use Rattle.rowex_core.specs.declared.event.Act.{Act}
use Rattle.rowex_core.specs.declared.event.Act.TheVariants.{ClearPin, GiveBack, LoadRef, Lock, SetPin}
use Rattle.rowex_core.specs.declared.event.Event.{Event}
use Rattle.rowex_core.specs.declared.event.Spot.TheVariants.{Root}
use Rattle.rowex_core.specs.declared.event.Target.{Target}
use Rattle.rowex_core.specs.declared.event.Target.TheVariants.{Node as NodeTarget}
use Rattle.rowex_core.specs.declared.known.Failed.{Failed}
use Rattle.rowex_core.specs.declared.known.FailedAct.TheVariants.{Lock as a_lock}
use Rattle.rowex_core.specs.declared.known.Known.{Known}
use Rattle.rowex_core.specs.declared.known.Locked.{Locked}
use Rattle.rowex_core.specs.Events.{target_word}
use Rattle.rowex_core.specs.Having.{LocksJust}
use Rattle.rowex_core.specs.Knowing.{IsPinnedSince}
use Rattle.rowex_reading.specs.Possible.{IsPossible}
use Rattle.rowex_table.specs.Made.{IsLater, nodes_of}
use Rattle.rowex_table.specs.Stays.{KeepsRecall}
use Rattle.rowex_table.specs.Runs.{Runs}
use Rattle.rowex_table.specs.Seats.{TableView, SeatView, IsSeatOf}
use Rattle.publish_laws.specs.Stages.{IsSure}
use Rattle.rowex_writing.specs.declared.plan.Span.{Span}

-- The step may be one of an attempt: it neither sets nor clears the pin, and gives no record back. Any other step counts.
abbrev pub IsOfAttempt : Act → Type 0
IsOfAttempt (SetPin word) = ⊥
IsOfAttempt ClearPin = ⊥
IsOfAttempt (GiveBack rec epoch found) = ⊥
IsOfAttempt act = Unit {0}

-- The step is no load of the root, no publish, no bulk load and no return of a record. It neither sets nor clears the pin of its pass.
abbrev pub LoadsNoRoot : Act → Type 0
LoadsNoRoot (LoadRef Root word) = ⊥
LoadsNoRoot (GiveBack rec epoch found) = ⊥
LoadsNoRoot act = KeepsRecall act

-- the targets that these acts try to lock, in the order of the tries; a refused try counts, too
abbrev pub targets_of : List Act → List Target
targets_of [] = []
targets_of (Lock target found ∷ acts) = target ∷ targets_of acts
targets_of (act ∷ acts) = targets_of acts

-- the acts try to lock no target twice
abbrev pub TriesLocksOnce : List Act → Type 0
TriesLocksOnce acts = AreApart (targets_of acts)

-- The pass makes steps, each of the kind `Is`, and the gate is told each. The steps try just the locks `tried`, in that order.
pub record TriesBy {G : Type 0} (Is : Act → Type 0) (table : TableView) (becomes : G → Event → G → Type 0) (tried : List Target)
    (old new : SeatView × G) : Type 0 where
  pub acts : List Act
  pub each : All Is acts
  pub tried_are : targets_of acts ≡ tried
  pub steps : Runs table becomes acts old new

-- the pass makes steps, each of the kind `Is`, and the gate is told each; they try `locks` different locks, each once
abbrev pub TriesOnceBy : {G : Type 0} → (Is : Act → Type 0) → (table : TableView) → (becomes : G → Event → G → Type 0) → (locks : ℕ) →
    (old new : SeatView × G) → Type 0
TriesOnceBy Is table becomes locks old new =
    (tried : List Target) × (run : TriesBy Is table becomes tried old new) × TriesLocksOnce run.acts × (length tried ≡ locks)

-- The pass makes steps that load no root, publish nothing, give no record back and leave its pin (`LoadsNoRoot`). The gate is told each.
-- They try just the locks `tried`, in that order.
abbrev pub Tries : {G : Type 0} → (table : TableView) → (becomes : G → Event → G → Type 0) → (tried : List Target) →
    (old new : SeatView × G) → Type 0
Tries table becomes tried old new = TriesBy LoadsNoRoot table becomes tried old new

-- The pass makes steps that load no root, try no lock, publish nothing, give no record back and leave its pin. The gate is told each.
abbrev pub Works : {G : Type 0} → (table : TableView) → (becomes : G → Event → G → Type 0) → (old new : SeatView × G) → Type 0
Works table becomes old new = Tries table becomes [] old new

-- The pass makes steps that load no root, publish nothing, give no record back and leave its pin (`LoadsNoRoot`). The gate is told each.
-- They try `locks` different locks, each once.
abbrev pub TriesOnce : {G : Type 0} → (table : TableView) → (becomes : G → Event → G → Type 0) → (locks : ℕ) → (old new : SeatView × G) →
    Type 0
TriesOnce table becomes locks old new = TriesOnceBy LoadsNoRoot table becomes locks old new

-- The pass makes steps, each of the kind `Is`, and the gate is told each. They try the lock of each node in `nodes` once, in any order, and
-- no other lock.
pub record TriesNodesBy {G : Type 0} (Is : Act → Type 0) (table : TableView) (becomes : G → Event → G → Type 0) (nodes : List ℕ)
    (old new : SeatView × G) : Type 0 where
  pub tried : List Target
  pub run : TriesBy Is table becomes tried old new
  pub once : TriesLocksOnce run.acts
  pub count : length tried ≡ length nodes
  pub among : (target : Target) → IsOneOf target tried → IsOneOf target (map NodeTarget nodes)

-- The pass makes steps that load no root, publish nothing, give no record back and leave its pin (`LoadsNoRoot`). The gate is told each.
-- They try the lock of each node in `nodes` once, in any order, and no other lock.
abbrev pub TriesNodes : {G : Type 0} → (table : TableView) → (becomes : G → Event → G → Type 0) → (nodes : List ℕ) →
    (old new : SeatView × G) → Type 0
TriesNodes table becomes nodes old new = TriesNodesBy LoadsNoRoot table becomes nodes old new

-- the pass has locked no node, nor the anchor
abbrev pub HasNoLock : Known → Type 0
HasNoLock known = (known.locks ≡ []) × (known.anchor ≡ None)

-- the pass has locked just these nodes, each listed once
abbrev pub HasJustLocked : (known : Known) → (nodes : List ℕ) → Type 0
HasJustLocked known nodes = LocksJust known.locks nodes × AreApart nodes

-- the numbers of the nodes of a path
abbrev pub numbers_of : List PathNode → List ℕ
numbers_of steps = map (λ (node : PathNode). node.number) steps

-- each step of the path has the number of one of the table's node records
abbrev pub AreNodes : Layout → List PathNode → Type 0
AreNodes layout steps = All (λ (node : PathNode). node.number < layout.nodes) steps

-- The step's number is that of one of the table's node records. The pass is sure that this record stood in the tree, with some height, in a
-- version since its pin.
abbrev pub IsLedStep : (layout : Layout) → (known : Known) → (node : PathNode) → Type 0
IsLedStep layout known node =
    (node.number < layout.nodes) ×
    ((since : ℕ) × (height : ℕ) × IsPinnedSince known since × IsSure known (λ past. EntryStoodSince past since (Node node.number height)))

-- the pass was led to each node of the path, as `IsLedStep` says
abbrev pub AreLed : (layout : Layout) → (known : Known) → (steps : List PathNode) → Type 0
AreLed layout known steps = All (IsLedStep layout known) steps

-- the numbers of the nodes to lock for a span of the path: those of its nodes, and of the one above them, if there is one
abbrev pub span_numbers : List PathNode → Span → List ℕ
span_numbers way span = numbers_of (slice_range way (span.end - 1) span.len)

-- how many locks a span takes: one for each of its nodes, and one for the node above, or for the anchor if there is none above
abbrev pub locks_of : Span → ℕ
locks_of span = span.len - span.end + 1

-- The pass has locked just the nodes of the span, and the node above them. If the span goes up to the root, it has locked the anchor in
-- place of a node above. Else it hasn't locked the anchor.
pub record HasLockedSpan (known : Known) (way : List PathNode) (span : Span) : Type 0 where
  pub nodes : HasJustLocked known (span_numbers way span)
  pub top : span.end ≡ 0 → IsSome known.anchor
  pub below : 0 < span.end → known.anchor ≡ None

-- the state word is that of a node or an anchor that is locked, or of a retired node
abbrev pub IsTakenWord : (word : ℕ) → Type 0
IsTakenWord word = (word ≡ state_word LockedTag) ⊎ ((epoch : ℕ) × (word ≡ state_word (Obsolete epoch)))

-- Among the failed steps `tried` is a try of a lock, of number `since` or later. It found the target's word locked, or that of a retired
-- node. Another pass of the index had that lock, or had unlinked that node.
pub record HasMetTaken (layout : Layout) (pass since : ℕ) (tried : List Failed) : Type 0 where
  pub target : Target
  pub failed : Failed
  pub is : Contains tried failed
  pub by : ℕ
  pub act : failed.act ≡ a_lock (Some by)
  pub another : by ≢ pass
  pub below : by < layout.passes
  pub place : failed.location ≡ target_word target
  pub word : IsTakenWord failed.word
  pub now : since ≤ failed.step

-- after it knew `old`, the pass has tried a lock that another pass had, or whose node another pass had unlinked
abbrev pub HasMetLock : (layout : Layout) → (old new : Known) → Type 0
HasMetLock layout old new = HasMetTaken layout old.pass old.steps new.failed

-- of the changes from number `first` on, none is by this pass
abbrev pub NoChangeFrom : (pass first : ℕ) → (changes : List Change) → Type 0
NoChangeFrom pass first changes = (place : ℕ) (change : Change) → first ≤ place → place < length changes → (get_or changes place change).pass ≢ pass

-- if the pass is pinned, it has made no change since its pin
abbrev pub HasMadeNoChange : Known → Type 0
HasMadeNoChange known = (pin : Pin) → known.pin ≡ Some pin → NoChangeFrom known.pass pin.version known.front

-- The parts

-- The pass has locked node `number`, which it had not locked before, and lists it in front of its other locks. Its own records and what it
-- knows of the anchor are as before.
abbrev pub LocksOne : (number : ℕ) → (old new : Known) → Type 0
LocksOne number old new =
    ((words : List ℕ) × (new.locks ≡ record { node = number; words = words } ∷ old.locks)) × ¬ (IsOneOf number (nodes_of old.locks)) ×
    (new.own ≡ old.own) ×
    (new.anchor ≡ old.anchor)

-- the pass has locked node `number`, which is not among the locks `held`, and lists it in front of these
abbrev pub LocksLast : (number : ℕ) → (held : List Locked) → (known : Known) → Type 0
LocksLast number held known = ((words : List ℕ) × (known.locks ≡ record { node = number; words = words } ∷ held)) × ¬ (IsOneOf number (nodes_of held))

-- the pass has locked the anchor, and has the same other locks and records
abbrev pub LocksAnchor : (old new : Known) → Type 0
LocksAnchor old new = IsSome new.anchor × (new.locks ≡ old.locks) × (new.own ≡ old.own)

-- the pass has the same locks and records
abbrev pub KeepsLocksAndRecords : (old new : Known) → Type 0
KeepsLocksAndRecords old new = (new.locks ≡ old.locks) × (new.anchor ≡ old.anchor) × (new.own ≡ old.own)

-- The pass has gone on since it knew `old`: it has the same pin and own records, and its facts still hold. It has newly seen only changes
-- of others. Its seat is one of the table's, and what it knows is true of some lawful core.
abbrev pub KeepsRecords : (table : TableView) → (old : Known) → (seat : SeatView) → Type 0
KeepsRecords table old seat = IsLater old seat.known × IsSeatOf table seat × IsPossible table.layout seat.known × (seat.known.own ≡ old.own)

-- The pass may try the lock of node `number`: it is sure that the node stood in the tree in a version since its pin. It has no record, has
-- not locked the node, and has made no change since its pin. So if the lock is refused, another pass is in the way.
pub record HasNotLocked (known : Known) (number : ℕ) : Type 0 where
  pub since : ℕ
  pub height : ℕ
  pub pinned : IsPinnedSince known since
  pub led : IsSure known (λ past. EntryStoodSince past since (Node number height))
  pub own : known.own ≡ []
  pub free : ¬ (IsOneOf number (nodes_of known.locks))
  pub quiet : HasMadeNoChange known

-- a lock of the pass was refused, and the pass has the same locks and records as before
abbrev pub IsRefusedLock : (layout : Layout) → (old new : Known) → Type 0
IsRefusedLock layout old new = HasMetLock layout old new × (new.locks ≡ old.locks) × (new.anchor ≡ old.anchor) × (new.own ≡ old.own)

-- The pass knows the same as before of its records, the anchor, the changes, its round and its failed steps. Its locked nodes may be
-- others.
abbrev pub KnowsSameButLocks : (old new : Known) → Type 0
KnowsSameButLocks old new =
    (new.own ≡ old.own) × (new.anchor ≡ old.anchor) × (new.front ≡ old.front) × (new.round ≡ old.round) × (new.failed ≡ old.failed)

-- The pass makes steps that neither set nor clear its pin and give no record back (`IsOfAttempt`). The gate is told each. They try just the
-- locks `tried`, in that order.
abbrev pub HasTried : {G : Type 0} → (table : TableView) → (becomes : G → Event → G → Type 0) → (tried : List Target) →
    (old new : SeatView × G) → Type 0
HasTried table becomes tried old new = TriesBy IsOfAttempt table becomes tried old new

-- The pass makes steps that neither set nor clear its pin, give no record back, and try no lock. They may publish. The gate is told each.
abbrev pub HasRun : {G : Type 0} → (table : TableView) → (becomes : G → Event → G → Type 0) → (old new : SeatView × G) → Type 0
HasRun table becomes old new = HasTried table becomes [] old new

-- The pass makes steps that neither set nor clear its pin and give no record back (`IsOfAttempt`). The gate is told each. They try `locks`
-- different locks, each once.
abbrev pub HasTriedOnce : {G : Type 0} → (table : TableView) → (becomes : G → Event → G → Type 0) → (locks : ℕ) → (old new : SeatView × G) →
    Type 0
HasTriedOnce table becomes locks old new = TriesOnceBy IsOfAttempt table becomes locks old new
