-- What follows a try of a change that found no record free: a count of the committed records says whether the refusal is final.
use Rattle.std.specs.Prelude.{◌≡◌, ◌⊎◌, ℕ, suc, ◌<◌, ◌≤◌, List, length, Result, Ok, Err}
use Rattle.finite_map.specs.declared.Call.{Call}
use Rattle.finite_map.specs.declared.Reply.{Reply}
use Rattle.finite_map.specs.Maps.{key_of}
use Rattle.record_words.specs.declared.TheConstants.{LARGE_BYTES, MEDIUM_BYTES, SHORT_BYTES, WIDE_BYTES}
use Rattle.record_words.specs.declared.layout.Layout.{Layout}
use Rattle.rowex_core.specs.declared.event.Event.{Event}
use Rattle.rowex_table.specs.Seats.{HasAllCommitted, TableView}
use Rattle.rowex_writing.specs.build.Changes.{LacksNodes}
use Rattle.rowex_writing.specs.build.Spare.{IsRemoval}
use Rattle.rowex_writing.specs.declared.attempts.TryFault.{TryFault}
use Rattle.rowex_writing.specs.declared.attempts.TryFault.TheVariants.{Busy}
use Rattle.rowex_writing.specs.declared.plan.Full.{Full}
use Rattle.rowex_writing.specs.declared.plan.Full.TheVariants.{Nodes, Leaves}
use Rattle.record_words.specs.declared.records.Rec.{Rec}
use Rattle.hot_index_calls.specs.Answers.{fault_of}
use Rattle.hot_index_calls.specs.Census.{HasCounted}
use Rattle.hot_index_calls.specs.Passes.{PassView}
use Rattle.hot_index_calls.specs.Rooms.{IsEarly}
use Rattle.hot_index_calls.specs.declared.census.RecordCounts.{RecordCounts}
use Rattle.hot_index_calls.specs.declared.census.StateCounts.{StateCounts}
use Rattle.hot_index_calls.specs.declared.refusals.Refusal.{Refusal}
use Rattle.hot_index_calls.specs.declared.refusals.Refusal.TheVariants.{Busy as IsBusy, HeldBack, Full as IsFull}

-- Of the committed records of one kind or class, fewer than `needs` are free, and no others may come back: none is claimed, and none is
-- retired. Uncommitted ones are counted apart.
pub record AreShort (needs : ℕ) (counts : StateCounts) : Type 0 where
  pub free : counts.free < needs
  pub held : counts.held ≡ 0
  pub obsolete : counts.obsolete ≡ 0

-- Of the committed records of one kind or class, none is claimed, and none is retired: each is free or live.
pub record AreAtRest (counts : StateCounts) : Type 0 where
  pub held : counts.held ≡ 0
  pub obsolete : counts.obsolete ≡ 0

-- Of the nodes and of each class of leaves, no record is claimed, and none is retired.
pub record AreAllAtRest (counts : RecordCounts) : Type 0 where
  pub nodes : AreAtRest counts.nodes
  pub short : AreAtRest counts.short
  pub medium : AreAtRest counts.medium
  pub large : AreAtRest counts.large
  pub wide : AreAtRest counts.wide
  pub long : AreAtRest counts.long

-- `IsSo` holds of the counts of each class of leaf records with room for a key of this length.
pub record OfLeaves (IsSo : StateCounts → Type 0) (length : ℕ) (counts : RecordCounts) : Type 0 where
  pub short : length ≤ SHORT_BYTES → IsSo counts.short
  pub medium : length ≤ MEDIUM_BYTES → IsSo counts.medium
  pub large : length ≤ LARGE_BYTES → IsSo counts.large
  pub wide : length ≤ WIDE_BYTES → IsSo counts.wide
  pub long : IsSo counts.long

-- Leaf records of a class have room for keys of up to `most` bytes. If a key of this length has room there, none of the class is free or may
-- come back by the counts. If all of the class are committed then, or the key has no room there, `Larger` holds of the larger classes.
pub record AreShortFrom (most length : ℕ) (counts : StateCounts) (Larger : Type 0) : Type 0 where
  pub here : length ≤ most → AreShort 1 counts
  pub larger : (length ≤ most → counts.uncommitted ≡ 0) → Larger

-- By the counts no leaf record with room for a key of this length is free, and none may come back, in each class up to the first that has
-- uncommitted ones. A change goes no further (`AreShortFrom`).
abbrev pub AreLeavesShort : (length : ℕ) (counts : RecordCounts) → Type 0
AreLeavesShort length counts =
    AreShortFrom SHORT_BYTES length counts.short (AreShortFrom MEDIUM_BYTES length counts.medium (AreShortFrom LARGE_BYTES length counts.large
    (AreShortFrom WIDE_BYTES length counts.wide (AreShort 1 counts.long))))

-- By the counts, the index is full for a change that lacks a record of the kind `lacks`. Of node records fewer than `needs` are free, and
-- none may come back. Of leaf records with room for a key of this length none is free, and none may come back, where the change looks for
-- one (`AreLeavesShort`).
abbrev pub IsShortOf : (lacks : Full) (needs length : ℕ) (counts : RecordCounts) → Type 0
IsShortOf Nodes needs length counts = AreShort needs counts.nodes
IsShortOf Leaves needs length counts = AreLeavesShort length counts

-- The refusal of a change that lacks a record of the kind `lacks` is final. Either the index is full by the counts (`IsShortOf`). Or it has
-- one pass, so that no other might give a record back.
abbrev pub IsFinal : (passes : ℕ) (lacks : Full) (needs length : ℕ) (counts : RecordCounts) → Type 0
IsFinal passes lacks needs length counts = (passes ≡ 1) ⊎ IsShortOf lacks needs length counts

-- What a change that lacks a record of the kind `lacks` is refused with, by the counts made after it. If it is final by these (`IsFinal`),
-- the refusal is `IsFull`, with the counts. Else it is `HeldBack`. It is never busy, and it names the kind that the change lacked.
abbrev pub IsRefusalByCounts : (passes : ℕ) (lacks : Full) (needs length : ℕ) (counts : RecordCounts) (refusal : Refusal) → Type 0
IsRefusalByCounts passes lacks needs length counts IsBusy = ⊥
IsRefusalByCounts passes lacks needs length counts (HeldBack full) = (full ≡ lacks) × ¬ (IsFinal passes lacks needs length counts)
IsRefusalByCounts passes lacks needs length counts (IsFull full shown) = (full ≡ lacks) × (shown ≡ counts) × IsFinal passes lacks needs length counts

-- the refusal isn't final: it says busy, or held back
abbrev pub IsPassing : Refusal → Type 0
IsPassing IsBusy = Unit {0}
IsPassing (HeldBack lacks) = Unit {0}
IsPassing (IsFull lacks counts) = ⊥

-- the fault of the try that was refused so; held back and full have the same one
abbrev pub fault_in : Refusal → TryFault
fault_in IsBusy = Busy
fault_in (HeldBack lacks) = fault_of lacks
fault_in (IsFull lacks counts) = fault_of lacks

-- the result of a try before the count of records: a reply, or the fault of the refusal
abbrev pub as_tried : Result Reply Refusal → Result Reply TryFault
as_tried (Ok reply) = Ok reply
as_tried (Err refusal) = Err (fault_in refusal)

-- A try that lacked a record of the kind `lacks` needs `needs` of them. Of node records that is one more than it had claimed and given up,
-- by its failed steps. Of leaf records nothing is said, since a change takes one.
abbrev pub NeedsBeside : (layout : Layout) (old new : PassView) (lacks : Full) (needs : ℕ) → Type 0
NeedsBeside layout old new Nodes needs = (own : List Rec) × LacksNodes layout old.seat.bounds new.number new.failed old.steps own × (needs ≡ suc (length own))
NeedsBeside layout old new Leaves needs = Unit {0}

-- After a try, from `old` to `middle`, the records were counted, and the counts decide on the refusal (`IsRefusalByCounts`). In an index of
-- one pass no record is claimed or retired then. If all its records were committed before the try, fewer are free than it needs. These two
-- hold while epochs are not used up (`IsEarly`).
pub record IsCountedAfter {G : Type 0} (call : Call) (lacks : Full) (refusal : Refusal) (index : TableView) (becomes : G → Event → G → Type 0)
    (old middle new : PassView × G) : Type 0 where
  pub needs : ℕ
  pub needed : NeedsBeside index.layout old.0 middle.0 lacks needs
  pub counts : RecordCounts
  pub counted : HasCounted index becomes middle new counts
  pub judged : IsRefusalByCounts index.layout.passes lacks needs (length (key_of call)) counts refusal
  pub alone : index.layout.passes ≡ 1 → IsEarly new.0.seat → AreAllAtRest counts
  pub short : index.layout.passes ≡ 1 → IsEarly new.0.seat → HasAllCommitted old.0.seat → IsShortOf lacks needs (length (key_of call)) counts

-- The call is a removal in an index of several passes. Insertions leave one node record for removals. So if a removal finds none free, it
-- is held back: another call has that record, or keeps a retired one from reuse.
abbrev pub HasNodeLeft : (passes : ℕ) (call : Call) → Type 0
HasNodeLeft passes call = (1 < passes) × IsRemoval call

-- What follows a refused try, from `old` to `middle`. After a busy one nothing is counted. A removal with several passes (`HasNodeLeft`)
-- may be held back without a count, and is never full. After any other refusal the records are counted, and the counts give the refusal.
abbrev pub FollowsRefusal : {G : Type 0} → (call : Call) (index : TableView) (becomes : G → Event → G → Type 0)
    (old middle new : PassView × G) (refusal : Refusal) → Type 0
FollowsRefusal call index becomes old middle new IsBusy = new ≡ middle
FollowsRefusal call index becomes old middle new (HeldBack lacks) =
    (HasNodeLeft index.layout.passes call × (new ≡ middle)) ⊎ IsCountedAfter call lacks (HeldBack lacks) index becomes old middle new
FollowsRefusal call index becomes old middle new (IsFull lacks counts) =
    ¬ (HasNodeLeft index.layout.passes call) × IsCountedAfter call lacks (IsFull lacks counts) index becomes old middle new

-- what follows a try, from `old` to `middle`: nothing if it was answered, and else what follows its refusal
abbrev pub FollowsTry : {G : Type 0} → (call : Call) (result : Result Reply Refusal) (index : TableView)
    (becomes : G → Event → G → Type 0) (old middle new : PassView × G) → Type 0
FollowsTry call (Ok reply) index becomes old middle new = new ≡ middle
FollowsTry call (Err refusal) index becomes old middle new = FollowsRefusal call index becomes old middle new refusal
