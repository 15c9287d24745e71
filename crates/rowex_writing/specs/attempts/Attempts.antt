-- One attempt of a call that may change the map: what it returns, and why it is refused.
use Rattle.std.specs.Prelude.{◌≡◌, ◌≢◌, ◌⊎◌, ℕ, ◌<◌, ◌≤◌, List, [], ◌++◌, length, All, Option, Some, None, Result, Err}
use Rattle.finite_map.specs.declared.Call.{Call}
use Rattle.finite_map.specs.declared.Call.TheVariants.{Insert, Remove, RemoveIf, Upsert}
use Rattle.finite_map.specs.declared.Change.{Change}
use Rattle.finite_map.specs.declared.Reply.{Reply}
use Rattle.finite_map.specs.Calls.{change_of, effect_of}
use Rattle.finite_map.specs.Fronts.{OthersGoOn}
use Rattle.finite_map.specs.Maps.{key_of}
use Rattle.record_words.specs.declared.layout.Layout.{Layout}
use Rattle.tries.specs.Keys.{Key}
use Rattle.record_words.specs.declared.records.Rec.{Rec}
use Rattle.rowex_core.specs.declared.event.Act.{Act}
use Rattle.rowex_core.specs.declared.event.Act.TheVariants.{LoadRef}
use Rattle.rowex_core.specs.declared.event.Event.{Event}
use Rattle.rowex_core.specs.declared.event.Spot.TheVariants.{Root}
use Rattle.rowex_core.specs.declared.known.Known.{Known}
use Rattle.rowex_core.specs.Knowing.{IsPinnedSince}
use Rattle.rowex_reading.specs.Lookups.{HasFound}
use Rattle.rowex_reading.specs.Reads.{IsBelowRoot, entries_in}
use Rattle.rowex_table.specs.Runs.{Runs}
use Rattle.rowex_table.specs.Seats.{TableView, SeatView}
use Rattle.rowex_writing.specs.plan.Asking.{reply_to}
use Rattle.rowex_writing.specs.build.Changes.{HasChanged, HasNoRoom, IsFull}
use Rattle.rowex_writing.specs.declared.plan.job.Job.{Job}
use Rattle.rowex_table.specs.Made.{IsLater}
use Rattle.publish_laws.specs.Ending.{IsAtRest}
use Rattle.rowex_writing.specs.plan.Counts.{attempt_steps, most_locks, most_nodes}
use Rattle.rowex_writing.specs.locks.Locks.{HasMetLock, IsOfAttempt, TriesLocksOnce, targets_of}
use Rattle.rowex_writing.specs.declared.plan.Full.{Full}
use Rattle.rowex_writing.specs.declared.plan.Full.TheVariants.{Nodes, Leaves}
use Rattle.rowex_writing.specs.declared.attempts.TryFault.{TryFault}
use Rattle.rowex_writing.specs.declared.attempts.TryFault.TheVariants.{Busy, FullNodes, FullLeaves}
use Rattle.rowex_reading.specs.Seen.{Sure}
use Rattle.versions.specs.State.{IsHeldSince, WasAbsentSince}
use Rattle.rowex_writing.specs.store.Values.{HasMoved}

-- the step may be one of a search: a load of the root, of an entry of a node, of a leaf's value, or of another word of a record but its
-- state
abbrev pub IsOfSearch : Act → Type 0
IsOfSearch (LoadRef Root word) = Unit {0}
IsOfSearch act = IsBelowRoot act

-- The acts are those of one attempt, but for those on its pin: the loads of a search, then the rest. None gives a record back, and none
-- tries a lock that was tried before. The search loads at most `most_nodes` entries of nodes, and at most `most_locks` locks are tried. The
-- number of all acts is bounded by these two.
pub record AreAttemptSteps (layout : Layout) (acts : List Act) : Type 0 where
  pub search : List Act
  pub rest : List Act
  pub acts_are : acts ≡ search ++ rest
  pub searches : All IsOfSearch search
  pub pinned : All IsOfAttempt acts
  pub once : TriesLocksOnce acts
  pub depth : entries_in search ≤ most_nodes
  pub locks : length (targets_of acts) ≤ most_locks
  pub few : length acts ≤ attempt_steps layout (entries_in search) (length (targets_of acts))

-- The pass makes the steps of one attempt, but for those on its pin (`AreAttemptSteps`), and the gate is told each.
abbrev pub HasAttempted : {G : Type 0} → (table : TableView) → (becomes : G → Event → G → Type 0) → (old new : SeatView × G) → Type 0
HasAttempted table becomes old new = (acts : List Act) × AreAttemptSteps table.layout acts × Runs table becomes acts old new

-- In a version since the pass's last load of the root, the call's key had a value, or none. By that value this is the call's reply, and a
-- call with this reply changes nothing.
abbrev pub HasLooked : (known : Known) → (call : Call) → (reply : Reply) → Type 0
HasLooked known call reply = (held : Option ℕ) × HasFound known (key_of call) held × (reply ≡ reply_to call held) × (effect_of call reply ≡ None)

-- A call of the pass with this reply makes this change. `was` is the value that the key had before, or none, for which the map gives this
-- reply.
abbrev pub IsChangeOf : (pass : ℕ) → (call : Call) → (reply : Reply) → (change : Change) → (was : Option ℕ) → Type 0
IsChangeOf pass call reply change was =
    (reply ≡ reply_to call was) × (change_of pass (record { place = 0; call = call; reply = reply }) ≡ Some change)

-- Why a planned change was not made; the pass is at rest, and its front has grown by changes of others alone. Busy: it has seen a change
-- made since the job's search loaded the root. Full: no record of the kind was free when one was wanted, of those that are committed by
-- these bounds.
abbrev pub HasFailed : (layout : Layout) → (bounds : List ℕ) → (job : Job) → (old new : Known) → (made : List Rec) → (fault : TryFault) → Type 0
HasFailed layout bounds job old new made Busy = IsAtRest new × IsLater old new × HasMoved layout job old new
HasFailed layout bounds job old new made FullNodes = HasNoRoom layout bounds job.key.now old new made Nodes
HasFailed layout bounds job old new made FullLeaves = HasNoRoom layout bounds job.key.now old new made Leaves

-- the fault of an attempt for which no record of this kind was free
abbrev pub refusal_of : Full → TryFault
refusal_of Nodes = FullNodes
refusal_of Leaves = FullLeaves

-- The attempt has ended with this reply. Either it has only looked, and the changes in the pass's front since `old` are other passes'. Or
-- the pass has made one change, the one that the reply tells.
abbrev pub HasAnswered : (old new : Known) → (call : Call) → (reply : Reply) → Type 0
HasAnswered old new call reply = (HasLooked new call reply × OthersGoOn old.pass old.front new.front) ⊎
    ((change : Change) × (was : Option ℕ) × IsChangeOf old.pass call reply change was × HasChanged old new change was)

-- a removal does not return `leaves`, the fault that no leaf record was free; of other calls nothing is said
abbrev pub LacksNoLeaf : {F : Type 0} → (leaves : F) → (call : Call) → (result : Result Reply F) → Type 0
LacksNoLeaf leaves (Remove key) result = result ≢ Err leaves
LacksNoLeaf leaves (RemoveIf key expected) result = result ≢ Err leaves
LacksNoLeaf leaves call result = Unit {0}

-- By these bounds those records are committed which an attempt at the call must find not free before it lacks one, of those that its pass
-- knew to be committed by `bounds`. A removal goes on over uncommitted node records, and must find each one not free.
abbrev pub bounds_for : (call : Call) → (bounds : List ℕ) → List ℕ
bounds_for (Remove key) bounds = []
bounds_for (RemoveIf key expected) bounds = []
bounds_for call bounds = bounds

-- Why an attempt was refused. Busy: another pass had locked or unlinked what it had to lock, or the pass has seen a change made since its
-- pin. Full: no node record was found free since `old`, or no leaf record with room for the key, of those that are committed by these
-- bounds.
abbrev pub IsAttemptCause : (layout : Layout) → (bounds : List ℕ) → (key : Key) → (old new : Known) → (made : List Rec) → (fault : TryFault) →
    Type 0
IsAttemptCause layout bounds key old new made Busy = HasMetLock layout old new ⊎ ((since : ℕ) × IsPinnedSince old since × (since < length new.front))
IsAttemptCause layout bounds key old new made FullNodes = IsFull layout bounds key old new made Nodes
IsAttemptCause layout bounds key old new made FullLeaves = IsFull layout bounds key old new made Leaves

-- the fault says that no record of its kind was free: it is any but busy
abbrev pub IsFullFault : TryFault → Type 0
IsFullFault Busy = ⊥
IsFullFault fault = Unit {0}

-- the pass is sure that the key was absent in a version since its pin
abbrev pub HasSeenKeyAbsent : Known → Key → Type 0
HasSeenKeyAbsent known key = (since : ℕ) × IsPinnedSince known since × Sure known (λ past. WasAbsentSince past since key)

-- the pass is sure that the key had this value in a version since its pin
abbrev pub HasSeenKeyHeld : (known : Known) → (key : Key) → (value : ℕ) → Type 0
HasSeenKeyHeld known key value = (since : ℕ) × IsPinnedSince known since × Sure known (λ past. IsHeldSince past since key value)

-- The call may need a record. It is an insertion or an upsert, and the pass is sure that the key was absent in a version since its pin. Or
-- it is a removal, and the key was held then, with the value that the call expects, if it expects one.
abbrev pub WantsRecord : Known → Call → Type 0
WantsRecord known (Insert key value) = HasSeenKeyAbsent known key
WantsRecord known (Upsert key value) = HasSeenKeyAbsent known key
WantsRecord known (Remove key) = (value : ℕ) × HasSeenKeyHeld known key value
WantsRecord known (RemoveIf key expected) = HasSeenKeyHeld known key expected
WantsRecord known call = ⊥

-- if the fault says that no record was free, the call is one that may lack a record (`WantsRecord`)
abbrev pub IsFullOnlyIfWanting : (known : Known) → (call : Call) → (fault : TryFault) → Type 0
IsFullOnlyIfWanting known call fault = IsFullFault fault → WantsRecord known call

-- The attempt was refused with this fault, and has its cause (`IsAttemptCause`). It has made no change: the front has grown by changes of
-- other passes alone since `old`.
pub record HasRefused (layout : Layout) (bounds : List ℕ) (key : Key) (old new : Known) (made : List Rec) (fault : TryFault) : Type 0 where
  pub others : OthersGoOn old.pass old.front new.front
  pub cause : IsAttemptCause layout bounds key old new made fault
