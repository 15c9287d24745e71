-- What follows from the contracts of the index: of full indexes, of the order of calls, and of counts of keys.
use Rattle.std.specs.Prelude.{◌+◌, ◌≡◌, ◌≢◌, ◌⊎◌, ◌*◌, ◌<◌, ◌≤◌, ℕ, List, [], length, slice_get, take, Contains, Option, Some, None}
use Rattle.key_bits.specs.Key.{IsKey}
use Rattle.finite_map.specs.declared.Call.{Call}
use Rattle.finite_map.specs.declared.Call.TheVariants.{Remove, RemoveIf}
use Rattle.finite_map.specs.declared.Change.{Change}
use Rattle.finite_map.specs.declared.Reply.{Reply}
use Rattle.finite_map.specs.Calls.{LegalCalls, place_after}
use Rattle.finite_map.specs.Fronts.{BeginsWith, LegalFront, OthersGoOn, map_of}
use Rattle.finite_map.specs.Maps.{key_of, value_at}
use Rattle.hot_index.specs.KeyCounts.{AreCounts, IsCountOf}
use Rattle.hot_index.specs.declared.key_counts.KeyCount.{KeyCount}
use Rattle.record_words.specs.declared.layout.Layout.{Layout}
use Rattle.record_words.specs.Leaf.{words_for}
use Rattle.versions.specs.Trades.{AreApart, IsOneOf}
use Rattle.record_words.specs.declared.records.Rec.{Rec}
use Rattle.record_words.specs.declared.records.Rec.TheVariants.{Node as a_node, Leaf as a_leaf}
use Rattle.publish_laws.specs.Lone.{HasSpare, KeepsSpare}
use Rattle.rowex_core.specs.declared.event.Event.{Event}
use Rattle.rowex_table.specs.Seats.{HasAllCommitted, IsShownAll, SeatView, TableView}
use Rattle.rowex_records.specs.Claims.{AllCommittedMissed, AllMissed, AllMissedFrom, HasMissedSince, IsAnothers}
use Rattle.rowex_writing.specs.plan.Counts.{most_nodes}
use Rattle.rowex_writing.specs.build.Spare.{IsRemoval}
use Rattle.rowex_writing.specs.declared.attempts.TryFault.{TryFault}
use Rattle.rowex_writing.specs.declared.attempts.TryFault.TheVariants.{Busy, FullLeaves, FullNodes}
use Rattle.hot_index_calls.specs.Answers.{IsCause, IsNoted, IsRefused, IsRefusedFor}
use Rattle.hot_index_calls.specs.Census.{HasCounted}
use Rattle.hot_index_calls.specs.Passes.{AreByPasses, IsNewPass, PassView}
use Rattle.hot_index_calls.specs.Traces.{HasCollected, HasRead}
use Rattle.hot_index_calls.specs.declared.census.RecordCounts.{RecordCounts}

-- Let all leaf records be long, as in an index that `create` makes. A call that was refused for want of a leaf record has found each leaf
-- record not free when its turn came, of those that its pass knew to be committed when it began. None of them was the pass's own.
abbrev pub AllLongFullMeansNoneFree : Type 0
AllLongFullMeansNoneFree =
    (layout : Layout) (call : Call) (old new : PassView) → layout.long_from ≡ 0 → IsKey (key_of call) → IsCause layout call old new FullLeaves →
    AllCommittedMissed (IsAnothers layout new.number [] []) layout old.seat.bounds a_leaf layout.leaves new.failed old.steps

-- A call of an index's only pass is never refused as busy.
abbrev pub OnePassIsNeverBusy : Type 0
OnePassIsNeverBusy = (layout : Layout) (call : Call) (old new : PassView) → layout.passes ≡ 1 → ¬ (IsCause layout call old new Busy)

-- No pass owns the record. So if the record was found not free, it was in the tree or retired. `by` is the pass that owned it, if one did.
abbrev pub IsNobodys : (rec : Rec) (by : Option ℕ) → Type 0
IsNobodys rec by = by ≡ None

-- Each node record that the pass knew to be committed was in the tree or retired when the call looked at it, but for those of `own`. These
-- the call may have claimed itself. They are at most 4,321: two for each of the 2,160 nodes that a path has at most, and one more.
abbrev pub AreTakenButOwn : (layout : Layout) (old new : PassView) → Type 0
AreTakenButOwn layout old new =
    (own : List Rec) × (length own ≤ 2 * most_nodes + 1) ×
    AllCommittedMissed (λ rec by. IsNobodys rec by ⊎ Contains own rec) layout old.seat.bounds a_node layout.nodes new.failed old.steps

-- At least a third of the node records but one were in the tree or retired when the call looked at them. `nodes` lists their numbers, each
-- once. All others may be the call's own: two for each of these that it had locked, and one more.
pub record ThirdIsTaken (layout : Layout) (old new : PassView) : Type 0 where
  pub nodes : List ℕ
  pub apart : AreApart nodes
  pub many : layout.nodes ≤ 3 * length nodes + 1
  pub each : (node : ℕ) → IsOneOf node nodes → (node < layout.nodes) × HasMissedSince IsNobodys new.failed (a_node node) old.steps

-- Let a call of an index's only pass be refused as full. If it lacked a leaf record, those with room for its key were in the tree or retired
-- when the call looked at them: each before the first that the pass didn't know to be committed when the call began. If it lacked a node
-- record, so was each committed one but those that the call may have claimed itself (`AreTakenButOwn`). If all are committed, that is at
-- least a third of the node records but one (`ThirdIsTaken`).
abbrev pub OnePassFullMeansTaken : Type 0
OnePassFullMeansTaken =
    (layout : Layout) (call : Call) (old new : PassView) → layout.passes ≡ 1 → new.number < layout.passes →
    (IsCause layout call old new FullLeaves → AllMissedFrom IsNobodys layout old.seat.bounds (words_for (length (key_of call))) new.failed old.steps) ×
    (IsCause layout call old new FullNodes → (HasAllCommitted old.seat → ThirdIsTaken layout old new) × AreTakenButOwn layout old new)

-- The call is no removal. So if it changes the map, it gives its key a value. A get is such a call, too, but is never refused.
abbrev pub IsNoRemoval : Call → Type 0
IsNoRemoval (Remove key) = ⊥
IsNoRemoval (RemoveIf key expected) = ⊥
IsNoRemoval call = Unit {0}

-- A call that gives its key a value is never refused as full if the map had the key all the while. The map must have had it after each
-- number of changes: from the number that the pass had seen before the call to the number that it has seen at the call's end.
abbrev pub HeldIsNeverFull : Type 0
HeldIsNeverFull =
    (layout : Layout) (call : Call) (old new : PassView) (fault : TryFault) → IsRefused layout call old new fault → IsNoRemoval call →
    ((count : ℕ) → length old.front ≤ count → count ≤ length new.front → value_at (map_of (take count new.front)) (key_of call) ≢ None) → fault ≡ Busy

-- A removal is never refused as full if its key was absent all the while. The key must have been absent after each number of changes: from
-- the number that the pass had seen before the call to the number that it has seen at the call's end.
abbrev pub AbsentIsNeverFull : Type 0
AbsentIsNeverFull =
    (layout : Layout) (call : Call) (old new : PassView) (fault : TryFault) → IsRefused layout call old new fault → IsRemoval call →
    ((count : ℕ) → length old.front ≤ count → count ≤ length new.front → value_at (map_of (take count new.front)) (key_of call) ≡ None) → fault ≡ Busy

-- A removal that was refused for want of a node record has found each node record of the index not free when its turn came, committed or
-- not. Those in `own` the call may have claimed itself. Each other one was another pass's, or nobody's: in the tree or retired.
abbrev pub RemovalFullMeansNoneFree : Type 0
RemovalFullMeansNoneFree =
    (layout : Layout) (call : Call) (old new : PassView) → IsRemoval call → IsCause layout call old new FullNodes →
    (own : List Rec) × (length own ≤ 2 * most_nodes + 1) × AllMissed (IsAnothers layout new.number own []) a_node layout.nodes new.failed old.steps

-- In an index of one pass, let a call that gives its key a value be refused, for whatever reason. Its key was absent before the call. The
-- premise on the pass's earlier calls, that they are legal, holds between any two calls.
abbrev pub OnePassRefusesOnlyNewKeys : Type 0
OnePassRefusesOnlyNewKeys =
    (layout : Layout) (call : Call) (old new : PassView) (fault : TryFault) → layout.passes ≡ 1 → new.number < layout.passes →
    LegalCalls old.front old.number old.notes →
    IsRefusedFor layout call old new fault → IsNoRemoval call → value_at (map_of old.front) (key_of call) ≡ None

-- Let a call be answered, and let a stamp show all that its pass had seen by then. Let a pass have seen the stamp's changes before it
-- begins a later call. The later call's place is no lower than the first call's, and behind the first call's change.
abbrev pub ReturnedBeforeBegun : Type 0
ReturnedBeforeBegun =
    (layout : Layout) (old new : PassView) (call : Call) (reply : Reply) (first : IsNoted layout old new call reply) →
    (stamp : List Change) → BeginsWith stamp new.front →
    (before after : PassView) (later : Call) (answer : Reply) → BeginsWith before.front stamp → (second : IsNoted layout before after later answer) →
    place_after (record { place = first.place; call = call; reply = reply }) ≤ second.place

-- The pass of this number has this count of keys. It is changing nothing: the changes of the front that it has not seen are by other
-- passes.
abbrev pub HasSettledCount : (front : List Change) (number : ℕ) (count : KeyCount) → Type 0
HasSettledCount front number count =
    (pass : PassView) × (pass.number ≡ number) × LegalCalls pass.front pass.number pass.notes × OthersGoOn pass.number pass.front front ×
    IsCountOf pass.number pass.notes count

-- If no pass is changing the index, the counts of all its passes, in the order of their numbers, fit the index's front (`AreCounts`). So
-- they add up to the number of its keys, which `total` returns. The front must be legal, with changes by passes of the index alone. Each
-- pass must have seen all changes of its own (`HasSettledCount`).
abbrev pub CountsAddUp : Type 0
CountsAddUp =
    (layout : Layout) (front : List Change) (counts : List KeyCount) → LegalFront front → AreByPasses layout front → length counts ≡ layout.passes →
    ((pass : ℕ) (count : KeyCount) → slice_get counts pass ≡ Some count → HasSettledCount front pass count) → AreCounts front counts

-- An index of one pass keeps a spare node record, which stands in no tree. So a removal is not refused for want of a node record. A new
-- index has a spare one. Reads, rounds of collection, counts, meetings and stamps leave one spare, if one was. So does each change
-- (`LeavesRoom`).
pub record OnePassKeepsSpare {G : Type 0} (becomes : G → Event → G → Type 0) : Type 0 where
  pub begins : (layout : Layout) (number : ℕ) (pass : PassView) → 0 < layout.nodes → IsNewPass number pass → HasSpare layout pass.seat
  pub reads : (index : TableView) (old new : PassView × G) → HasRead index becomes old new → KeepsSpare index.layout old.0.seat new.0.seat
  pub collects : (index : TableView) (old new : PassView × G) (nodes leaves : ℕ) → HasCollected index becomes old new nodes leaves →
      KeepsSpare index.layout old.0.seat new.0.seat
  pub counts : (index : TableView) (old new : PassView × G) (counts : RecordCounts) → HasCounted index becomes old new counts →
      KeepsSpare index.layout old.0.seat new.0.seat
  pub shown : (layout : Layout) (before later : SeatView) → before.known.pass < layout.passes → IsShownAll layout before later →
      KeepsSpare layout before later
