-- What calls of an index say of the map, and why a call is refused.
use Rattle.std.specs.Prelude.{◌≡◌, ◌≢◌, ◌⊎◌, ℕ, ◌<◌, ◌≤◌, List, [], ◌∷◌, ◌++◌, length, map, slice_get, take, Bool, true, IsTrue, Option, Some, None}
use Rattle.std.specs.Option.{option_to_list}
use Rattle.finite_map.specs.declared.Change.{Change}
use Rattle.finite_map.specs.declared.Call.{Call}
use Rattle.finite_map.specs.declared.Call.TheVariants.{Add, Exchange, Get, Insert, Remove, RemoveIf, Upsert}
use Rattle.finite_map.specs.declared.Reply.{Reply}
use Rattle.finite_map.specs.declared.Reply.TheVariants.{Value, Absent}
use Rattle.finite_map.specs.declared.Scan.{Scan}
use Rattle.finite_map.specs.Calls.{LegalCalls}
use Rattle.finite_map.specs.Maps.{key_of, value_at}
use Rattle.finite_map.specs.Fronts.{BeginsWith, map_of}
use Rattle.finite_map.specs.Scans.{is_within, IsHeldBetween, IsLawfulScan}
use Rattle.finite_map.specs.Weaves.{LegalHistory, weave}
use Rattle.tries.specs.Keys.{Key}
use Rattle.record_words.specs.declared.layout.Layout.{Layout}
use Rattle.rowex_scanning.specs.Scanning.{limited}
use Rattle.version_laws.specs.Directions.{ScanLaw}
use Rattle.record_words.specs.declared.records.Rec.{Rec}
use Rattle.version_laws.specs.Scan.{Range}
use Rattle.rowex_writing.specs.attempts.Attempts.{IsFullFault, bounds_for}
use Rattle.rowex_writing.specs.build.Changes.{LacksLeaves, LacksNodes}
use Rattle.rowex_writing.specs.locks.Locks.{HasMetTaken}
use Rattle.rowex_writing.specs.declared.attempts.TryFault.{TryFault}
use Rattle.rowex_writing.specs.declared.attempts.TryFault.TheVariants.{Busy, FullNodes, FullLeaves}
use Rattle.rowex_writing.specs.declared.plan.Full.{Full}
use Rattle.rowex_writing.specs.declared.plan.Full.TheVariants.{Nodes, Leaves}
use Rattle.hot_index_calls.specs.Alone.{HasBeenHindered}
use Rattle.hot_index_calls.specs.Passes.{PassView, AreByPasses}

-- the reply that says what a get found
abbrev pub got : Option ℕ → Reply
got None = Absent
got (Some value) = Value value

-- A call has loaded the root. The front of its pass has only grown since `old`, and all its changes are by passes of the index. The last
-- load of the root was in this call: it showed all that the pass had seen at `old`, and the pass still knows what it showed.
pub record GoesOn (layout : Layout) (old new : PassView) : Type 0 where
  pub number : new.number ≡ old.number
  pub front : BeginsWith new.front old.front
  pub fresh : BeginsWith new.fresh.front old.front
  pub seen : BeginsWith new.front new.fresh.front
  pub now : (old.steps ≤ new.fresh.step) × (new.fresh.step < new.steps)
  pub makers : AreByPasses layout new.front

-- The call was answered with this reply, and is noted last, behind the notes from before. All calls of the pass are legal. The note's place
-- is at least the length of the front at the last load of the root, and at most its length now.
pub record IsNoted (layout : Layout) (old new : PassView) (call : Call) (reply : Reply) : Type 0 where
  pub on : GoesOn layout old new
  pub place : ℕ
  pub notes : new.notes ≡ old.notes ++ record { place = place; call = call; reply = reply } ∷ []
  pub low : length new.fresh.front ≤ place
  pub high : place ≤ length new.front
  pub legal : LegalCalls new.front new.number new.notes

-- the range from one key to another, both of which belong to it, and of which a scan lists at most `limit` pairs
abbrev pub range_from : (from upto : Key) (limit : ℕ) → Range
range_from from upto limit = record { from = from; upto = upto; limit = limit }

-- A scan was answered, and adds no note. The law `IsLawful`, of scans upwards or downwards, holds of it between two fronts: that at the
-- last load of the root, and that at the scan's end. All calls of the pass are legal.
pub record IsScannedBy (IsLawful : ScanLaw) (layout : Layout) (old new : PassView) (range : Range) (scan : Scan) : Type 0 where
  pub on : GoesOn layout old new
  pub notes : new.notes ≡ old.notes
  pub lawful : IsLawful new.fresh.front new.front range.from range.upto range.limit scan
  pub legal : LegalCalls new.front new.number new.notes

-- A scan into a list was answered with these pairs, and with `more`, which says whether there is a further key. It adds no note. The law
-- `IsLawful` holds of a scan with these pairs, from the front at the last load of the root to that at the scan's end. All calls of the pass
-- are legal.
pub record IsListedBy (IsLawful : ScanLaw) (layout : Layout) (old new : PassView) (range : Range) (pairs : List (Key × ℕ)) (more : Bool) : Type 0 where
  pub on : GoesOn layout old new
  pub notes : new.notes ≡ old.notes
  pub lawful : (scan : Scan) → scan.pairs.items ≡ pairs → scan.more ≡ more →
      IsLawful new.fresh.front new.front range.from range.upto range.limit scan
  pub legal : LegalCalls new.front new.number new.notes

-- A scan into a list was refused memory after these pairs, which are fewer than its limit. They are what a scan with their number as its
-- limit would list, with a further key behind.
abbrev pub IsListedInPartBy : (IsLawful : ScanLaw) (layout : Layout) (old new : PassView) (range : Range) (pairs : List (Key × ℕ)) → Type 0
IsListedInPartBy IsLawful layout old new range pairs =
    (length pairs < range.limit) × IsListedBy IsLawful layout old new (limited range (length pairs)) pairs true

-- a scan of the keys from `from` to `upto` with limit 1, of which the law `IsLawful` holds, found the pair `found`, or none
abbrev pub IsFoundBy : (IsLawful : ScanLaw) (layout : Layout) (old new : PassView) (from upto : Key) (found : Option (Key × ℕ)) → Type 0
IsFoundBy IsLawful layout old new from upto found =
    (more : Bool) × IsListedBy IsLawful layout old new (range_from from upto 1) (option_to_list found) more

-- A scan upwards was answered, as `IsScannedBy` says: it adds no note, and is lawful since the last load of the root.
abbrev pub IsScanned : (layout : Layout) (old new : PassView) (range : Range) (scan : Scan) → Type 0
IsScanned = IsScannedBy IsLawfulScan

-- A scan upwards into a list was answered, as `IsListedBy` says, with whether there is a further key. It adds no note, and is lawful since
-- the last load of the root.
abbrev pub IsListed : (layout : Layout) (old new : PassView) (range : Range) (pairs : List (Key × ℕ)) (more : Bool) → Type 0
IsListed = IsListedBy IsLawfulScan

-- A range was counted as `number` pairs, which is at most the limit. That adds no note. Some scan upwards of the range with so many pairs,
-- whatever these are, would be lawful since the last load of the root.
pub record IsRangeCounted (layout : Layout) (old new : PassView) (range : Range) (number : ℕ) : Type 0 where
  pub few : number ≤ range.limit
  pub pairs : List (Key × ℕ)
  pub number_is : number ≡ length pairs
  pub more : Bool
  pub listed : IsListed layout old new range pairs more

-- The values of a range were listed, at most as many as the limit, and `more` says whether there is a further one. That adds no note. They
-- are the values, in order, of a scan upwards of the range that would be lawful since the last load of the root.
pub record AreValuesListed (layout : Layout) (old new : PassView) (range : Range) (values : List ℕ) (more : Bool) : Type 0 where
  pub few : length values ≤ range.limit
  pub pairs : List (Key × ℕ)
  pub values_are : values ≡ map (λ (pair : Key × ℕ). pair.1) pairs
  pub listed : IsListed layout old new range pairs more

-- A list of a range's values was refused memory after these values, which are fewer than its limit. They are what a list with their number
-- as its limit would have, with a further one behind.
abbrev pub AreValuesListedInPart : (layout : Layout) (old new : PassView) (range : Range) (values : List ℕ) → Type 0
AreValuesListedInPart layout old new range values =
    (length values < range.limit) × AreValuesListed layout old new (limited range (length values)) values true

-- A scan upwards into a list was refused memory after these pairs, fewer than its limit, as `IsListedInPartBy` says.
abbrev pub IsListedInPart : (layout : Layout) (old new : PassView) (range : Range) (pairs : List (Key × ℕ)) → Type 0
IsListedInPart = IsListedInPartBy IsLawfulScan

-- A scan whose limit isn't 0 was refused memory for a pair that it had found. So some key of its range was in the index between the scan's
-- last load of the root and its end.
pub record HasFoundPair (layout : Layout) (old new : PassView) (range : Range) : Type 0 where
  pub on : GoesOn layout old new
  pub room : 0 < range.limit
  pub key : Key
  pub value : ℕ
  pub within : IsTrue (is_within range.from range.upto key)
  pub held : IsHeldBetween new.fresh.front new.front key value

-- A call was refused, or asked nothing of the map. It adds no note. The front has only grown, all its changes are by passes of the index,
-- and all calls of the pass are legal.
pub record IsUnnoted (layout : Layout) (old new : PassView) : Type 0 where
  pub number : new.number ≡ old.number
  pub front : BeginsWith new.front old.front
  pub notes : new.notes ≡ old.notes
  pub legal : LegalCalls new.front new.number new.notes
  pub makers : AreByPasses layout new.front

-- The pass has seen a change that another pass of the index made, after the pin under which this call last loaded the root. That load was
-- in this call.
pub record IsOvertaken (layout : Layout) (old new : PassView) : Type 0 where
  pub loaded : old.steps ≤ new.fresh.step
  pub change : Change
  pub place : ℕ
  pub is : slice_get new.front place ≡ Some change
  pub since : new.fresh.pinned ≤ place
  pub another : change.pass ≢ new.number
  pub below : change.pass < layout.passes

-- Another pass of the index was in the way of the call. It had locked or unlinked what the call tried to lock (`met`). Or it had made a
-- change since the pin under which the call last loaded the root. `hindered` says it by the steps of the table: in a core of this call
-- another pass had a lock, or had made a change since.
pub record HasConflict (layout : Layout) (old new : PassView) : Type 0 where
  pub pass : new.number < layout.passes
  pub met : HasMetTaken layout new.number old.steps new.failed ⊎ IsOvertaken layout old new
  pub hindered : HasBeenHindered layout new.number old.seat new.seat

-- Why a call was refused. Busy: another pass was in its way. Full: it found each node record not free that it had known to be committed when
-- it began, or each leaf record with room for its key before the first that it hadn't, at that record's turn. A removal found each node
-- record not free, committed or not (`bounds_for`). None of these leaf records was its own. Of the node records those in `own` were, at most
-- two for each node that it had locked, and one.
abbrev pub IsCause : (layout : Layout) (call : Call) (old new : PassView) (fault : TryFault) → Type 0
IsCause layout call old new Busy = HasConflict layout old new
IsCause layout call old new FullNodes = (own : List Rec) × LacksNodes layout (bounds_for call old.seat.bounds) new.number new.failed old.steps own
IsCause layout call old new FullLeaves = LacksLeaves layout old.seat.bounds (key_of call) new.number new.failed old.steps

-- After the first `place` changes of the front the key had the value `held`, or was absent. All that the pass had seen before the call are
-- among these changes. So are all that were made before the pin of its last load of the root.
pub record WasFound (key : Key) (held : Option ℕ) (old new : PassView) : Type 0 where
  pub place : ℕ
  pub begun : length old.front ≤ place
  pub since : new.fresh.pinned ≤ place
  pub upto : place ≤ length new.front
  pub found : value_at (map_of (take place new.front)) key ≡ held

-- The call may take a record, and so may lack one. An insertion or an upsert may if its search found the key absent. A removal may if its
-- search found the key, with the expected value if it has one. No other call takes a record.
abbrev pub MayTake : (call : Call) (old new : PassView) → Type 0
MayTake (Insert key value) old new = WasFound key None old new
MayTake (Upsert key value) old new = WasFound key None old new
MayTake (Remove key) old new = (value : ℕ) × WasFound key (Some value) old new
MayTake (RemoveIf key expected) old new = WasFound key (Some expected) old new
MayTake call old new = ⊥

-- The call was refused with this fault: it has changed nothing, and adds no note. It was full only if it may take a record, by what its
-- search found (`MayTake`).
pub record IsRefused (layout : Layout) (call : Call) (old new : PassView) (fault : TryFault) : Type 0 where
  pub unnoted : IsUnnoted layout old new
  pub full : IsFullFault fault → MayTake call old new

-- The call was refused, as `IsRefused` says, and its fault has a cause, as `IsCause` says.
pub record IsRefusedFor (layout : Layout) (call : Call) (old new : PassView) (fault : TryFault) : Type 0 where
  pub refused : IsRefused layout call old new fault
  pub cause : IsCause layout call old new fault

-- the fault of a call that found no record of this kind free
abbrev pub fault_of : Full → TryFault
fault_of Nodes = FullNodes
fault_of Leaves = FullLeaves

-- Which faults a call may be refused with. A get is never refused. An exchange and an addition may only be busy. A removal lacks no leaf
-- record.
abbrev pub MayRefuse : (call : Call) (fault : TryFault) → Type 0
MayRefuse (Get key) fault = ⊥
MayRefuse (Exchange key expected value) FullNodes = ⊥
MayRefuse (Exchange key expected value) FullLeaves = ⊥
MayRefuse (Add key delta) FullNodes = ⊥
MayRefuse (Add key delta) FullLeaves = ⊥
MayRefuse (Remove key) FullLeaves = ⊥
MayRefuse (RemoveIf key expected) FullLeaves = ⊥
MayRefuse call fault = Unit {0}

-- the call may find no record of this kind free, and be refused for that: no get, exchange or addition may, and no removal for want of
-- leaves
abbrev pub MayLack : (call : Call) (full : Full) → Type 0
MayLack call full = MayRefuse call (fault_of full)

-- Two passes have met: `one` became `one_after`, and `other` became `other_after`. Both have seen the same changes then, which begin with
-- what each had seen before. In these the calls of both are legal, and they stand together in one sequential history.
pub record HaveMet (layout : Layout) (one other one_after other_after : PassView) : Type 0 where
  pub first : IsUnnoted layout one one_after
  pub second : IsUnnoted layout other other_after
  pub fronts : one_after.front ≡ other_after.front
  pub apart : one_after.number ≢ other_after.number
  pub history : LegalHistory (weave one_after.front (one_after.notes ++ other_after.notes))
