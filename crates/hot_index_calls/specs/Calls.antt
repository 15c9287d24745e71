-- What calls of an index ensure: what the map says of a call, and which steps the call makes.
use Rattle.std.specs.Prelude.{◌≡◌, ◌+◌, ◌≤◌, ℕ, Bool, List, [], ◌∷◌, Result, Ok, Err, MatchResult, IfOk, IfErr, IsOk, OnErr}
use Rattle.finite_map.specs.declared.Call.{Call}
use Rattle.finite_map.specs.declared.Call.TheVariants.{Get}
use Rattle.finite_map.specs.declared.Reply.{Reply}
use Rattle.finite_map.specs.declared.Scan.{Scan}
use Rattle.finite_map.specs.Scans.{IsLawfulScan}
use Rattle.record_words.specs.declared.layout.Layout.{Layout}
use Rattle.rowex_core.specs.declared.event.Event.{Event}
use Rattle.rowex_table.specs.Seats.{TableView}
use Rattle.rowex_scanning.specs.Counts.{limit_by}
use Rattle.rowex_scanning.specs.Scanning.{limited}
use Rattle.rowex_writing.specs.attempts.Attempts.{LacksNoLeaf}
use Rattle.rowex_writing.specs.declared.attempts.TryFault.{TryFault}
use Rattle.rowex_writing.specs.declared.attempts.TryFault.TheVariants.{FullLeaves}
use Rattle.rowex_writing.specs.declared.plan.Full.{Full}
use Rattle.rowex_writing.specs.declared.plan.Full.TheVariants.{Leaves}
use Rattle.version_laws.specs.Scan.{Range}
use Rattle.tries.specs.Keys.{Key}
use Rattle.version_laws.specs.Directions.{ScanLaw}
use Rattle.hot_index_calls.specs.Answers.{AreValuesListed, AreValuesListedInPart, HasFoundPair, IsCause, IsListedBy, IsListedInPartBy, IsNoted, IsRangeCounted, IsRefused, IsScannedBy, IsUnnoted}
use Rattle.hot_index_calls.specs.Asked.{last_try}
use Rattle.hot_index_calls.specs.Refusals.{IsPassing, FollowsTry, HasNodeLeft, as_tried}
use Rattle.hot_index_calls.specs.declared.census.RecordCounts.{RecordCounts}
use Rattle.hot_index_calls.specs.declared.refusals.Refusal.{Refusal}
use Rattle.hot_index_calls.specs.declared.refusals.Refusal.TheVariants.{Full as IsFull}
use Rattle.hot_index_calls.specs.Counts.{scan_steps}
use Rattle.hot_index_calls.specs.Passes.{Owns, PassView}
use Rattle.hot_index_calls.specs.Rooms.{LeavesRoom}
use Rattle.hot_index_calls.specs.Traces.{HasMadeGetSteps, HasMadeScanSteps, HasMadeChangeSteps, HasMadeCallSteps, untold}

-- The outcome of a call on the map. The call was answered, and is noted with its reply. Or it was refused, and has changed nothing.
abbrev pub IsOutcome : (asked : Call) (result : Result Reply TryFault) (index : TableView) (old new : PassView) → Type 0
IsOutcome asked result index old new = MatchResult result (IsNoted index.layout old new asked) (IsRefused index.layout asked old new)

-- if the call was refused, its fault has a cause, as `IsCause` says; of an answered call nothing is said
abbrev pub HasCause : (asked : Call) (result : Result Reply TryFault) (index : TableView) (old new : PassView) → Type 0
HasCause asked result index old new = IfErr result (IsCause index.layout asked old new)

-- What a change that doesn't wait ensures. The pass stays the index's (`own`). The call was answered and noted, or refused, with nothing
-- changed (`call`), and a fault has a cause (`cause`). A removal lacks no leaf record (`leafless`). The steps are bounded (`made`). In an
-- index of one pass a removal finds a node record, if one was outside the tree, and leaves one there (`room`).
pub record IsTried {G : Type 0} (asked : Call) (result : Result Reply TryFault) (index : TableView) (becomes : G → Event → G → Type 0)
    (old new : PassView × G) : Type 0 where
  pub own : Owns index new.0
  pub call : IsOutcome asked result index old.0 new.0
  pub cause : HasCause asked result index old.0 new.0
  pub leafless : LacksNoLeaf FullLeaves asked result
  pub made : HasMadeChangeSteps index becomes asked result old new
  pub room : LeavesRoom index.layout asked result old.0.seat new.0.seat

-- `Gets` holds if the call is a get, and else `Changes`
abbrev pub GetsOr : (asked : Call) (Gets Changes : Type 0) → Type 0
GetsOr (Get key) Gets Changes = Gets
GetsOr asked Gets Changes = Changes

-- The steps of a call that doesn't wait. A get makes those of a get, and a change those of its attempts and rounds. Their number is
-- bounded, the gate was told each, and the last load of the root showed all changes made by then.
abbrev pub GetsOrMakes : {G : Type 0} → (asked : Call) (result : Result Reply TryFault) (index : TableView)
    (becomes : G → Event → G → Type 0) (old new : PassView × G) → Type 0
GetsOrMakes asked result index becomes old new =
    GetsOr asked (HasMadeGetSteps index becomes old new) (HasMadeChangeSteps index becomes asked result old new)

-- A change was tried once, without waiting. If it was answered, or found another pass in its way, no step follows. If it found no record
-- free, the records were counted, and the result is what this count says. But a removal with several passes may be held back without a
-- count.
pub record IsTriedAndCounted {G : Type 0} (asked : Call) (result : Result Reply Refusal) (index : TableView) (becomes : G → Event → G → Type 0)
    (old new : PassView × G) : Type 0 where
  pub mid : PassView × G
  pub tried : IsTried asked (as_tried result) index becomes old mid
  pub told : FollowsTry asked result index becomes old mid new

-- Tries of the change were made, one after the other, from `old` to `new`, and were refused as `refusals` says, in order. None of these
-- refusals is final.
abbrev pub AreTriesRefused : {G : Type 0} → (asked : Call) (refusals : List Refusal) (index : TableView) (becomes : G → Event → G → Type 0)
    (old new : PassView × G) → Type 0
AreTriesRefused asked [] index becomes old new = new ≡ old
AreTriesRefused {G = G} asked (refusal ∷ refusals) index becomes old new =
    (middle : PassView × G) × IsTriedAndCounted asked (Err refusal) index becomes old middle × IsPassing refusal ×
    AreTriesRefused asked refusals index becomes middle new

-- the result of a change that waits is that of its last try, `last`: a reply, or a refusal that is full by some counts
abbrev pub IsResultOfLast : (result : Result Reply Full) (last : Result Reply Refusal) → Type 0
IsResultOfLast (Ok reply) last = last ≡ Ok reply
IsResultOfLast (Err full) last = (counts : RecordCounts) × (last ≡ Err (IsFull full counts))

-- A change that waits makes tries, and no other step but the counts of records after them (`IsTriedAndCounted`). A try that is busy or held
-- back is followed by another, and any other is the last. In an index of one pass there is one try.
pub record MakesTries {G : Type 0} (asked : Call) (result : Result Reply Full) (index : TableView) (becomes : G → Event → G → Type 0)
    (old new : PassView × G) : Type 0 where
  pub refusals : List Refusal
  pub last : PassView × G
  pub refused : AreTriesRefused asked refusals index becomes old last
  pub alone : index.layout.passes ≡ 1 → refusals ≡ []
  pub outcome : Result Reply Refusal
  pub tried : IsTriedAndCounted asked outcome index becomes last new
  pub is_last : IsResultOfLast result outcome

-- What a change that waits ensures. The pass stays the index's (`own`). The last try was answered and noted, or refused, with nothing
-- changed (`call`), and a fault has a cause (`cause`). A removal lacks no leaf record (`leafless`), and with several passes it has a reply
-- (`kept`). Its steps are those of its tries (`tries`, `told`). In an index of one pass a removal finds a node record, if one was outside
-- the tree, and leaves one there (`room`).
pub record IsWaitedFor {G : Type 0} (asked : Call) (result : Result Reply Full) (index : TableView) (becomes : G → Event → G → Type 0)
    (old new : PassView × G) : Type 0 where
  pub own : Owns index new.0
  pub call : IsOutcome asked (last_try result) index old.0 new.0
  pub cause : HasCause asked (last_try result) index old.0 new.0
  pub leafless : LacksNoLeaf Leaves asked result
  pub kept : HasNodeLeft index.layout.passes asked → IsOk result
  pub tries : MakesTries asked result index becomes old new
  pub told : HasMadeCallSteps index becomes old new
  pub room : LeavesRoom index.layout asked (last_try result) old.0.seat new.0.seat

-- The steps of a call that waits. A get makes those of a get, and a change those of its tries (`MakesTries`), which have no bound together.
abbrev pub GetsOrTries : {G : Type 0} → (asked : Call) (result : Result Reply Full) (index : TableView) (becomes : G → Event → G → Type 0)
    (old new : PassView × G) → Type 0
GetsOrTries asked result index becomes old new = GetsOr asked (HasMadeGetSteps index becomes old new) (MakesTries asked result index becomes old new)

-- The steps of a call that doesn't wait, and counts records. A get makes those of a get, and a change those of one try. If the try found no
-- record free, a count of the records follows, but for a removal with several passes.
abbrev pub GetsOrCounts : {G : Type 0} → (asked : Call) (result : Result Reply Refusal) (index : TableView)
    (becomes : G → Event → G → Type 0) (old new : PassView × G) → Type 0
GetsOrCounts asked result index becomes old new =
    GetsOr asked (HasMadeGetSteps index becomes old new) (IsTriedAndCounted asked result index becomes old new)

-- What a read of a range ensures. The pass stays the index's (`own`). The read has an answer, of which `IsAnswer` holds (`ok`). Or memory
-- was refused for a pair that it had found (`memory`): then it adds no note (`err`), and `IsPart` holds (`part`). Its steps are those of a
-- scan (`read`), bounded by the limit (`steps`), and the gate was told each.
pub record IsRangeReadWith {A E G : Type 0} (IsAnswer : Layout → PassView → PassView → A → Type 0) (IsPart : Layout → PassView → PassView → Type 0)
    (range : Range) (result : Result A E) (index : TableView) (becomes : G → Event → G → Type 0) (old new : PassView × G) : Type 0 where
  pub own : Owns index new.0
  pub ok : IfOk result (IsAnswer index.layout old.0 new.0)
  pub err : OnErr result (IsUnnoted index.layout old.0 new.0)
  pub part : OnErr result (IsPart index.layout old.0 new.0)
  pub memory : OnErr result (HasFoundPair index.layout old.0 new.0 range)
  pub steps : new.0.steps ≤ old.0.steps + scan_steps range.limit
  pub read : HasMadeScanSteps index becomes range.limit old new

-- of the part of a range that was read before memory was refused, nothing is said
abbrev pub no_part : (layout : Layout) (old new : PassView) → Type 0
no_part layout old new = Unit {0}

-- A range was read, as `IsRangeReadWith` says, with no gate. Of the part that was read before memory was refused, nothing is said.
abbrev pub IsRangeRead : {A E : Type 0} → (IsAnswer : Layout → PassView → PassView → A → Type 0) (range : Range) (result : Result A E)
    (index : TableView) (old new : PassView) → Type 0
IsRangeRead IsAnswer range result index old new = IsRangeReadWith IsAnswer no_part range result index untold (old, tt) (new, tt)

-- a scan of the range was made of which the law `IsLawful` holds, or memory was refused for a pair; the gate was told its steps
abbrev pub IsScanReadBy : {E G : Type 0} → (IsLawful : ScanLaw) (range : Range) (result : Result Scan E) (index : TableView)
    (becomes : G → Event → G → Type 0) (old new : PassView × G) → Type 0
IsScanReadBy IsLawful range result index becomes old new =
    IsRangeReadWith (λ layout was now. IsScannedBy IsLawful layout was now range) no_part range result index becomes old new

-- a lawful scan upwards was made, or memory was refused for a pair; the gate was told its steps
abbrev pub IsScanReadWith : {E G : Type 0} → (range : Range) (result : Result Scan E) (index : TableView)
    (becomes : G → Event → G → Type 0) (old new : PassView × G) → Type 0
IsScanReadWith range result index becomes old new = IsScanReadBy IsLawfulScan range result index becomes old new

-- a lawful scan upwards was made, with no gate, or memory was refused for a pair
abbrev pub IsScanRead : {E : Type 0} → (range : Range) (result : Result Scan E) (index : TableView) (old new : PassView) → Type 0
IsScanRead range result index old new = IsScanReadWith range result index untold (old, tt) (new, tt)

-- A scan into a list was made of which the law `IsLawful` holds. Or memory was refused for a pair, and the list has those before it. The
-- gate was told its steps.
abbrev pub IsListReadBy : {E G : Type 0} → (IsLawful : ScanLaw) (range : Range) (pairs : List (Key × ℕ)) (result : Result Bool E)
    (index : TableView) (becomes : G → Event → G → Type 0) (old new : PassView × G) → Type 0
IsListReadBy IsLawful range pairs result index becomes old new =
    IsRangeReadWith (λ layout was now. IsListedBy IsLawful layout was now range pairs)
    (λ layout was now. IsListedInPartBy IsLawful layout was now range pairs) range result index becomes old new

-- A lawful scan upwards into a list was made. Or memory was refused for a pair, and the list has those before it. The gate was told its
-- steps.
abbrev pub IsListReadWith : {E G : Type 0} → (range : Range) (pairs : List (Key × ℕ)) (result : Result Bool E) (index : TableView)
    (becomes : G → Event → G → Type 0) (old new : PassView × G) → Type 0
IsListReadWith range pairs result index becomes old new = IsListReadBy IsLawfulScan range pairs result index becomes old new

-- A lawful scan upwards into a list was made, with no gate. Or memory was refused for a pair, and the list has those before it.
abbrev pub IsListRead : {E : Type 0} → (range : Range) (pairs : List (Key × ℕ)) (result : Result Bool E) (index : TableView)
    (old new : PassView) → Type 0
IsListRead range pairs result index old new = IsListReadWith range pairs result index untold (old, tt) (new, tt)

-- A range was counted as `number` pairs, which needs no memory, and the gate was told the steps. They are at most those of a scan whose
-- limit is the range's, or 16 more than `number` if that is less.
abbrev pub IsCountReadWith : {G : Type 0} → (range : Range) (number : ℕ) (index : TableView) (becomes : G → Event → G → Type 0)
    (old new : PassView × G) → Type 0
IsCountReadWith range number index becomes old new =
    IsRangeReadWith (λ layout was now. IsRangeCounted layout was now range) no_part (limited range (limit_by range.limit number))
    (let counted : Result ℕ (Unit {0}) = Ok number in counted) index becomes old new

-- a range was counted, as `IsCountReadWith` says, with no gate
abbrev pub IsCountRead : (range : Range) (number : ℕ) (index : TableView) (old new : PassView) → Type 0
IsCountRead range number index old new = IsCountReadWith range number index untold (old, tt) (new, tt)

-- The values of a range were listed. Or memory was refused for one, and the list has those before it. The gate was told the steps, which
-- are those of a scan.
abbrev pub IsValuesReadWith : {E G : Type 0} → (range : Range) (values : List ℕ) (result : Result Bool E) (index : TableView)
    (becomes : G → Event → G → Type 0) (old new : PassView × G) → Type 0
IsValuesReadWith range values result index becomes old new =
    IsRangeReadWith (λ layout was now. AreValuesListed layout was now range values) (λ layout was now. AreValuesListedInPart layout was now range values)
    range result index becomes old new

-- The values of a range were listed, with no gate. Or memory was refused for one, and the list has those before it.
abbrev pub IsValuesRead : {E : Type 0} → (range : Range) (values : List ℕ) (result : Result Bool E) (index : TableView) (old new : PassView) → Type 0
IsValuesRead range values result index old new = IsValuesReadWith range values result index untold (old, tt) (new, tt)
