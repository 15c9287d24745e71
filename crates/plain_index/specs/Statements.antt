-- The laws of histories, as the functions of the module `laws` promise them.
use Rattle.std.specs.Prelude.{◌≡◌, ◌≢◌, ℕ, ◌≤◌, List, [], ◌++◌, All, Bool, IsPermutation, length, take, true, IsTrue}
use Rattle.finite_map.specs.declared.Change.{Change}
use Rattle.finite_map.specs.declared.Note.{Note}
use Rattle.finite_map.specs.declared.Scan.{Scan}
use Rattle.finite_map.specs.Maps.{value_at}
use Rattle.finite_map.specs.Fronts.{map_of, LegalFront, OthersGoOn}
use Rattle.finite_map.specs.Calls.{LegalCalls, IsRun}
use Rattle.finite_map.specs.Weaves.{LegalHistory, weave, notes_of, AllLegal, calls_of}
use Rattle.finite_map.specs.Scans.{is_within, IsScanOf, IsLawfulScan, IsUpToLast}
use Rattle.plain_index.specs.Orders.{calls_in, AreWoven, CallsAreWoven}
use Rattle.plain_index.specs.Times.{FitsPlaces, IsInTime, noted}

-- Calls that are legal in a front are legal in each legal front that goes on from it by changes of other passes alone.
abbrev pub LegalCallsStayLegal : Type 0
LegalCallsStayLegal =
    (front later : List Change) (pass : ℕ) (notes : List Note) → LegalCalls front pass notes → OthersGoOn pass front later → LegalFront later →
    LegalCalls later pass notes

-- Let the calls of passes of different numbers each be legal in one front. Then all have the replies of a finite map in one sequential
-- history: the weave of all their notes into the front.
abbrev pub WeaveIsLegal : Type 0
WeaveIsLegal = (front : List Change) (passes : List (ℕ × List Note)) → AllLegal front passes → LegalHistory (weave front (notes_of passes))

-- Let the calls of two different passes be legal in one front. The weave of the notes of both into the front is a legal history.
abbrev pub WeaveOfTwoIsLegal : Type 0
WeaveOfTwoIsLegal =
    (front : List Change) (pass other : ℕ) (notes other_notes : List Note) → pass ≢ other → LegalCalls front pass notes →
    LegalCalls front other other_notes →
    LegalHistory (weave front (notes ++ other_notes))

-- Let the calls of passes of different numbers each be legal in one front. Their weave has each call once. Those of each pass stand in the
-- order in which it made them.
abbrev pub WeaveOfPassesKeepsCalls : Type 0
WeaveOfPassesKeepsCalls =
    (front : List Change) (passes : List (ℕ × List Note)) → AllLegal front passes → CallsAreWoven passes (calls_in (weave front (notes_of passes)))

-- Let the calls of two passes each be legal in one front. Their weave has each call once. Those of each pass stand in the order in which it
-- made them.
abbrev pub WeaveOfTwoKeepsCalls : Type 0
WeaveOfTwoKeepsCalls =
    (front : List Change) (pass other : ℕ) (notes other_notes : List Note) → LegalCalls front pass notes → LegalCalls front other other_notes →
    AreWoven (calls_of notes) (calls_of other_notes) (calls_in (weave front (notes ++ other_notes)))

-- Take the calls of passes, all legal in one front, in a list. Let none stand in it before one that is known to have returned first
-- (`IsInTime`). Let their places fit what is known of time (`FitsPlaces`). The weave of the list is a legal history of just these calls,
-- each once. There, too, none stands before one that is known to have returned first.
abbrev pub WeavePutsReturnedFirst : Type 0
WeavePutsReturnedFirst =
    (front : List Change) (passes : List (ℕ × List Note)) (before : ℕ → ℕ → Bool) (listed : List (ℕ × Note)) → AllLegal front passes →
    IsPermutation (notes_of passes) (noted listed) → FitsPlaces before listed → IsInTime before listed →
    LegalHistory (weave front (noted listed)) ×
    ((history : List (ℕ × Note)) × IsPermutation listed history × IsInTime before history × (calls_in (weave front (noted listed)) ≡ calls_of (noted history)))

-- A scan of the map of a front is lawful while the front stays as it is.
abbrev pub FirstPairsAreAStillScan : Type 0
FirstPairsAreAStillScan =
    (front : List Change) (from upto : List ℕ) (limit : ℕ) (scan : Scan) → IsScanOf (map_of front) from upto limit scan →
    IsLawfulScan front front from upto limit scan

-- The weave of one pass's legal calls has each of them once, in the order in which the pass made them.
abbrev pub WeaveKeepsCalls : Type 0
WeaveKeepsCalls = (front : List Change) (pass : ℕ) (notes : List Note) → LegalCalls front pass notes → calls_in (weave front notes) ≡ calls_of notes

-- Let a scan be lawful while the front stays as it is. It gives the first pairs of the map in its range, and says whether there are more.
abbrev pub StillScanGivesFirstPairs : Type 0
StillScanGivesFirstPairs =
    (front : List Change) (from upto : List ℕ) (limit : ℕ) (scan : Scan) → IsLawfulScan front front from upto limit scan →
    IsScanOf (map_of front) from upto limit scan

-- Let a pass have made all changes of the front. Its legal calls are a run of the finite map, from the empty map to the front's map.
abbrev pub LoneCallsAreARun : Type 0
LoneCallsAreARun =
    (front : List Change) (pass : ℕ) (notes : List Note) → LegalCalls front pass notes → All (λ change. change.pass ≡ pass) front →
    IsRun [] notes (map_of front)

-- A lawful scan is a get of each key of its range, each at a moment of its own. At some moment between the scan's fronts the map has the
-- value of the key's pair, or lacks the key if it has no pair. If the scan has more, that is said only of keys up to the last pair's.
abbrev pub ScanIsGets : Type 0
ScanIsGets =
    (before after : List Change) (from upto : List ℕ) (limit : ℕ) (scan : Scan) → IsLawfulScan before after from upto limit scan →
    (key : List ℕ) → IsTrue (is_within from upto key) → (scan.more ≡ true → IsUpToLast scan.pairs.items key) →
    (count : ℕ) × (length before ≤ count) × (count ≤ length after) × (value_at (map_of (take count after)) key ≡ value_at scan.pairs.items key)
