-- The laws of runs, as the functions of the module `laws` promise them.
use Rattle.std.specs.Prelude.{◌≡◌, ◌⊎◌, ℕ, ◌+◌, ◌<◌, ◌≤◌, All, List, [], ◌∷◌, IsPermutation}
use Rattle.finite_map.specs.declared.Call.{Call}
use Rattle.finite_map.specs.declared.Note.{Note}
use Rattle.finite_map.specs.declared.Scan.{Scan}
use Rattle.finite_map.specs.Calls.{changes_of}
use Rattle.finite_map.specs.Fronts.{OthersGoOn}
use Rattle.finite_map.specs.Maps.{reply_of}
use Rattle.finite_map.specs.Reverse.{IsDownToLast, IsLawfulReverseScan}
use Rattle.finite_map.specs.Scans.{IsLawfulScan, IsUpToLast}
use Rattle.finite_map.specs.Weaves.{LegalHistory, calls_of}
use Rattle.plain_index.specs.Times.{IsInTime, noted}
use Rattle.record_words.specs.declared.layout.Layout.{Layout}
use Rattle.rowex_core.specs.declared.event.Event.{Event}
use Rattle.rowex_core.specs.Runs.{EventsLead}
use Rattle.linearizability.specs.Effects.{completions}
use Rattle.linearizability.specs.Histories.{ChangesAsAsked, IsAppended, PendingEndOrChangeAsAsked, complete_calls, completed, had_responded, held_from}
use Rattle.linearizability.specs.Configurations.{Happening, IsRefusal, IsResponse, IsSoundConfiguration, IsWholeRun, Configuration, Pending}
use Rattle.linearizability.specs.Scanning.{IsScanInTime, map_at}

-- each configuration of a run is sound
abbrev pub RunsStaySound : Type 0
RunsStaySound =
    (layout : Layout) (last : ℕ) (at : ℕ → Configuration) (happens : ℕ → Happening) → IsWholeRun layout last at happens →
    (time : ℕ) → time ≤ last → IsSoundConfiguration layout (at time)

-- the steps of a run up to a time are legal events that lead from its first core to the core at that time
abbrev pub RunsAreEvents : Type 0
RunsAreEvents =
    (layout : Layout) (last : ℕ) (at : ℕ → Configuration) (happens : ℕ → Happening) → IsWholeRun layout last at happens →
    (time : ℕ) → time ≤ last → (events : List Event) × EventsLead (at 0).core events (at time).core

-- With the responses `added` appended, the calls of a run that have responded have one order, in which each stands once. In this order each
-- reply is that of a finite map, which is empty at first. A call that had responded before another was invoked stands before it.
abbrev pub HaveOneOrder : (layout : Layout) (last : ℕ) (at : ℕ → Configuration) (happens : ℕ → Happening) (added : ℕ → List Note) → Type 0
HaveOneOrder layout last at happens added =
    (order : List (ℕ × Note)) × IsPermutation (complete_calls (completed last happens added) (last + layout.passes)) order ×
    LegalHistory (calls_of (noted order)) × IsInTime (had_responded (held_from last at) (completed last happens added)) order

-- The run is linearizable (Herlihy and Wing, 1990). Responses may be appended for pending calls, so that all calls with a response have one
-- order. A pending call gets one for each call of the map that it asks, or none at all.
abbrev pub IsLinearizable : (layout : Layout) (last : ℕ) (at : ℕ → Configuration) (happens : ℕ → Happening) → Type 0
IsLinearizable layout last at happens =
    (added : ℕ → List Note) × ((pass : ℕ) → IsAppended ((at last).pending pass) (added pass)) × HaveOneOrder layout last at happens added

-- Each run is linearizable up to any time `last`. The calls pending then must end by a time `later` of the run, or have changed the map as
-- they ask (`PendingEndOrChangeAsAsked`).
abbrev pub Linearizable : Type 0
Linearizable =
    (layout : Layout) (last later : ℕ) (at : ℕ → Configuration) (happens : ℕ → Happening) → last ≤ later → IsWholeRun layout later at happens →
    PendingEndOrChangeAsAsked layout last later at → IsLinearizable layout last at happens

-- Let a call respond that asks one call of the map, or whose notes tell of no change. At each time from its invocation to its response it
-- has changed nothing, or has changed the map once as it asks.
abbrev pub RespondersChangeAsAsked : Type 0
RespondersChangeAsAsked =
    (layout : Layout) (last : ℕ) (at : ℕ → Configuration) (happens : ℕ → Happening) → IsWholeRun layout last at happens →
    (pass time : ℕ) (call : Pending) (notes : List Note) → pass < layout.passes → time ≤ last → IsResponse at time pass call notes →
    ((asked : Call) × (call.calls ≡ asked ∷ [])) ⊎ (changes_of pass notes ≡ []) →
    (middle : ℕ) → call.since ≤ middle → middle ≤ time → ChangesAsAsked pass call.calls (at call.since).core.changes (at middle).core.changes

-- A call that is refused has changed nothing, at each time from its invocation to its refusal: all new changes are by other passes.
abbrev pub RefusedChangeNothing : Type 0
RefusedChangeNothing =
    (layout : Layout) (last : ℕ) (at : ℕ → Configuration) (happens : ℕ → Happening) → IsWholeRun layout last at happens →
    (pass time : ℕ) (call : Pending) → pass < layout.passes → time ≤ last → IsRefusal at time pass call →
    (middle : ℕ) → call.since ≤ middle → middle ≤ time → OthersGoOn pass (at call.since).core.changes (at middle).core.changes

-- In each run the calls that have responded have one order, together with one call for each change that a pending call has made. No premise
-- on pending calls is needed, since the added calls are found by the changes (`completions`).
abbrev pub OrderedByEffect : Type 0
OrderedByEffect =
    (layout : Layout) (last : ℕ) (at : ℕ → Configuration) (happens : ℕ → Happening) → IsWholeRun layout last at happens →
    HaveOneOrder layout last at happens (completions last at)

-- Let a pass load the root between times `since` and `until`. Let a scan, upwards or downwards, be lawful while the front grew from that
-- load to `until`. The scan shows the maps of these times, as `IsScanInTime` says.
abbrev pub ScansInTime : Type 0
ScansInTime =
    (layout : Layout) (last : ℕ) (at : ℕ → Configuration) (happens : ℕ → Happening) → IsWholeRun layout last at happens →
    (pass since until : ℕ) → pass < layout.passes → since ≤ until → until ≤ last →
    ((at since).known pass).steps ≤ ((at until).known pass).fresh.step →
    (from upto : List ℕ) (limit : ℕ) (scan : Scan) →
    (IsLawfulScan ((at until).known pass).fresh.front ((at until).known pass).front from upto limit scan →
    IsScanInTime IsUpToLast at since until from upto scan) ×
    (IsLawfulReverseScan ((at until).known pass).fresh.front ((at until).known pass).front from upto limit scan →
    IsScanInTime IsDownToLast at since until from upto scan)

-- Each reply of a call that responds is the map's at a time between the call's invocation and its response.
abbrev pub RepliesInTime : Type 0
RepliesInTime =
    (layout : Layout) (last : ℕ) (at : ℕ → Configuration) (happens : ℕ → Happening) → IsWholeRun layout last at happens →
    (pass time : ℕ) (call : Pending) (notes : List Note) → pass < layout.passes → time ≤ last → IsResponse at time pass call notes →
    All (λ note. (middle : ℕ) × (call.since ≤ middle) × (middle ≤ time) × (note.reply ≡ reply_of (map_at at middle) note.call)) notes
