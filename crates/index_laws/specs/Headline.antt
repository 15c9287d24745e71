-- What is promised of an index, in one place. Most promises say what the contracts of its calls come to, of one call or over whole runs.
-- The last three say what stands in records that a pinned pass may reach.
--
-- What no contract can say, and so is no promise here:
-- - that the code runs, and that a call returns at all;
-- - what a call does that never returns, but for its steps on the table;
-- - when a call begins and ends, by the clock. The kit says of its table that each atomic step is one step of it, and that it has one state
-- between any two of them. By its rule all steps are one list, of which each pass knows a part. Contracts of steps say how they follow one
-- another in the list. So what they tell is an execution (`traced`).
use Rattle.std.specs.Prelude.{◌≡◌, ◌≢◌, ◌⊎◌, ℕ, ◌+◌, ◌*◌, ◌<◌, ◌≤◌, All, List, [], ◌∷◌, ◌++◌, Result, Some, map}
use Rattle.key_bits.specs.declared.TheConstants.{MAX_BYTES}
use Rattle.finite_map.specs.declared.Call.{Call}
use Rattle.finite_map.specs.declared.Note.{Note}
use Rattle.finite_map.specs.declared.Call.TheVariants.{Add, Exchange, Get, Insert, Remove, RemoveIf}
use Rattle.finite_map.specs.declared.Reply.{Reply}
use Rattle.finite_map.specs.declared.Reply.TheVariants.{Inserted}
use Rattle.finite_map.specs.declared.Scan.{Scan}
use Rattle.finite_map.specs.Calls.{LegalCalls, own_changes}
use Rattle.finite_map.specs.Maps.{IsRising, Map, reply_of}
use Rattle.finite_map.specs.Reverse.{IsDownToLast, IsLawfulReverseScan}
use Rattle.finite_map.specs.Scans.{IsLawfulScan, IsUpToLast}
use Rattle.finite_map.specs.Weaves.{LegalHistory, answered, calls_of, weave}
use Rattle.plain_index.specs.Orders.{AreWoven, calls_in}
use Rattle.record_words.specs.Layout.{uncommitted_in}
use Rattle.record_words.specs.declared.layout.Layout.{Layout}
use Rattle.epochs.specs.Rounds.{committed_records}
use Rattle.record_words.specs.declared.TheConstants.{VALUE_OFFSET}
use Rattle.rowex_core.specs.Cores.{Core, IsLawful}
use Rattle.rowex_core.specs.Events.{IsLoad, loaded_tree}
use Rattle.rowex_core.specs.Reading.{head_value}
use Rattle.rowex_core.specs.Statements.{EntriesInReach, ReachKeepsWords, StoodLast}
use Rattle.rowex_core.specs.Words.{record_word}
use Rattle.rowex_scanning.specs.Counts.{scan_entries}
use Rattle.rowex_table.specs.Seats.{IsLoaderSeat, SeatView, TableView}
use Rattle.rowex_writing.specs.declared.attempts.TryFault.{TryFault}
use Rattle.rowex_writing.specs.declared.attempts.TryFault.TheVariants.{Busy, FullLeaves}
use Rattle.tries.specs.Tree.{Tree}
use Rattle.version_laws.specs.Directions.{ScanLaw}
use Rattle.versions.specs.State.{Stands}
use Rattle.versions.specs.Told.{content, items_of}
use Rattle.versions.specs.declared.Pin.{Pin}
use Rattle.record_words.specs.declared.records.Rec.TheVariants.{Leaf as a_leaf}
use Rattle.hot_index_calls.specs.Answers.{HaveMet, IsCause, IsListedBy, IsNoted, IsRefusedFor, IsScannedBy, MayRefuse, range_from}
use Rattle.hot_index_calls.specs.declared.census.RecordCounts.{RecordCounts}
use Rattle.hot_index_calls.specs.Census.{HasCounted, all_uncommitted}
use Rattle.hot_index_calls.specs.Counts.{round_steps, try_steps, visiting_steps}
use Rattle.hot_index_calls.specs.Many.{HasMadeGetManySteps}
use Rattle.hot_index_calls.specs.Passes.{PassView, pass_of}
use Rattle.hot_index_calls.specs.Traces.{HasCollected, HasMadeGetSteps, HasMadeScanSteps, HasMadeChangeSteps, untold}
use Rattle.hot_index.specs.Statements.{AbsentIsNeverFull, CountsAddUp, HeldIsNeverFull, OnePassFullMeansTaken, OnePassRefusesOnlyNewKeys, ReturnedBeforeBegun}
use Rattle.linearizability.specs.Configurations.{Happening, IsWholeRun, Configuration, Pending}
use Rattle.linearizability.specs.Scanning.{IsScanInTime, map_at}
use Rattle.index_laws.specs.Lives.{OneHistoryOfAll}
use Rattle.index_laws.specs.Executions.{HasAnsweredMany, IsReturning}
use Rattle.index_laws.specs.Joined.{OneRunIsAnExecution}
use Rattle.index_laws.specs.Statements.{ExecutionsAreLinearizable, Responses}
use Rattle.index_laws.specs.Traced.{EndedBeforeLoaded, TracedAreExecutions}

-- The answered calls of a pass, with the changes of others that it has seen, are a legal history of a finite map. Each call of the pass
-- stands in it once, in the order in which they were made. The call that was just answered is the last of them.
abbrev pub History : Type 0
History =
    (layout : Layout) (old new : PassView) (call : Call) (reply : Reply) → IsNoted layout old new call reply →
    LegalHistory (weave new.front new.notes) × (calls_in (weave new.front new.notes) ≡ calls_of new.notes) ×
    (calls_of new.notes ≡ calls_of old.notes ++ answered call reply ∷ [])

-- Two passes that have met share one legal history of a finite map. It has the calls of both, each once, in the order of each pass.
abbrev pub OneHistory : Type 0
OneHistory =
    (layout : Layout) (one other one_after other_after : PassView) → HaveMet layout one other one_after other_after →
    LegalHistory (weave one_after.front (one_after.notes ++ other_after.notes)) ×
    AreWoven (calls_of one_after.notes) (calls_of other_after.notes) (calls_in (weave one_after.front (one_after.notes ++ other_after.notes)))

-- If a bulk load made the table, the calls of pass 0 are the insertions of the load's pairs, in the order of their keys. Each returned
-- `Inserted`, and together they are a legal history of a finite map. The keys rise, so none stands twice.
abbrev pub LoadedHistory : Type 0
LoadedHistory =
    (table : TableView) (words : List ℕ) (seat : SeatView) → IsLoad table.layout words → IsLoaderSeat table words seat →
    LegalHistory (weave (pass_of seat).front (pass_of seat).notes) ×
    (calls_in (weave (pass_of seat).front (pass_of seat).notes) ≡
    map (λ item. answered (Insert item.key item.value) Inserted) (items_of (loaded_tree table.layout words))) ×
    IsRising (content (loaded_tree table.layout words))

-- In a run, let a call with one key be answered by some time. Its reply is the map's at a moment from its invocation to this time. So it
-- misses no change made before its invocation.
abbrev pub Freshness : Type 0
Freshness =
    (layout : Layout) (last : ℕ) (at : ℕ → Configuration) (happens : ℕ → Happening) → IsWholeRun layout last at happens →
    (pass time : ℕ) → pass < layout.passes → time ≤ last → (call : Pending) (start end : SeatView) → IsReturning at pass time call start end →
    (asked : Call) (reply : Reply) → IsNoted layout (pass_of start) (pass_of end) asked reply →
    (moment : ℕ) × (call.since ≤ moment) × (moment ≤ time) × (reply ≡ reply_of (map_at at moment) asked)

-- In a run, let a call that looks up many keys be answered by some time. Each reply is the map's at a moment from the call's invocation to
-- this time, which may be another for each reply. So none misses a change made before the invocation.
abbrev pub FreshnessOfMany : Type 0
FreshnessOfMany =
    (layout : Layout) (last : ℕ) (at : ℕ → Configuration) (happens : ℕ → Happening) → IsWholeRun layout last at happens →
    (pass time : ℕ) → pass < layout.passes → time ≤ last → (call : Pending) (start end : SeatView) → IsReturning at pass time call start end →
    (notes : List Note) → HasAnsweredMany layout call (pass_of start) (pass_of end) notes →
    All (λ note. (moment : ℕ) × (call.since ≤ moment) × (moment ≤ time) × (note.reply ≡ reply_of (map_at at moment) note.call)) notes

-- In a run, let a scan be answered by some time, with its pairs or into a list. It is lawful while the front of its pass grew from the last
-- load of the root to the end. Each pair was in the map at a time of the scan. No key of the range is missing that was in the map all the
-- while. If the scan has more, that is said only of keys no further than its last pair (`IsReached`). A scan into a list that was refused
-- memory counts as one with a lower limit. `IsLawful` and `IsReached` are those of scans upwards, or of scans downwards.
abbrev pub ScansShow : (IsLawful : ScanLaw) (IsReached : Map → List ℕ → Type 0) → Type 0
ScansShow IsLawful IsReached =
    (layout : Layout) (last : ℕ) (at : ℕ → Configuration) (happens : ℕ → Happening) → IsWholeRun layout last at happens →
    (pass time : ℕ) → pass < layout.passes → time ≤ last → (call : Pending) (start end : SeatView) → IsReturning at pass time call start end →
    (from upto : List ℕ) (limit : ℕ) (scan : Scan) → IsScannedBy IsLawful layout (pass_of start) (pass_of end) (range_from from upto limit) scan ⊎
    IsListedBy IsLawful layout (pass_of start) (pass_of end) (range_from from upto limit) scan.pairs.items scan.more →
    IsLawful (pass_of end).fresh.front (pass_of end).front from upto limit scan × IsScanInTime IsReached at call.since time from upto scan

-- A refused call of a pass whose earlier calls are legal has changed nothing and adds no note. Its fault has a cause (`IsCause`): another
-- pass was in its way, or no record that would have served was free. In an index of one pass no call is busy.
abbrev pub Refusals : Type 0
Refusals =
    (layout : Layout) (call : Call) (old new : PassView) (fault : TryFault) → IsRefusedFor layout call old new fault →
    LegalCalls old.front old.number old.notes →
    (new.notes ≡ old.notes) × (own_changes new.number new.front ≡ own_changes old.number old.front) × IsCause layout call old new fault ×
    (layout.passes ≡ 1 → fault ≢ Busy)

-- When calls are never full. A call that gives its key a value is not, if the map had the key all the while (`held`). A removal is not, if
-- its key was absent all the while (`absent`). In an index of one pass, a call that gives a value to a key of the map is never refused
-- (`alone`).
pub record NeverFull : Type 0 where
  pub held : HeldIsNeverFull
  pub absent : AbsentIsNeverFull
  pub alone : OnePassRefusesOnlyNewKeys

-- Which faults no call has, by what `MayRefuse` leaves. A get is never refused. An exchange and an addition are never full. A removal never
-- lacks a leaf record.
abbrev pub FaultsByCall : Type 0
FaultsByCall =
    (call : Call) (fault : TryFault) → MayRefuse call fault → (key : List ℕ) →
    (call ≢ Get key) × (fault ≡ FullLeaves → call ≢ Remove key) × (fault ≡ FullLeaves → (expected : ℕ) → call ≢ RemoveIf key expected) ×
    (fault ≢ Busy → (expected value : ℕ) → call ≢ Exchange key expected value) × (fault ≢ Busy → (delta : ℕ) → call ≢ Add key delta)

-- Bounds on the atomic steps of each call that waits for no other pass: gets, tries of changes, scans, rounds of collection, and counts of
-- all committed records. A round makes two at most for each record that is committed by what its pass knows then. A key's path has at most
-- `9 * MAX_BYTES` nodes, since each node has a fork at a further bit of the key. At each node a search makes at most 26 steps.
pub record BoundedSteps : Type 0 where
  pub get : (index : TableView) (old new : PassView) → HasMadeGetSteps index untold (old, tt) (new, tt) →
      new.steps ≤ old.steps + 36 + 26 * (9 * MAX_BYTES)
  pub get_many : (index : TableView) (count : ℕ) (old new : PassView) → HasMadeGetManySteps index untold count (old, tt) (new, tt) →
      new.steps ≤ old.steps + 4 + 32 * count + 26 * (count * (9 * MAX_BYTES))
  pub change : (index : TableView) (call : Call) (result : Result Reply TryFault) (old new : PassView) →
      HasMadeChangeSteps index untold call result (old, tt) (new, tt) →
      new.steps ≤ old.steps + try_steps call index.layout
  pub scan : (index : TableView) (limit : ℕ) (old new : PassView) → HasMadeScanSteps index untold limit (old, tt) (new, tt) →
      new.steps ≤ old.steps + 101 + 26 * scan_entries limit + 8 * limit
  pub collect : (index : TableView) (nodes leaves : ℕ) (old new : PassView) → HasCollected index untold (old, tt) (new, tt) nodes leaves →
      new.steps ≤ old.steps + round_steps index.layout
  pub collect_committed : (index : TableView) (nodes leaves : ℕ) (old new : PassView) → HasCollected index untold (old, tt) (new, tt) nodes leaves →
      new.steps ≤ old.steps + visiting_steps index.layout (committed_records index.layout (uncommitted_in new.seat.bounds))
  pub count : (index : TableView) (counts : RecordCounts) (old new : PassView) → HasCounted index untold (old, tt) (new, tt) counts →
      new.steps + all_uncommitted counts ≤ old.steps + (index.layout.nodes + index.layout.leaves)

-- Bounds on the words that a call touches beside its steps. A get touches at most four for each node on its key's path, of which there are
-- at most 2,160. A call of many gets touches at most eleven for each such node. A scan touches at most eleven words for each entry that it
-- loads, and a try of a change eleven for each step.
pub record BoundedTouches : Type 0 where
  pub get : (index : TableView) (old new : PassView) → HasMadeGetSteps index untold (old, tt) (new, tt) →
      new.touches ≤ old.touches + 4 * (9 * MAX_BYTES)
  pub get_many : (index : TableView) (count : ℕ) (old new : PassView) → HasMadeGetManySteps index untold count (old, tt) (new, tt) →
      new.touches ≤ old.touches + 11 * (count * (9 * MAX_BYTES))
  pub change : (index : TableView) (call : Call) (result : Result Reply TryFault) (old new : PassView) →
      HasMadeChangeSteps index untold call result (old, tt) (new, tt) →
      new.touches ≤ old.touches + 11 * try_steps call index.layout
  pub scan : (index : TableView) (limit : ℕ) (old new : PassView) → HasMadeScanSteps index untold limit (old, tt) (new, tt) →
      new.touches ≤ old.touches + 11 * scan_entries limit

-- Let a leaf have stood in the tree in a version `since`, which is no older than a pass's pin. Let `last` be the last version in which it
-- stood. The value in its record now is the one that it had in `last`.
abbrev pub ValuesInReach : Type 0
ValuesInReach =
    (core : Core) → IsLawful core → (pass : ℕ) (pin : Pin) → core.pins pass ≡ Some pin → (since number : ℕ) (tree : Tree) → pin.version ≤ since →
    since ≤ core.past.now →
    Stands core.past since (a_leaf number) tree →
    (last : ℕ) × (last_tree : Tree) × (since ≤ last) × StoodLast core.past last (a_leaf number) last_tree ×
    (head_value last_tree ≡ Some (record_word core (a_leaf number) VALUE_OFFSET))

-- The promises of an index, each as a field.
pub record Headline : Type 0 where
  pub history : History
  pub one_history : OneHistory
  -- passes that have seen the same share one legal history, in which each of their answered calls stands once
  pub one_history_of_all : OneHistoryOfAll
  -- the history of a table that a bulk load made begins with the insertions of the load; in an execution these are one call
  pub loaded_history : LoadedHistory
  -- what contracts say of steps, meetings, stamps and calls makes an execution, if each step's trace is what came before it in one order
  pub traced : TracedAreExecutions
  -- if the traces of passes have ended in one run, as after a meeting, their calls are an execution, and linearizable
  pub one_run : OneRunIsAnExecution
  -- the look-ups and changes of an execution are linearizable
  pub linearizable : ExecutionsAreLinearizable
  -- what contracts say of calls that have ended makes an execution a run
  pub responses : Responses
  pub freshness : Freshness
  pub freshness_of_many : FreshnessOfMany
  -- if a pass has followed a stamp or met another, a call that had returned by then stands no later than one that then begins
  pub order_in_time : ReturnedBeforeBegun
  -- a call with one key stands no later than any call that loads the root after its last step
  pub order_of_steps : EndedBeforeLoaded
  pub scans : ScansShow IsLawfulScan IsUpToLast
  pub reverse_scans : ScansShow IsLawfulReverseScan IsDownToLast
  pub refusals : Refusals
  -- With one pass, each leaf record that a full call lacked was in the tree or retired. At least a third of the node records but one were
  -- so, and all but at most 4,321.
  pub full_alone : OnePassFullMeansTaken
  pub never_refused : FaultsByCall
  pub never_full : NeverFull
  -- if no pass is changing the index, the counts of keys that its passes keep add up to the number of keys
  pub number_of_keys : CountsAddUp
  pub steps : BoundedSteps
  pub touches : BoundedTouches
  -- A record that a pinned pass may reach is not reused. Its words are those with which it stood in the tree. This leaves out its state, a
  -- node's entries, a leaf's value, and what stands behind a leaf's key.
  pub out_of_reach : ReachKeepsWords
  -- an entry or a value in such a record is one that the record had when it last stood in the tree
  pub entries_in_reach : EntriesInReach
  pub values_in_reach : ValuesInReach
