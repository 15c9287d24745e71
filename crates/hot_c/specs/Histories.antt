-- What calls through handles have told a program in C, and that all that was told stands in one legal history of a finite map.
use Rattle.std.specs.Prelude.{◌≡◌, ◌≢◌, ◌⊎◌, ℕ, ◌<◌, ◌≤◌, ◌^◌, All, List, [], ◌∷◌, ◌++◌, IsPermutation, Option, None, Some, if◌then◌else◌, map, nat_eq}
use Rattle.std.specs.Option.{option_to_list}
use Rattle.finite_map.specs.declared.Call.{Call}
use Rattle.finite_map.specs.declared.Call.TheVariants.{Get, Insert}
use Rattle.finite_map.specs.declared.Note.{Note}
use Rattle.finite_map.specs.declared.Reply.{Reply}
use Rattle.finite_map.specs.declared.Reply.TheVariants.{Absent, Differs, Exchanged, Exists, Inserted, New, Removed, Value, Was}
use Rattle.finite_map.specs.Calls.{LegalCalls}
use Rattle.tries.specs.Keys.{Key}
use Rattle.rowex_core.specs.declared.event.Event.{Event}
use Rattle.rowex_table.specs.Seats.{TableView}
use Rattle.rowex_table.specs.Traces.{OthersStepOn, RunBeginsWith}
use Rattle.hot_index_calls.specs.Calls.{GetsOr}
use Rattle.hot_index_calls.specs.Census.{HasCounted}
use Rattle.hot_index_calls.specs.Passes.{IsNewPass, Owns, PassView, pass_of}
use Rattle.hot_index_calls.specs.Traces.{HasCollected, HasMadeScanSteps, untold}
use Rattle.hot_index_calls.specs.declared.census.RecordCounts.{RecordCounts}
use Rattle.hot_index.specs.Handles.{HandleView}
use Rattle.hot_index.specs.Loads.{IsLoaderPass}
use Rattle.linearizability.specs.Histories.{notes_of_response}
use Rattle.linearizability.specs.Configurations.{Happening}
use Rattle.linearizability.specs.Statements.{IsLinearizable}
use Rattle.index_laws.specs.Joined.{IsExecutionOf}
use Rattle.index_laws.specs.Traced.{Instant, configuration_of}
use Rattle.hot_c.specs.Calls.{Answers, FitsInKey, HasGivenBack, HasCountedRecords, StaysOpen}
use Rattle.hot_c.specs.declared.census.HotCounts.{HotCounts}
use Rattle.hot_c.specs.Committing.{TellsUncommitted}
use Rattle.hot_c.specs.Counting.{CountsRange}
use Rattle.hot_c.specs.Ends.{FindsFirst, FindsFirstIn, FindsLast}
use Rattle.hot_c.specs.Following.{SeesLeader, SeesSteps}
use Rattle.hot_c.specs.Lookups.{LooksUpAll, key_in}
use Rattle.hot_c.specs.Orders.{IsFilledIn, IsListedIn}
use Rattle.hot_c.specs.Packs.{ListsPackedBy, Packing}
use Rattle.hot_c.specs.Scans.{Listing, ListsBy}
use Rattle.hot_c.specs.Values.{ListsValues, ValueListing}
use Rattle.hot_c.specs.declared.lookups.Lookup.{Lookup}
use Rattle.hot_c.specs.declared.opened.Opened.{Opened}
use Rattle.hot_c.specs.declared.pairs.Order.{Order}
use Rattle.hot_c.specs.declared.pairs.Pair.{Pair}
use Rattle.hot_c.specs.declared.status.TheConstants.{ABSENT, BUSY, DIFFERS, DONE, EXCHANGED, EXISTS, FOUND, INSERTED, NEW, REMOVED, WAS}

-- What a call has told

-- The reply that a status and C's value tell; none if the call was refused, or wasn't made.
abbrev pub told_reply : (status value : ℕ) → Option Reply
told_reply status value =
    if nat_eq status FOUND then Some (Value value) else (if nat_eq status ABSENT then Some Absent else (if nat_eq status INSERTED then Some Inserted else
    (if nat_eq status EXISTS then Some (Exists value) else (if nat_eq status NEW then Some New else (if nat_eq status WAS then Some (Was value) else
    (if nat_eq status EXCHANGED then Some Exchanged else (if nat_eq status DIFFERS then Some (Differs value) else
    (if nat_eq status REMOVED then Some (Removed value) else None))))))))

-- The call with the reply that the status and the value tell, as a list; an empty one if they tell no reply.
abbrev pub told_of : (call : Call) (status value : ℕ) → List (Call × Reply)
told_of call status value = map (λ reply. (call, reply)) (option_to_list (told_reply status value))

-- the gets of many look-ups, each with the reply that its status and value tell; a look-up that tells none is left out
abbrev pub told_of_each : (lookups : List Lookup) → List (Call × Reply)
told_of_each [] = []
told_of_each (lookup ∷ lookups) = told_of (Get (key_in lookup)) lookup.status lookup.value ++ told_of_each lookups

-- the insertions of the pairs of a load, each with the reply `Inserted`
abbrev pub loaded_each : List (Key × ℕ) → List (Call × Reply)
loaded_each = map (λ pair. (Insert pair.0 pair.1, Inserted))

-- What the calls of a handle have told

-- The handle is at this index, and has a pass of the index, as the invariants of a handle and of a pass say.
pub record IsAt (index : TableView) (handle : HandleView) : Type 0 where
  pub index_is : handle.index ≡ index
  pub own : Owns index handle.pass
  pub seat : handle.pass ≡ pass_of handle.pass.seat

-- The call asked nothing of the map, and noted nothing. It read a range, or made a round of collection, or counted all committed records.
pub record AsksNothing (index : TableView) (old new : PassView) : Type 0 where
  pub same : new.notes ≡ old.notes
  pub legal : LegalCalls new.front new.number new.notes
  pub made : ((limit : ℕ) × HasMadeScanSteps index untold limit (old, tt) (new, tt))
      ⊎ (((nodes : ℕ) × (leaves : ℕ) × HasCollected index untold (old, tt) (new, tt) nodes leaves) ⊎
      ((counts : RecordCounts) × HasCounted index untold (old, tt) (new, tt) counts))

-- A handle saw what its leader had seen: the handle was `old` and is `new`, and the leader was `leader` and is `led`.
pub record HasSeenAnother (old new leader led : Opened) : Type 0 where
  pub sees : SeesLeader (Some old) (Some new) (Some leader) (Some led) DONE
  pub steps : SeesSteps (Some old) (Some new) (Some leader) (Some led)

-- What the calls of a handle have told since it was opened, with the pass of this number of the index. There is an entry for each call that
-- asked the map: what it asked, with the replies that its statuses and values tell. The entry of a refused call is empty. `opened`: the
-- handle was opened with a new pass. `loaded`: it was opened with the pass of a load, which has inserted each pair. `asked`: a call asked
-- for one key; `hot_get` is never told that it is busy. `looked_up`: a call looked up many keys, none of them too long. `went_on`: a call
-- asked the map nothing. `committed`: a call committed records, or found how many aren't. `saw`: the handle has seen what another has seen.
-- `was_seen`: another has seen what this one has seen.
pub data HaveTold (index : TableView) : ℕ → List (List (Call × Reply)) → HandleView → Type 0 where
  opened : {pass : ℕ} {handle : HandleView} → IsNewPass pass handle.pass → IsAt index handle → HaveTold index pass [] handle
  loaded : {pass : ℕ} {handle : HandleView} → pass ≡ 0 → (pairs : List (Key × ℕ)) → IsLoaderPass index pairs handle.pass → IsAt index handle →
      HaveTold index pass (loaded_each pairs ∷ []) handle
  asked : {pass : ℕ} {told : List (List (Call × Reply))} {old new : Opened} → HaveTold index pass told old.handle →
      (key : List ℕ) (call : Call) (before after status : ℕ) →
      Answers key call (Some old) (Some new) before after status → GetsOr call (status ≢ BUSY) (Unit {0}) →
      HaveTold index pass (told ++ told_of call status after ∷ []) new.handle
  looked_up : {pass : ℕ} {told : List (List (Call × Reply))} {old new : Opened} → HaveTold index pass told old.handle →
      (before after : List Lookup) → All (λ lookup. FitsInKey (key_in lookup)) before →
      LooksUpAll (Some old) (Some new) before after DONE → HaveTold index pass (told ++ told_of_each after ∷ []) new.handle
  went_on : {pass : ℕ} {told : List (List (Call × Reply))} {old new : Opened} → HaveTold index pass told old.handle →
      StaysOpen AsksNothing (Some old) (Some new) → HaveTold index pass told new.handle
  committed : {pass : ℕ} {told : List (List (Call × Reply))} {old new : Opened} → HaveTold index pass told old.handle →
      (kind count : ℕ) → StaysOpen (TellsUncommitted kind count) (Some old) (Some new) → HaveTold index pass told new.handle
  saw : {pass other : ℕ} {told others : List (List (Call × Reply))} {old new leader led : Opened} →
      HaveTold index pass told old.handle → HaveTold index other others leader.handle → HasSeenAnother old new leader led →
      HaveTold index pass told new.handle
  was_seen : {pass other : ℕ} {told others : List (List (Call × Reply))} {old new leader led : Opened} →
      HaveTold index pass told leader.handle → HaveTold index other others old.handle → HasSeenAnother old new leader led →
      HaveTold index pass told led.handle

-- Each call through an open handle of which `Says` holds asks nothing of the map, adds no note, and leaves the handle open.
abbrev pub StaysQuiet : (Says : Option Opened → Option Opened → Type 0) → Type 0
StaysQuiet Says = (old : Opened) (new : Option Opened) → Says (Some old) new → StaysOpen AsksNothing (Some old) new

-- Which calls ask nothing of the map: scans of each kind, searches for an end of a range, counts of a range, rounds of collection, and
-- counts of all committed records. That is said of those whose keys aren't too long.
pub record QuietCalls : Type 0 where
  pub lists : (order : Order) (from upto : List ℕ) → FitsInKey from → FitsInKey upto → (before after : Listing) (status : ℕ) →
      StaysQuiet (λ old new. ListsBy (IsListedIn order) from upto old new before after status)
  pub packs : (order : Order) (from upto : List ℕ) → FitsInKey from → FitsInKey upto → (before after : Packing) (status : ℕ) →
      StaysQuiet (λ old new. ListsPackedBy (IsFilledIn order) from upto old new before after status)
  pub values : (from upto : List ℕ) → FitsInKey from → FitsInKey upto → (before after : ValueListing) (status : ℕ) →
      StaysQuiet (λ old new. ListsValues from upto old new before after status)
  pub ends : (order : Order) (from upto : List ℕ) → FitsInKey from → FitsInKey upto → (before after : Pair) (status : ℕ) →
      StaysQuiet (λ old new. FindsFirstIn order from upto old new before after status)
  pub first : (from : List ℕ) → FitsInKey from → (before after : Pair) (status : ℕ) →
      StaysQuiet (λ old new. FindsFirst from old new before after status)
  pub last : (upto : List ℕ) → FitsInKey upto → (before after : Pair) (status : ℕ) →
      StaysQuiet (λ old new. FindsLast upto old new before after status)
  pub counts : (from upto : List ℕ) → FitsInKey from → FitsInKey upto → (before after status : ℕ) →
      StaysQuiet (λ old new. CountsRange from upto old new before after status)
  pub round : (nodes leaves : ℕ) → StaysQuiet (StaysOpen (HasGivenBack nodes leaves))
  pub census : (shown : HotCounts) → StaysQuiet (StaysOpen (HasCountedRecords shown))

-- One history

-- the notes of the answered calls among these happenings
abbrev pub answered_notes : List Happening → List Note
answered_notes [] = []
answered_notes (happening ∷ happenings) = notes_of_response happening ++ answered_notes happenings

-- The notes are those of what calls have told, one for each reply. The notes of one call stand together, in some order, and the calls stand
-- in theirs.
pub data AreNotesOf : List (List (Call × Reply)) → List Note → Type 0 where
  none : AreNotesOf [] []
  more : {told : List (List (Call × Reply))} {notes : List Note} → AreNotesOf told notes → (replies : List (Call × Reply)) (added : List Note) →
      IsPermutation replies (map (λ note. (note.call, note.reply)) added) → AreNotesOf (told ++ replies ∷ []) (notes ++ added)

-- the steps that the pass of the open handle knows
abbrev pub steps_known : Opened → List Event
steps_known open_handle = open_handle.handle.pass.seat.trace

-- The calls of a pass had told `told` when its handle was `was`, and the pass made no step of the run after those that it knew then.
-- `rested`: the run goes on by steps of other passes alone. So it is with a handle that was never opened, that was closed, or that makes no
-- later call. `followed`: the run begins with the steps that the pass knew, and the handle then saw a leader that knew the whole run. So
-- the handle itself shows that it made no other step.
pub data HasToldAll (index : TableView) (run : List Event) (pass : ℕ) (told : List (List (Call × Reply))) : HandleView → Type 0 where
  rested : {was : HandleView} → HaveTold index pass told was → OthersStepOn pass was.pass.seat.trace run → HasToldAll index run pass told was
  followed : {was now leader led : Opened} → HaveTold index pass told was.handle → RunBeginsWith run (steps_known was) →
      HasSeenAnother was now leader led → RunBeginsWith (steps_known leader) run → HasToldAll index run pass told was.handle

-- Let some handle of an index (`all`) know a run of steps. Let each pass of the index have told all that it did in this run, whether its
-- handle is open, closed, or was never opened. There is one execution in which each pass makes just the calls that its handle told of, with
-- these replies. It is linearizable: the calls have one order in which a map could have made them. Of two calls that don't overlap, the
-- earlier stands first.
abbrev pub CallsAreLinearizable : Type 0
CallsAreLinearizable =
    (index : TableView) (told : ℕ → List (List (Call × Reply))) (was : ℕ → HandleView) →
    (one : ℕ) → one < index.layout.passes → (others : List (List (Call × Reply))) (all : Opened) → HaveTold index one others all.handle →
    ((pass : ℕ) → pass < index.layout.passes → HasToldAll index (steps_known all) pass (told pass) (was pass)) →
    (done : ℕ → List Happening) × (last : ℕ) × (at : ℕ → Instant) × (happens : ℕ → Happening) ×
    ((pass : ℕ) → pass < index.layout.passes → AreNotesOf (told pass) (answered_notes (done pass))) ×
    IsExecutionOf index (steps_known all) done (λ pass. (was pass).pass.seat) last at happens ×
    IsLinearizable index.layout last (λ time. configuration_of index.layout (at time)) happens

-- Let an index have at least two handles; `any` is some open handle. For each value of 64 bits its handles may have told this. The first
-- inserted the key of no bytes with this value, the second then found it, and the others were never opened. So the premise of
-- `CallsAreLinearizable` can be met, by an index with more handles than a program opens.
abbrev pub AnInsertIsTold : Type 0
AnInsertIsTold =
    (any : Opened) (index : TableView) → 2 ≤ index.layout.passes → (value : ℕ) → value < 2 ^ 64 →
    (told : ℕ → List (List (Call × Reply))) × (was : ℕ → HandleView) × (all : Opened) × HaveTold index 1 (told 1) all.handle ×
    ((pass : ℕ) → pass < index.layout.passes → HasToldAll index (steps_known all) pass (told pass) (was pass)) ×
    (told 0 ≡ ((Insert [] value, Inserted) ∷ []) ∷ []) × (told 1 ≡ ((Get [], Value value) ∷ []) ∷ []) × ((pass : ℕ) → 2 ≤ pass → told pass ≡ [])
