-- Runs of an index, configuration by configuration: the steps of passes, and the calls that passes invoke and that respond.
use Rattle.std.specs.Prelude.{◌≡◌, ◌≢◌, ℕ, suc, ◌<◌, ◌≤◌, All, IsPermutation, List, [], ◌++◌, Option, None, Some, length, map}
use Rattle.finite_map.specs.declared.Call.{Call}
use Rattle.finite_map.specs.declared.Change.{Change}
use Rattle.finite_map.specs.declared.Note.{Note}
use Rattle.finite_map.specs.Calls.{LegalCalls}
use Rattle.finite_map.specs.Fronts.{BeginsWith}
use Rattle.record_words.specs.declared.layout.Layout.{Layout}
use Rattle.rowex_core.specs.declared.event.Act.{Act}
use Rattle.rowex_core.specs.declared.known.Known.{Known}
use Rattle.rowex_core.specs.Cores.{Core, IsLawful}
use Rattle.rowex_core.specs.Events.{Legal, after}
use Rattle.rowex_core.specs.Knowing.{Knows, learned}

-- A pending call: it was invoked at time `since`, and has neither responded nor been refused. `calls` are the calls of the map that it
-- asks. That is one, or several look-ups at once, or none, as for a scan.
pub record Pending : Type 0 where
  pub since : ℕ
  pub calls : List Call

-- The index at one time: its core, what each pass knows, and the pending call of each pass, if there is one.
pub record Configuration : Type 0 where
  pub core : Core
  pub known : ℕ → Known
  pub pending : ℕ → Option Pending

-- What happens between one time and the next. A pass makes an atomic step, with these notes. Or it is shown changes, by a meeting or a
-- stamp. Or it invokes a call, which asks these calls of the map. Or its call responds with these notes, or is refused.
pub data Happening : Type 0 where
  steps : (pass : ℕ) (act : Act) (notes : List Note) → Happening
  shows : (pass : ℕ) (front : List Change) → Happening
  invokes : (pass : ℕ) (calls : List Call) → Happening
  responds : (pass : ℕ) (notes : List Note) → Happening
  refuses : (pass : ℕ) → Happening

-- The pass makes the step, which is legal, and learns what it teaches. It appends these notes. Only a pass with a pending call makes steps,
-- and the call stays pending. No other pass learns anything.
pub record IsConfigurationStep (old new : Configuration) (pass : ℕ) (act : Act) (notes : List Note) : Type 0 where
  pub legal : Legal old.core pass act
  pub core : new.core ≡ after old.core pass act
  pub own : new.known pass ≡ record (learned old.core act (old.known pass)) { notes = (old.known pass).notes ++ notes }
  pub others : (other : ℕ) → other ≢ pass → new.known other ≡ old.known other
  pub call : Pending
  pub called : old.pending pass ≡ Some call
  pub pending : new.pending ≡ old.pending

-- The pass is shown changes that passes have made, and makes no step. The changes that it has seen are then those of `front`. They begin
-- with those that it had seen before, and the core's changes begin with them. All else stays.
pub record IsShowing (old new : Configuration) (pass : ℕ) (front : List Change) : Type 0 where
  pub core : new.core ≡ old.core
  pub more : BeginsWith front (old.known pass).front
  pub made : BeginsWith old.core.changes front
  pub own : new.known pass ≡ record (old.known pass) { front = front }
  pub others : (other : ℕ) → other ≢ pass → new.known other ≡ old.known other
  pub pending : new.pending ≡ old.pending

-- The pending call of the pass of this number, which the layout has, becomes `call`. Without one (`None`) no call is pending then. The
-- core, what passes know, and the pending calls of others stay.
pub record IsCallTurn (layout : Layout) (old new : Configuration) (number : ℕ) (call : Option Pending) : Type 0 where
  pub pass : number < layout.passes
  pub core : new.core ≡ old.core
  pub known : new.known ≡ old.known
  pub own : new.pending number ≡ call
  pub others : (other : ℕ) → other ≢ number → new.pending other ≡ old.pending other

-- The note's place fits a call that the pass made from time `since` to time `until`. At a time `shown` of the call, the pass's last load of
-- the root was one that it made in the call. The note's place is at least the number of changes that this load showed.
pub record IsNotedBetween (at : ℕ → Configuration) (pass since until : ℕ) (note : Note) : Type 0 where
  pub shown : ℕ
  pub from : since ≤ shown
  pub upto : shown ≤ until
  pub loaded : ((at since).known pass).steps ≤ ((at shown).known pass).fresh.step
  pub low : length ((at shown).known pass).fresh.front ≤ note.place

-- The pass's pending call responds at this time with these notes. They are one for each call of the map that it asks, in some order, and
-- the only notes since its invocation. Each has a place that fits the call's time (`placed`). All notes of the pass are legal calls on the
-- changes that it has seen (`legal`). Contracts of calls promise that.
pub record IsResponse (at : ℕ → Configuration) (time pass : ℕ) (call : Pending) (notes : List Note) : Type 0 where
  pub called : (at time).pending pass ≡ Some call
  pub calls : IsPermutation call.calls (map (λ note. note.call) notes)
  pub noted : ((at time).known pass).notes ≡ ((at call.since).known pass).notes ++ notes
  pub placed : All (IsNotedBetween at pass call.since time) notes
  pub legal : LegalCalls ((at time).known pass).front pass ((at time).known pass).notes

-- The pass's pending call is refused at this time, and no note was added since its invocation. The pass's notes are legal calls on the
-- changes that it has seen.
pub record IsRefusal (at : ℕ → Configuration) (time pass : ℕ) (call : Pending) : Type 0 where
  pub called : (at time).pending pass ≡ Some call
  pub noted : ((at time).known pass).notes ≡ ((at call.since).known pass).notes
  pub legal : LegalCalls ((at time).known pass).front pass ((at time).known pass).notes

-- What happens at this time leads from its configuration to the next one. A call is invoked by a pass that has none pending. It then is
-- pending since this time, until it responds or is refused.
abbrev pub Continues : (layout : Layout) (at : ℕ → Configuration) (time : ℕ) (happening : Happening) → Type 0
Continues layout at time (steps pass act notes) = IsConfigurationStep (at time) (at (suc time)) pass act notes
Continues layout at time (shows pass front) = IsShowing (at time) (at (suc time)) pass front
Continues layout at time (invokes pass calls) =
    ((at time).pending pass ≡ None) × IsCallTurn layout (at time) (at (suc time)) pass (Some (record { since = time; calls = calls }))
Continues layout at time (responds pass notes) =
    (call : Pending) × IsResponse at time pass call notes × IsCallTurn layout (at time) (at (suc time)) pass None
Continues layout at time (refuses pass) = (call : Pending) × IsRefusal at time pass call × IsCallTurn layout (at time) (at (suc time)) pass None

-- The core of the configuration is lawful, and has this layout. Each pass of the layout knows its own number, and what it knows is true of
-- the core.
pub record IsSoundConfiguration (layout : Layout) (configuration : Configuration) : Type 0 where
  pub layout_is : configuration.core.layout ≡ layout
  pub lawful : IsLawful configuration.core
  pub named : (pass : ℕ) → pass < layout.passes → (configuration.known pass).pass ≡ pass
  pub knows : (pass : ℕ) → pass < layout.passes → Knows configuration.core (configuration.known pass)

-- The configuration is sound, and of a new index: no change has been made, no pass has a note, and no call is pending.
pub record IsNewIndex (layout : Layout) (configuration : Configuration) : Type 0 where
  pub sound : IsSoundConfiguration layout configuration
  pub changes : configuration.core.changes ≡ []
  pub notes : (pass : ℕ) → (configuration.known pass).notes ≡ []
  pub pending : (pass : ℕ) → configuration.pending pass ≡ None

-- A run: the index is new at time 0. What happens at each time before `last` leads to the configuration of the next time. Of later times
-- this says nothing.
pub record IsWholeRun (layout : Layout) (last : ℕ) (at : ℕ → Configuration) (happens : ℕ → Happening) : Type 0 where
  pub new : IsNewIndex layout (at 0)
  pub next : (time : ℕ) → time < last → Continues layout at time (happens time)
