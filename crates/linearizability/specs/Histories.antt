-- The history of a run, after Herlihy and Wing (1990): which calls have responded, and which responses may be appended for those that are
-- pending. The calls of a history are look-ups and changes. Scans and refused calls add none.
use Rattle.std.specs.Prelude.{◌≡◌, ◌⊎◌, ℕ, zero, suc, ◌-◌, ◌<◌, ◌≤◌, List, [], ◌∷◌, ◌++◌, Bool, Option, None, Some, if◌then◌else◌, length, map, nat_le, nat_lt}
use Rattle.finite_map.specs.declared.Call.{Call}
use Rattle.finite_map.specs.declared.Call.TheVariants.{Get}
use Rattle.finite_map.specs.declared.Change.{Change}
use Rattle.finite_map.specs.declared.Note.{Note}
use Rattle.finite_map.specs.Calls.{change_of}
use Rattle.finite_map.specs.Fronts.{OthersGoOn, map_of}
use Rattle.finite_map.specs.Maps.{reply_of}
use Rattle.record_words.specs.declared.layout.Layout.{Layout}
use Rattle.linearizability.specs.Configurations.{Happening, IsRefusal, IsResponse, Configuration, Pending, responds}

-- Calls that have responded

-- the pass whose call responds; 0 where none does
abbrev pub responding_pass : Happening → ℕ
responding_pass (responds pass notes) = pass
responding_pass _ = 0

-- the notes with which a call responds; none where no call does
abbrev pub notes_of_response : Happening → List Note
notes_of_response (responds pass notes) = notes
notes_of_response _ = []

-- The notes of calls that have responded before this time, in the order of their responses. Each stands with the time of its response.
abbrev pub complete_calls : (happens : ℕ → Happening) (time : ℕ) → List (ℕ × Note)
complete_calls happens zero = []
complete_calls happens (suc time) = complete_calls happens time ++ map (λ note. (time, note)) (notes_of_response (happens time))

-- the time at which the pending call was invoked; 0 where none is pending
abbrev pub since_of : Option Pending → ℕ
since_of None = 0
since_of (Some call) = call.since

-- the time at which the call was invoked that responds at this time; 0 where none is pending
abbrev pub invoked : (at : ℕ → Configuration) (happens : ℕ → Happening) (time : ℕ) → ℕ
invoked at happens time = since_of ((at time).pending (responding_pass (happens time)))

-- Whether the call that responds at the time `earlier` had responded when the call that responds at `later` was invoked.
abbrev pub had_responded : (at : ℕ → Configuration) (happens : ℕ → Happening) (earlier later : ℕ) → Bool
had_responded at happens earlier later = nat_le earlier (invoked at happens later)

-- Calls that are pending

-- the note that a call would get right behind the front: its place is the front's length, and its reply that of the front's map
abbrev pub replied : (front : List Change) (call : Call) → Note
replied front call = record { place = length front; call = call; reply = reply_of (map_of front) call }

-- The pass has made one change, as its call asks, while the changes grew from `before` to `after`. It is the change that the call makes of
-- the map of `meanwhile`, the changes before it. All other new changes are by other passes.
pub record HasChangedOnce (pass : ℕ) (asked : Call) (before after : List Change) : Type 0 where
  pub meanwhile : List Change
  pub change : Change
  pub until : OthersGoOn pass before meanwhile
  pub made : change_of pass (replied meanwhile asked) ≡ Some change
  pub since : OthersGoOn pass (meanwhile ++ change ∷ []) after

-- What a pending call of the pass, which asks these calls of the map, has done while the changes grew from `before` to `after`. The pass
-- has changed nothing. Or the call asks one call of the map, and the pass has made that call's change once.
abbrev pub ChangesAsAsked : (pass : ℕ) (calls : List Call) (before after : List Change) → Type 0
ChangesAsAsked pass calls before after =
    OthersGoOn pass before after ⊎ ((asked : Call) × (calls ≡ asked ∷ []) × HasChangedOnce pass asked before after)

-- these calls, which a pending call asks of the map, are just one call, or look-ups alone, or none, as for a scan
abbrev pub AsksOneOrLooksUp : List Call → Type 0
AsksOneOrLooksUp calls = ((asked : Call) × (calls ≡ asked ∷ [])) ⊎ ((keys : List (List ℕ)) × (calls ≡ map Get keys))

-- the pass's call responds or is refused at a time from `last` to `later`
abbrev pub EndsWithin : (at : ℕ → Configuration) (last later pass : ℕ) (call : Pending) → Type 0
EndsWithin at last later pass call =
    (time : ℕ) × (last ≤ time) × (time ≤ later) × (((notes : List Note) × IsResponse at time pass call notes) ⊎ IsRefusal at time pass call)

-- A premise on each call that is pending at time `last`. Either it ends by time `later`, and asks one call of the map, look-ups alone, or
-- nothing. Or since its invocation it has changed nothing, or has changed the map as it asks. It is a premise since no contract tells of a
-- call that never returns.
abbrev pub PendingEndOrChangeAsAsked : (layout : Layout) (last later : ℕ) (at : ℕ → Configuration) → Type 0
PendingEndOrChangeAsAsked layout last later at =
    (pass : ℕ) → pass < layout.passes → (call : Pending) → (at last).pending pass ≡ Some call →
    (AsksOneOrLooksUp call.calls × EndsWithin at last later pass call) ⊎
    ChangesAsAsked pass call.calls (at call.since).core.changes (at last).core.changes

-- These notes may be appended to a history for the pending call of a pass. They are none, or one for each call of the map that it asks, in
-- that order. Where no call is pending they are none.
abbrev pub IsAppended : (pending : Option Pending) (notes : List Note) → Type 0
IsAppended None notes = notes ≡ []
IsAppended (Some call) notes = (notes ≡ []) ⊎ (map (λ note. note.call) notes ≡ call.calls)

-- What happens at this time in a run that is completed. Before `last` it is what happens in the run. From then on pass 0 responds, then
-- pass 1 and so on, each with its notes of `added`.
abbrev pub completed : (last : ℕ) (happens : ℕ → Happening) (added : ℕ → List Note) (time : ℕ) → Happening
completed last happens added time = if nat_lt time last then happens time else responds (time - last) (added (time - last))

-- the configuration at this time of a run that is completed: from `last` on the index stays as it was then
abbrev pub held_from : (last : ℕ) (at : ℕ → Configuration) (time : ℕ) → Configuration
held_from last at time = if nat_lt time last then at time else at last
