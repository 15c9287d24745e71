-- The one sequential history in which calls of several passes stand together.
use Rattle.std.specs.Prelude.{◌≡◌, ◌≢◌, ℕ, ◌+◌, List, [], ◌∷◌, ◌++◌, filter, map, All, not, ◌&&◌, nat_eq}
use Rattle.finite_map.specs.declared.Call.{Call}
use Rattle.finite_map.specs.declared.Reply.{Reply}
use Rattle.finite_map.specs.declared.Change.{Change}
use Rattle.finite_map.specs.declared.Note.{Note}
use Rattle.finite_map.specs.Maps.{Map, map_after, reply_of}
use Rattle.finite_map.specs.Fronts.{changed}
use Rattle.finite_map.specs.Calls.{is_change, LegalCalls}

-- what stands in a woven history: a call with its reply, or a change whose call is none of the notes
pub data Event : Type 0 where
  answered : Call → Reply → Event
  only : Change → Event

-- the notes of this place whose calls changed nothing
abbrev pub quiet_at : (place : ℕ) → (notes : List Note) → List Note
quiet_at place notes = filter (λ note. nat_eq note.place place && not (is_change note)) notes

-- the notes of this place whose calls changed the map
abbrev pub changing_at : (place : ℕ) → (notes : List Note) → List Note
changing_at place notes = filter (λ note. nat_eq note.place place && is_change note) notes

-- the calls of notes, in their order
abbrev pub calls_of : List Note → List Event
calls_of notes = map (λ note. answered note.call note.reply) notes

-- What stands in the woven history for a change. It is the calls of `notes`, which are those of its place whose calls changed the map.
-- Without a note it is the change alone.
abbrev pub made_by : Change → List Note → List Event
made_by change [] = only change ∷ []
made_by change (note ∷ notes) = calls_of (note ∷ notes)

-- The history of the changes of `front`, where the first of them is number `place`. Before each change, and at the end, stand the calls of
-- that place that changed nothing. What stands for a change, `made_by` says.
abbrev pub weave_from : (place : ℕ) → (front : List Change) → (notes : List Note) → List Event
weave_from place [] notes = calls_of (quiet_at place notes)
weave_from place (change ∷ changes) notes =
    calls_of (quiet_at place notes) ++ (made_by change (changing_at place notes) ++ weave_from (place + 1) changes notes)

-- The front as a history, with the calls of these notes in it. A call that changed the map stands in place of its change. A call of place n
-- that changed nothing stands after the first n changes and before the next. Calls of one place stand in the order of the notes.
abbrev pub weave : List Change → List Note → List Event
weave front notes = weave_from 0 front notes

-- Each call of the history has the reply of the map at its turn, where the first meets the map `pairs`. A change that stands alone is only
-- applied.
abbrev pub LegalHistoryFrom : Map → List Event → Type 0
LegalHistoryFrom pairs [] = Unit {0}
LegalHistoryFrom pairs (answered call reply ∷ events) = (reply ≡ reply_of pairs call) × LegalHistoryFrom (map_after pairs call) events
LegalHistoryFrom pairs (only change ∷ events) = LegalHistoryFrom (changed pairs change) events

-- a legal sequential history: each reply is that of a finite map, which is empty at first
abbrev pub LegalHistory : List Event → Type 0
LegalHistory events = LegalHistoryFrom [] events

-- the notes of several passes, one pass after the other
abbrev pub notes_of : List (ℕ × List Note) → List Note
notes_of [] = []
notes_of (pass ∷ passes) = pass.1 ++ notes_of passes

-- the passes have different numbers, and the calls of each are legal in the front
abbrev pub AllLegal : List Change → List (ℕ × List Note) → Type 0
AllLegal front [] = Unit {0}
AllLegal front (pass ∷ passes) = LegalCalls front pass.0 pass.1 × All (λ other. other.0 ≢ pass.0) passes × AllLegal front passes
