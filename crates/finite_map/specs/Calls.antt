-- Legal calls of a pass, after Herlihy and Wing: its answered calls stand in a front, and each has the reply of a finite map there.
use Rattle.std.specs.Prelude.{◌≡◌, ℕ, ◌+◌, ◌≤◌, List, [], ◌∷◌, length, take, slice_get, filter, filter_map, map, All, Option, Some, None, Bool, is_some, option_map, nat_eq, if◌then◌else◌}
use Rattle.finite_map.specs.declared.Call.{Call}
use Rattle.finite_map.specs.declared.Call.TheVariants.{Insert, Upsert, Exchange, Add, Remove, RemoveIf}
use Rattle.finite_map.specs.declared.Reply.{Reply}
use Rattle.finite_map.specs.declared.Reply.TheVariants.{Inserted, New, Was, Exchanged, Removed}
use Rattle.finite_map.specs.declared.Kind.{Kind}
use Rattle.finite_map.specs.declared.Kind.TheVariants.{Added, Replaced, Removed as TakenAway}
use Rattle.finite_map.specs.declared.Change.{Change}
use Rattle.finite_map.specs.declared.Note.{Note}
use Rattle.finite_map.specs.Maps.{Map, key_of, reply_of, replies_of, map_after_all, wrapped_sum}
use Rattle.finite_map.specs.Fronts.{map_of, LegalFront}

-- What a call with this reply did to its key: the kind and the value of its change. There is none if it changed nothing, or has a reply of
-- another kind of call.
abbrev pub effect_of : Call → Reply → Option (Kind × ℕ)
effect_of (Insert key value) Inserted = Some (Added, value)
effect_of (Upsert key value) New = Some (Added, value)
effect_of (Upsert key value) (Was held) = Some (Replaced, value)
effect_of (Exchange key expected value) Exchanged = Some (Replaced, value)
effect_of (Add key delta) (Was held) = Some (Replaced, wrapped_sum held delta)
effect_of (Remove key) (Removed held) = Some (TakenAway, held)
effect_of (RemoveIf key expected) (Removed held) = Some (TakenAway, held)
effect_of _ _ = None

-- whether the call of a note changed the map
abbrev pub is_change : Note → Bool
is_change note = is_some (effect_of note.call note.reply)

-- the change that a note of the pass tells of, if its call changed the map
abbrev pub change_of : (pass : ℕ) → (note : Note) → Option Change
change_of pass note =
    option_map (λ effect. record { pass = pass; key = key_of note.call; value = effect.1; kind = effect.0 }) (effect_of note.call note.reply)

-- the lowest place at which the pass's next call may stand: behind the note's change, if its call made one
abbrev pub place_after : Note → ℕ
place_after note = if is_change note then note.place + 1 else note.place

-- The note stands in the front. Its place is one of the front, and its reply is the map's after the first `place` changes. If its call
-- changed the map, the front's change of number `place` is the one that the call made.
pub record StandsIn (front : List Change) (pass : ℕ) (note : Note) : Type 0 where
  pub place : note.place ≤ length front
  pub reply : note.reply ≡ reply_of (map_of (take note.place front)) note.call
  pub change : (made : Change) → change_of pass note ≡ Some made → slice_get front note.place ≡ Some made

-- the notes' places are from `low` on, never fall, and rise after a call that changed the map
abbrev pub RisesFrom : (low : ℕ) → (notes : List Note) → Type 0
RisesFrom low [] = Unit {0}
RisesFrom low (note ∷ notes) = (low ≤ note.place) × RisesFrom (place_after note) notes

-- the changes that the pass's notes tell of, in order
abbrev pub changes_of : (pass : ℕ) → (notes : List Note) → List Change
changes_of pass notes = filter_map (change_of pass) notes

-- the changes of a front that the pass has made, in order
abbrev pub own_changes : (pass : ℕ) → (front : List Change) → List Change
own_changes pass front = filter (λ change. nat_eq change.pass pass) front

-- The answered calls of the pass, as its notes tell them, are legal in the front. So they happened as on a finite map.
pub record LegalCalls (front : List Change) (pass : ℕ) (notes : List Note) : Type 0 where
  -- each change fits the map of those before it
  pub legal : LegalFront front
  -- each call has the reply of the map at its place; if it made a change, the front has that change there
  pub each : All (StandsIn front pass) notes
  -- the places are in the order in which the pass made its calls
  pub rising : RisesFrom 0 notes
  -- the pass's changes are those of its calls, in order, each once
  pub own : own_changes pass front ≡ changes_of pass notes

-- The calls of the notes are made one after the other, the first on the map `before`. They get the notes' replies, and lead to the map
-- `after`.
pub record IsRun (before : Map) (notes : List Note) (after : Map) : Type 0 where
  pub replies : map (λ note. note.reply) notes ≡ replies_of before (map (λ note. note.call) notes)
  pub map : after ≡ map_after_all before (map (λ note. note.call) notes)
