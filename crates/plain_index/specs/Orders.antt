-- The calls of a history in their order, and lists of calls woven into one.
use Rattle.std.specs.Prelude.{◌≡◌, ℕ, List, [], ◌∷◌}
use Rattle.finite_map.specs.declared.Note.{Note}
use Rattle.finite_map.specs.Weaves.{Event, answered, only, calls_of}

-- the calls that stand in a history, in order, without the changes that stand there alone
abbrev pub calls_in : List Event → List Event
calls_in [] = []
calls_in (answered call reply ∷ events) = answered call reply ∷ calls_in events
calls_in (only change ∷ events) = calls_in events

-- The third list has just the events of the first two, each once. Those of either list stand in their order.
pub data AreWoven : List Event → List Event → List Event → Type 0 where
  empty : AreWoven [] [] []
  of_first : {event : Event} {one other woven : List Event} → AreWoven one other woven → AreWoven (event ∷ one) other (event ∷ woven)
  of_second : {event : Event} {one other woven : List Event} → AreWoven one other woven → AreWoven one (event ∷ other) (event ∷ woven)

-- The list has just the calls that these passes' notes tell, each once, and those of each pass in their order.
abbrev pub CallsAreWoven : List (ℕ × List Note) → List Event → Type 0
CallsAreWoven [] events = events ≡ []
CallsAreWoven (pass ∷ passes) events = (others : List Event) × CallsAreWoven passes others × AreWoven (calls_of pass.1) others events
