-- Lists of events.
use Rattle.std.specs.Prelude.{◌≡◌, List, [], ◌∷◌}
use Rattle.rowex_core.specs.declared.event.Event.{Event}
use Rattle.rowex_core.specs.declared.known.View.{View}
use Rattle.rowex_core.specs.Cores.{Core}
use Rattle.rowex_core.specs.Events.{Legal, after}
use Rattle.rowex_core.specs.Knowing.{IsViewOf}

-- The events are steps that are legal one after the other, from the core `old` on, and lead to the core `new`. Without events `new` is
-- `old`.
abbrev pub EventsLead : (old : Core) → (events : List Event) → (new : Core) → Type 0
EventsLead old [] new = new ≡ old
EventsLead old (event ∷ events) new = Legal old event.pass event.act × EventsLead (after old event.pass event.act) events new

-- no event is a step of a pass of which the view tells (`IsViewOf`)
abbrev pub AreOthers : View → List Event → Type 0
AreOthers view [] = Unit {0}
AreOthers view (event ∷ events) = (¬ IsViewOf view event.pass) × AreOthers view events
