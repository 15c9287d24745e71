-- Runs of an index, and where they lead.
use Rattle.std.specs.Prelude.{List, [], ◌∷◌, ◌++◌}
use Rattle.record_words.specs.declared.layout.Layout.{Layout}
use Rattle.rowex_core.specs.declared.event.Event.{Event}
use Rattle.rowex_core.specs.Cores.{Core}
use Rattle.rowex_core.specs.Events.{after}
use Rattle.rowex_core.specs.Opening.{opening}
use Rattle.rowex_core.specs.Runs.{EventsLead}

-- A recorded run: the layout of its index, and the events so far, the oldest first.
pub record Run : Type 0 where
  pub layout : Layout
  pub events : List Event

-- the core after these events, of which the first is made in this core; it is asked of no event whether it is legal
abbrev pub core_after : Core → List Event → Core
core_after core [] = core
core_after core (event ∷ events) = core_after (after core event.pass event.act) events

-- the core to which a run leads from that of a new table
abbrev pub core_of : Run → Core
core_of run = core_after (opening run.layout) run.events

-- the events of the run are legal one after the other, from the core of a new table on
abbrev pub HasLegalEvents : Run → Type 0
HasLegalEvents run = EventsLead (opening run.layout) run.events (core_of run)

-- a run of no event yet, and one with one event more

-- a run without events
abbrev pub new_run : Layout → Run
new_run layout = record { layout = layout; events = [] }

-- a run with one event more
abbrev pub with_event : Run → Event → Run
with_event run event = record { layout = run.layout; events = run.events ++ event ∷ [] }
