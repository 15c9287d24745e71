-- Steps of one pass, one after the other, and what its gate is told.
use Rattle.std.specs.Prelude.{◌≡◌, ℕ, zero, suc, ◌+◌, ◌≤◌, All, List, [], ◌∷◌, ◌++◌, length, map}
use Rattle.finite_map.specs.declared.Note.{Note}
use Rattle.record_words.specs.declared.layout.Layout.{Layout}
use Rattle.rowex_core.specs.declared.event.Act.{Act}
use Rattle.rowex_core.specs.declared.event.Act.TheVariants.{LoadRef}
use Rattle.rowex_core.specs.declared.event.Event.{Event}
use Rattle.rowex_core.specs.declared.event.Spot.TheVariants.{Root, Slot}
use Rattle.rowex_core.specs.declared.known.Known.{Known}
use Rattle.rowex_core.specs.Events.{IsAtomic, Legal}
use Rattle.rowex_core.specs.Knowing.{IsEvent, SeesAllAtRoot}
use Rattle.rowex_core.specs.Opening.{opening}
use Rattle.rowex_core.specs.Runs.{EventsLead}
use Rattle.rowex_table.specs.Seats.{TableView, SeatView, MakesNoAside}
use Rattle.rowex_table.specs.Stays.{LeavesFresh}
use Rattle.rowex_table.specs.Traces.{IsNextStep, RunBeginsWith, own_acts}

-- no notes, as of a step that ends no call
abbrev pub silent : Known → List Note
silent known = []

-- The gate was `before`, is told these events in order and no others, and is `after` then. `becomes` says what a gate becomes by one event.
abbrev pub IsTold : {G : Type 0} → (becomes : G → Event → G → Type 0) → (events : List Event) → (before after : G) → Type 0
IsTold becomes [] before after = after ≡ before
IsTold {G = G} becomes (event ∷ events) before after = (middle : G) × becomes before event middle × IsTold becomes events middle after

-- the acts as events of the pass
abbrev pub events_of : (pass : ℕ) → (acts : List Act) → List Event
events_of pass acts = map (λ act. record { pass = pass; act = act }) acts

-- The most words that a pass touches for one load of an entry: four of the entry's node, and seven of the record below. A touch is a load
-- whose word is ignored, and no step.
abbrev pub entry_touches : ℕ
entry_touches = 11

-- the most words that a pass touches beside this act: none, unless it loads an entry of a node
abbrev pub most_touches : Act → ℕ
most_touches (LoadRef (Slot node slot) word) = entry_touches
most_touches act = 0

-- While a pass makes this act, its count of touches may rise from `before` to `after`: by `most_touches` at most.
abbrev pub MayTouch : Act → (before after : ℕ) → Type 0
MayTouch act before after = (before ≤ after) × (after ≤ before + most_touches act)

-- The seat's pass makes the atomic step `act`, with the notes `said`, and the gate is told of it. It is the next step of the table's run,
-- which begins with the steps that the pass knew. Beside the step the pass may touch some words (`MayTouch`), but makes no aside.
pub record StepsWith {G : Type 0} (table : TableView) (becomes : G → Event → G → Type 0) (act : Act) (said : Known → List Note)
    (old new : SeatView × G) : Type 0 where
  pub seat : MakesNoAside old.0 new.0
  pub atomic : IsAtomic act
  pub event : IsEvent table.layout act said old.0.known new.0.known
  pub next : IsNextStep table.layout old.0.known.pass act event.core old.0.trace new.0.trace
  pub touches : MayTouch act old.0.touches new.0.touches
  pub told : becomes old.1 (record { pass = old.0.known.pass; act = act }) new.1

-- the event that the pass loads the root and finds this word
abbrev pub root_load : (pass word : ℕ) → Event
root_load pass word = record { pass = pass; act = LoadRef Root word }

-- From `old` to `new` the seat's pass has loaded the root, as `SeesAllAtRoot` says. The steps `run` lead from a new table to the core of
-- the last such load. They begin with the steps that the pass knew at first. In the steps that it knows at last, the load stands right
-- behind `run`. Behind it the pass itself loads the root no more (`last`).
pub record SeesAllOfRun (layout : Layout) (old new : SeatView) : Type 0 where
  pub sees : SeesAllAtRoot layout old.known new.known
  pub run : List Event
  pub led : EventsLead (opening layout) run sees.core
  pub since : RunBeginsWith run old.trace
  pub root : ℕ
  pub legal : Legal sees.core old.known.pass (LoadRef Root root)
  pub rest : List Event
  pub until : new.trace ≡ run ++ root_load old.known.pass root ∷ rest
  pub last : All LeavesFresh (own_acts old.known.pass rest)

-- The seat's pass makes the atomic step `act`, with no note, and the gate is told of it.
abbrev pub Steps : {G : Type 0} → (table : TableView) → (becomes : G → Event → G → Type 0) → (act : Act) → (old new : SeatView × G) → Type 0
Steps table becomes act old new = StepsWith table becomes act silent old new

-- The seat's pass makes the steps `acts`, one after the other. The gate is told of each, in order.
abbrev pub Runs : {G : Type 0} → (table : TableView) → (becomes : G → Event → G → Type 0) → (acts : List Act) → (old new : SeatView × G) → Type 0
Runs table becomes [] old new = new ≡ old
Runs {G = G} table becomes (act ∷ acts) old new = (middle : SeatView × G) × Steps table becomes act old middle × Runs table becomes acts middle new

-- The seat's pass makes the steps `acts`, one after the other, and then the step `act`, with the notes `said`. The gate is told of each, in
-- order.
abbrev pub Ends : {G : Type 0} → (table : TableView) → (becomes : G → Event → G → Type 0) → (acts : List Act) →
    (last : Act) → (said : Known → List Note) → (old new : SeatView × G) → Type 0
Ends {G = G} table becomes acts act said old new =
    (middle : SeatView × G) × Runs table becomes acts old middle × StepsWith table becomes act said middle new

-- The seat's pass makes the steps `acts` and no others, no aside among them, and the gate is told of each. `changed` takes what the steps
-- may change from the knowledge after them, and the rest from that before. So all else that the pass knew stays, but for the count of its
-- steps.
pub record Does {G : Type 0} (table : TableView) (becomes : G → Event → G → Type 0) (changed : Known → Known → Known)
    (acts : List Act) (old new : SeatView × G) : Type 0 where
  pub seat : MakesNoAside old.0 new.0
  pub steps : Runs table becomes acts old new
  pub rest : new.0.known ≡ record (changed old.0.known new.0.known) { steps = old.0.known.steps + length acts }

-- The acts are those of parts 0 to `count` - 1, one part after the other. `Parts` says of a part's number which acts may make it up.
abbrev pub InTurn : (Parts : ℕ → List Act → Type 0) → (count : ℕ) → (acts : List Act) → Type 0
InTurn Parts zero acts = acts ≡ []
InTurn Parts (suc below) acts = (before : List Act) × (last : List Act) × InTurn Parts below before × Parts below last × (acts ≡ before ++ last)
