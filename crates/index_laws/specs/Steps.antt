-- What an atomic step makes of the state of the table, and of the core that shows this state.
use Rattle.std.specs.Prelude.{◌≡◌, ℕ, List, [], ◌∷◌, ◌++◌, Some, get_or}
use mathlib.Core.Option.{some}
use lib.ListN.{get_elem?}
use Rattle.atomic_table.specs.Table.{State, keeps, stepped}
use Rattle.finite_map.specs.declared.Note.{Note}
use Rattle.record_words.specs.Layout.{address, uncommitted_in}
use Rattle.record_words.specs.declared.layout.Layout.{Layout}
use Rattle.rowex_core.specs.declared.event.Act.{Act}
use Rattle.rowex_core.specs.declared.event.Event.{Event}
use Rattle.rowex_core.specs.declared.known.Known.{Known}
use Rattle.rowex_core.specs.Cores.{Core}
use Rattle.rowex_table.specs.Committed.{ClaimsCommitted}
use Rattle.rowex_core.specs.Events.{IsAtomic, Legal, after, location_of, writes}
use Rattle.rowex_core.specs.Knowing.{learned}
use Rattle.rowex_core.specs.Words.{word_at}
use Rattle.rowex_table.specs.declared.traces.Trace.{Trace}
use Rattle.rowex_table.specs.declared.traces.TracedView.{TracedView}
use Rattle.rowex_table.specs.declared.traces.TracedView.TheVariants.{Pass}
use Rattle.rowex_table.specs.Rule.{MayStep, Ruled, found_by}
use Rattle.linearizability.specs.Configurations.{IsConfigurationStep, Configuration, Pending}

-- the act as the pass makes it at this core: with the word that the pass finds at the act's location
abbrev pub made_at : (core : Core) (known : Known) (act : Act) → Act
made_at core known act = found_by act (word_at core (location_of known.pass act))

-- what the pass knows after it has made the act at this core, where these notes come with the act
abbrev pub known_after : (core : Core) (known : Known) (act : Act) (notes : List Note) → Known
known_after core known act notes = record (learned core (made_at core known act) known) { notes = known.notes ++ notes }

-- the run with one step more: the act as the pass makes it at this core
abbrev pub run_after : (run : List Event) (core : Core) (known : Known) (act : Act) → List Event
run_after run core known act = run ++ record { pass = known.pass; act = made_at core known act } ∷ []

-- The state of the table after the pass of `known` has made the act. The word at the act's location is what the act leaves there, which
-- after a load is the word that stood. The pass's seat, which is view number `id`, has this view. Nothing else changes.
abbrev pub state_after : (layout : Layout) (state : State (Unit {0}) TracedView) (id : ℕ) (known : Known) (act : Act) (view : TracedView) →
    State (Unit {0}) TracedView
state_after layout state id known act view =
    let word = address layout (location_of known.pass act) in stepped state word (writes act (get_or state.words word 0)) id [] view keeps

-- The view that the seat has after its pass has made the act at this core, with these notes. Its trace is the run up to this step. Its
-- counts of asides and touches and its bounds stay.
abbrev pub view_after : (run : List Event) (core : Core) (known : Known) (trace : Trace) (act : Act) (notes : List Note) → TracedView
view_after run core known trace act notes =
    Pass (known_after core known act notes) (record { events = run_after run core known act; asides = trace.asides; touches = trace.touches; bounds = trace.bounds })

-- Steps of the table are steps of the core that its rule names. Let a state keep the rule, and let its view number `id` be a pass's. Let
-- this pass make an atomic step that it may make by what it knows: if it is a claim, of a record that is committed by the pass's bounds. The
-- step is legal in the state's core. The state after the step keeps the rule. Its core is that after the step, and its run has this one
-- step more.
abbrev pub StepsFollow : Type 0
StepsFollow =
    (layout : Layout) (state : State (Unit {0}) TracedView) (ruled : Ruled layout state) (id : ℕ) (known : Known) (trace : Trace) →
    get_elem? state.views id ≡ some (Pass known trace) →
    (act : Act) (notes : List Note) → IsAtomic act → MayStep layout (found_by act) known → ClaimsCommitted layout (uncommitted_in trace.bounds) act →
    Legal ruled.core known.pass (made_at ruled.core known act) ×
    (next : Ruled layout (state_after layout state id known act (view_after ruled.run ruled.core known trace act notes))) ×
    (next.core ≡ after ruled.core known.pass (made_at ruled.core known act)) ×
    (next.run ≡ run_after ruled.run ruled.core known act)

-- Let a configuration of a run have the core of the table's state. Let the pass know there what its seat knows, and have a call pending. An
-- atomic step that the pass may make is then a step of the run. It leads to a configuration with the core of the table's next state. There
-- the pass knows what the step taught it, and has these notes more.
abbrev pub StepsAreMoments : Type 0
StepsAreMoments =
    (layout : Layout) (state : State (Unit {0}) TracedView) (ruled : Ruled layout state) (id : ℕ) (known : Known) (trace : Trace) →
    get_elem? state.views id ≡ some (Pass known trace) →
    (act : Act) (notes : List Note) → IsAtomic act → MayStep layout (found_by act) known → ClaimsCommitted layout (uncommitted_in trace.bounds) act →
    (old : Configuration) → old.core ≡ ruled.core → old.known known.pass ≡ known → (call : Pending) → old.pending known.pass ≡ Some call →
    (next : Ruled layout (state_after layout state id known act (view_after ruled.run ruled.core known trace act notes))) × (new : Configuration) ×
    (new.core ≡ next.core) × (new.known known.pass ≡ known_after ruled.core known act notes) ×
    IsConfigurationStep old new known.pass (made_at ruled.core known act) notes
