-- The laws of epochs.
use Rattle.std.specs.Prelude.{ℕ, List, [], ◌∷◌}
use Rattle.finite_map.specs.declared.Note.{Note}
use Rattle.record_words.specs.declared.layout.Layout.{Layout}
use Rattle.record_words.specs.declared.state.Tag.TheVariants.{Obsolete}
use Rattle.record_words.specs.State.{state_word}
use Rattle.record_words.specs.declared.records.Rec.{Rec}
use Rattle.record_words.specs.declared.records.Rec.TheVariants.{Node as a_node, Leaf as a_leaf}
use Rattle.rowex_core.specs.declared.event.Act.{Act}
use Rattle.rowex_core.specs.declared.event.Act.TheVariants.{GiveBack}
use Rattle.rowex_core.specs.declared.event.Event.{Event}
use Rattle.rowex_core.specs.declared.known.Known.{Known}
use Rattle.rowex_core.specs.Events.{after}
use Rattle.rowex_core.specs.Knowing.{IsEvent}
use Rattle.rowex_table.specs.Runs.{InTurn, Runs}
use Rattle.rowex_table.specs.Seats.{HasAllCommitted, TableView, SeatView}
use Rattle.epochs.specs.Reach.{IsInReach, IsReachKept}
use Rattle.epochs.specs.Rounds.{IsRound, Visits}

-- at each legal step of any pass, before and after it, no record that is in reach of a pinned pass is free or held
abbrev pub ReachIsKept : Type 0
ReachIsKept = (layout : Layout) (act : Act) (said : Known → List Note) (old new : Known) (event : IsEvent layout act said old new) →
    IsReachKept event.core × IsReachKept (after event.core old.pass act)

-- at each step of this run, before and after it, no record that is in reach of a pinned pass is free or held
abbrev pub KeepsReach : {G : Type 0} (table : TableView) (becomes : G → Event → G → Type 0) (acts : List Act) (old new : SeatView × G) →
    Runs table becomes acts old new → Type 0
KeepsReach table becomes [] old new run = Unit {0}
KeepsReach table becomes (act ∷ acts) old new run =
    IsReachKept run.1.event.core × IsReachKept (after run.1.event.core old.0.known.pass act) × KeepsReach table becomes acts run.0 new run.2

-- before and after each step of each run, no record that is in reach of a pinned pass is free or held
abbrev pub RunsKeepReach : {G : Type 0} → (G → Event → G → Type 0) → Type 0
RunsKeepReach {G = G} becomes =
    (table : TableView) (acts : List Act) (old new : SeatView × G) (run : Runs table becomes acts old new) → KeepsReach table becomes acts old new run

-- a record that a pass gives back, by an exchange that finds the expected state, is in reach of no pinned pass at that step
abbrev pub GivenIsOutOfReach : Type 0
GivenIsOutOfReach =
    (layout : Layout) (rec : Rec) (epoch : ℕ) (said : Known → List Note) (old new : Known)
    (event : IsEvent layout (GiveBack rec epoch (state_word (Obsolete epoch))) said old new) →
    ¬ IsInReach event.core rec

-- If a pass knows that all records of the table are committed, its round visits each record, nodes first, in the order of their numbers.
abbrev pub CommittedAreVisited : {G : Type 0} → (G → Event → G → Type 0) → Type 0
CommittedAreVisited {G = G} becomes =
    (table : TableView) (old new : SeatView × G) (nodes leaves : ℕ) (round : IsRound table becomes old new nodes leaves) → HasAllCommitted old.0 →
    InTurn (λ number. Visits new.0.known.round.bound (a_node number)) table.layout.nodes round.nodes ×
    InTurn (λ number. Visits new.0.known.round.bound (a_leaf number)) table.layout.leaves round.leaves
