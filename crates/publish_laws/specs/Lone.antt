-- Runs of a table with one pass: which node records stand in no tree, and which are free.
use Rattle.std.specs.Prelude.{◌≡◌, ℕ, ◌<◌, [], All, List}
use Rattle.record_words.specs.declared.layout.Layout.{Layout}
use Rattle.versions.specs.Core.{Fate, Free, Held, Ready, InTree}
use Rattle.record_words.specs.declared.records.Rec.TheVariants.{Node as a_node}
use Rattle.rowex_core.specs.declared.event.Act.{Act}
use Rattle.rowex_core.specs.declared.event.Act.TheVariants.{Publish, Load}
use Rattle.rowex_core.specs.declared.event.Event.{Event}
use Rattle.rowex_core.specs.Cores.{Core}
use Rattle.rowex_core.specs.Opening.{opening}
use Rattle.rowex_core.specs.Runs.{EventsLead}
use Rattle.rowex_table.specs.Runs.{Runs}
use Rattle.rowex_table.specs.Seats.{TableView, SeatView}

-- The table has one pass, and this pass's trace leads from a new table to this core. No other pass makes steps, so the trace is the whole
-- run.
pub record IsLone (layout : Layout) (seat : SeatView) (core : Core) : Type 0 where
  pub passes : layout.passes ≡ 1
  pub led : EventsLead (opening layout) seat.trace core

-- a record of this fate is not in the tree: it is free, claimed by a pass, or unlinked
abbrev pub IsOut : Fate → Type 0
IsOut (InTree since) = ⊥
IsOut fate = Unit {0}

-- A record of this fate is free, or a pass has claimed it and not yet linked it: it is held or ready.
abbrev pub IsUnused : Fate → Type 0
IsUnused Free = Unit {0}
IsUnused (Held pass) = Unit {0}
IsUnused (Ready pass) = Unit {0}
IsUnused fate = ⊥

-- If the table has one pass, the node record `number` is not in the tree after that pass's trace.
abbrev pub IsOutAt : (layout : Layout) → (seat : SeatView) → (number : ℕ) → Type 0
IsOutAt layout seat number = (core : Core) → IsLone layout seat core → IsOut (core.fate (a_node number))

-- If the table has one pass, the node record `number` is free after that pass's trace.
abbrev pub IsFreeAt : (layout : Layout) → (seat : SeatView) → (number : ℕ) → Type 0
IsFreeAt layout seat number = (core : Core) → IsLone layout seat core → core.fate (a_node number) ≡ Free

-- If the table has one pass, some node record is not in the tree after that pass's trace: it is free, the pass's own, or retired. Once the
-- pass has no records, it is free, or a round can free it.
abbrev pub HasSpare : Layout → SeatView → Type 0
HasSpare layout seat = (core : Core) → IsLone layout seat core → (number : ℕ) × (number < layout.nodes) × IsOut (core.fate (a_node number))

-- Some node record is free after the trace of the table's only pass. Of a table with several passes it says only that there is a node
-- record.
abbrev pub HasFree : Layout → SeatView → Type 0
HasFree layout seat = (number : ℕ) × (number < layout.nodes) × IsFreeAt layout seat number

-- The table has one pass, and some node record is free after that pass's trace.
abbrev pub HasRoom : Layout → SeatView → Type 0
HasRoom layout seat = (layout.passes ≡ 1) × HasFree layout seat

-- In a table with one pass, if a node record was outside the tree at `old`, one is at `new`. It need not be the one from before.
abbrev pub KeepsSpare : (layout : Layout) → (old new : SeatView) → Type 0
KeepsSpare layout old new = HasSpare layout old → HasSpare layout new

-- the step is no publish, and no bulk load
abbrev pub LeavesTree : Act → Type 0
LeavesTree (Publish spot word) = ⊥
LeavesTree (Load words) = ⊥
LeavesTree act = Unit {0}

-- In a table with one pass, let a node record be outside the tree. After any steps that neither publish nor load in bulk, one still is,
-- since nothing is linked.
abbrev pub SpareStays : {G : Type 0} → (G → Event → G → Type 0) → Type 0
SpareStays {G = G} becomes =
    (table : TableView) (acts : List Act) (old new : SeatView × G) → All LeavesTree acts → Runs table becomes acts old new →
    KeepsSpare table.layout old.0 new.0

-- In a table with one pass, let the pass make steps that neither publish nor load in bulk, and have no record after them. Then each node
-- record that was free before is free again: what it claimed it has given up.
abbrev pub FreeStays : {G : Type 0} → (G → Event → G → Type 0) → Type 0
FreeStays {G = G} becomes =
    (table : TableView) (acts : List Act) (old new : SeatView × G) → All LeavesTree acts → Runs table becomes acts old new → new.0.known.own ≡ [] →
    (number : ℕ) → IsFreeAt table.layout old.0 number → IsFreeAt table.layout new.0 number
