-- Runs of loads by which a pass reads the tree; the gate is told each step.
use Rattle.std.specs.Prelude.{◌≡◌, ℕ, ◌+◌, ◌≤◌, List, length, All, Bool, true, false, count_by}
use Rattle.record_words.specs.Leaf.{words_of_key}
use Rattle.tries.specs.Keys.{Key}
use Rattle.rowex_core.specs.declared.event.Act.{Act}
use Rattle.rowex_core.specs.declared.event.Act.TheVariants.{LoadRef, LoadFixed}
use Rattle.rowex_core.specs.declared.event.Event.{Event}
use Rattle.rowex_core.specs.declared.event.Spot.TheVariants.{Root, Slot, Value}
use Rattle.rowex_table.specs.Runs.{Runs, Steps}
use Rattle.rowex_table.specs.Seats.{TableView, SeatView, IsSeatOf, touched_to}
use Rattle.rowex_reading.specs.Possible.{IsPossible}

-- The seat is one of this table's, and what its pass knows is true of some lawful core. So the pass may read. Each step that it makes shows
-- that there is such a core.
abbrev pub IsReader : TableView → SeatView → Type 0
IsReader table seat = IsSeatOf table seat × IsPossible table.layout seat.known

-- the step loads an entry of a node, a leaf's value, or a fixed word of a record, and neither the root nor a state
abbrev pub IsBelowRoot : Act → Type 0
IsBelowRoot (LoadRef (Slot number slot) word) = Unit {0}
IsBelowRoot (LoadRef (Value leaf) word) = Unit {0}
IsBelowRoot (LoadFixed rec offset word) = Unit {0}
IsBelowRoot act = ⊥

-- whether the step loads an entry of a node
abbrev pub loads_entry : Act → Bool
loads_entry (LoadRef (Slot number slot) word) = true
loads_entry act = false

-- how many of these steps load an entry of a node; a search loads one in each node on its path
abbrev pub entries_in : List Act → ℕ
entries_in acts = count_by loads_entry acts

-- The pass makes `loads` loads below the root, and no other step. Just `entries` of the loads are of entries of nodes. The gate is told
-- each load.
pub record Reads {G : Type 0} (table : TableView) (becomes : G → Event → G → Type 0) (entries loads : ℕ) (old new : SeatView × G) : Type 0 where
  pub acts : List Act
  pub below : All IsBelowRoot acts
  pub count : length acts ≡ loads
  pub entries_are : entries_in acts ≡ entries
  pub steps : Runs table becomes acts old new

-- The pass makes `loads` loads below the root, and no other step. Just `entries` of the loads are of entries of nodes. On the way it
-- touches at most `most` words, which are no steps. Its count of touches is left aside in `reads`, and bounded by `few`.
pub record ReadsAndTouches {G : Type 0} (table : TableView) (becomes : G → Event → G → Type 0) (entries loads most : ℕ)
    (old new : SeatView × G) : Type 0 where
  pub reads : Reads table becomes entries loads old (touched_to old.0.touches new.0, new.1)
  pub rises : old.0.touches ≤ new.0.touches
  pub few : new.0.touches ≤ old.0.touches + most

-- how many loads it takes to read a leaf with this key: its value, the key's length, and the words with the key's bytes
abbrev pub leaf_loads : Key → ℕ
leaf_loads key = 2 + words_of_key (length key)

-- the pass makes some number of loads below the root, and no other step
abbrev pub ReadsSome : {G : Type 0} → (table : TableView) → (becomes : G → Event → G → Type 0) → (old new : SeatView × G) → Type 0
ReadsSome table becomes old new = (entries loads : ℕ) × Reads table becomes entries loads old new

-- the pass loads the root, and makes no other step; the gate is told of it
abbrev pub ReadsRoot : {G : Type 0} → (table : TableView) → (becomes : G → Event → G → Type 0) → (old new : SeatView × G) → Type 0
ReadsRoot table becomes old new = (word : ℕ) × Steps table becomes (LoadRef Root word) old new

-- The pass loads the root, then makes `loads` loads below it, and no other step. Just `entries` of these are of entries of nodes. The gate
-- is told each load.
pub record Looks {G : Type 0} (table : TableView) (becomes : G → Event → G → Type 0) (entries loads : ℕ) (old new : SeatView × G) : Type 0 where
  pub at : SeatView × G
  pub root : ReadsRoot table becomes old at
  pub rest : Reads table becomes entries loads at new
