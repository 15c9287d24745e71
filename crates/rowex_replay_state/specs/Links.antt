-- What a publish asks of the fates of records and makes of them, by whether it links them.
use Rattle.std.specs.Prelude.{◌≡◌, ◌⊎◌, ℕ, List, get_or, slice_get, Bool, true, false, Option, Some, None}
use Rattle.versions.specs.Steps.{next_fate}
use Rattle.rowex_replay_state.specs.declared.fate.Fate.{Fate as Stored}
use Rattle.rowex_replay_state.specs.declared.fate.Fate.TheVariants.{Ready, InTree}
use Rattle.rowex_replay_state.specs.Fates.{stored_fate}

-- the record is in the tree, since some version
abbrev pub IsStoredInTree : Stored → Type 0
IsStoredInTree stored = (since : ℕ) × (stored ≡ InTree since)

-- If the new tree links the record, it is in the tree already, or the pass has made it ready. Of a record that is left out this says
-- nothing.
abbrev pub MayBeLinked : (pass : ℕ) → (linked : Bool) → (stored : Stored) → Type 0
MayBeLinked pass linked stored = linked ≡ true → IsStoredInTree stored ⊎ (stored ≡ Ready pass)

-- If the record of a node is in the tree, and the new tree doesn't link it, the pass has locked it.
abbrev pub MayBeUnlinked : (pass : ℕ) → (linked : Bool) → (lock : Option ℕ) → (stored : Stored) → Type 0
MayBeUnlinked pass linked lock stored = linked ≡ false → IsStoredInTree stored → lock ≡ Some pass

-- The pass may link each record of one kind that the new tree links, by the fates of these records. `linked` marks what the tree links; a
-- record behind the last mark isn't linked.
abbrev pub AllMayBeLinked : (pass : ℕ) → (linked : List Bool) → (fates : List Stored) → Type 0
AllMayBeLinked pass linked fates =
    (number : ℕ) (stored : Stored) → slice_get fates number ≡ Some stored → MayBeLinked pass (get_or linked number false) stored

-- The pass may unlink each node that the new tree doesn't link, by the locks and fates of the nodes. A node behind the last mark isn't
-- linked, and one behind the last lock isn't locked.
abbrev pub AllMayBeUnlinked : (pass : ℕ) → (linked : List Bool) → (locks : List (Option ℕ)) → (fates : List Stored) → Type 0
AllMayBeUnlinked pass linked locks fates =
    (number : ℕ) (stored : Stored) → slice_get fates number ≡ Some stored →
    MayBeUnlinked pass (get_or linked number false) (get_or locks number None) stored

-- The fates of records of one kind after a publish by the pass, which makes version `now` + 1. `linked` marks what the new tree links; a
-- record behind the last mark isn't linked.
abbrev pub AreNextFates : (now pass : ℕ) → (linked : List Bool) → (old new : List Stored) → Type 0
AreNextFates now pass linked old new =
    (number : ℕ) (next : Stored) → slice_get new number ≡ Some next →
    (stored : Stored) × (slice_get old number ≡ Some stored) ×
    (stored_fate next ≡ next_fate now pass (get_or linked number false) (stored_fate stored))
