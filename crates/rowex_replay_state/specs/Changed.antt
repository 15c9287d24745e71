-- By which change one list of leaves became another.
use Rattle.std.specs.Prelude.{◌≡◌, ◌≢◌, ℕ, List, ◌∷◌, map, Option, Some, None}
use Rattle.finite_map.specs.declared.Change.{Change}
use Rattle.tries.specs.Content.{Item}
use Rattle.versions.specs.Told.{item_of, IsChanged}
use Rattle.rowex_core.specs.Events.{change_between}

-- Both lists begin with leaves of different numbers, or one of them is empty.
abbrev pub BeginApart : (old new : List Item) → Type 0
BeginApart (item ∷ old) (other ∷ new) = item.number ≢ other.number
BeginApart old new = Unit {0}

-- the numbers of the leaf records of these leaves
abbrev pub numbers : List Item → List ℕ
numbers items = map (λ item. item.number) items

-- From `old` to `new` one leaf was added, replaced or removed, as the kind of the change says. It has the change's key and value, and some
-- record number.
abbrev pub Changes : (change : Change) → (old new : List Item) → Type 0
Changes change old new = (number : ℕ) × IsChanged change.kind (item_of number change) old new

-- A change was found exactly if the one that `change_between` gives leads from `old` to `new`. The found change is then that one.
abbrev pub IsFoundChange : (pass : ℕ) → (old new : List Item) → (found : Option Change) → Type 0
IsFoundChange pass old new None = ¬ (Changes (change_between pass old new) old new)
IsFoundChange pass old new (Some change) = (change ≡ change_between pass old new) × Changes change old new

-- The change was found exactly if `old` and `new`, the leaves beside the one that changes, have the same numbers in the same order.
abbrev pub IsMade : (old new : List Item) → (change : Change) → (result : Option Change) → Type 0
IsMade old new change None = ¬ (numbers old ≡ numbers new)
IsMade old new change (Some found) = (found ≡ change) × (numbers old ≡ numbers new)
