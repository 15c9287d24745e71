-- The laws of trees that were read.
use Rattle.std.specs.Prelude.{ℕ}
use Rattle.versions.specs.State.{IsTop}
use Rattle.versions.specs.Told.{items_of}
use Rattle.rowex_core.specs.declared.event.Spot.{Spot}
use Rattle.rowex_core.specs.Cores.{Core, IsLawful, heap_of}
use Rattle.rowex_core.specs.Events.{AgreeByNumber, IsOfEntry, stored_words, stored_root, next_tree}

-- Let a word be stored at the root or in a slot of a lawful core, and let the words then show a tree or none. A leaf record's number names
-- one leaf in the newest version and in that tree. For such a store changes no leaf record, and `change_between` tells leaves apart by
-- their numbers.
abbrev pub LeavesAreOne : Type 0
LeavesAreOne =
    (core : Core) (spot : Spot) (word : ℕ) → IsOfEntry spot → IsLawful core →
    IsTop (heap_of (stored_words core spot word)) (stored_root core spot word) (next_tree core spot word) →
    AgreeByNumber (items_of (core.past.version core.past.now)) (items_of (next_tree core spot word))
