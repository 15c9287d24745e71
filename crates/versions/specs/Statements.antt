-- The laws of the core.
use Rattle.std.specs.Prelude.{◌≡◌, ◌≢◌, ℕ, ◌<◌, ◌≤◌, take, Some}
use Rattle.tries.specs.Keys.{Key, IsParted}
use Rattle.tries.specs.Tree.{Fixed, Tree, node, subtrie}
use Rattle.compound_node.specs.declared.entries.Entry.TheVariants.{Node}
use Rattle.tries.specs.Search.{seek, between, IsUnder}
use Rattle.versions.specs.Heap.{Heap}
use Rattle.versions.specs.State.{Spans, State, Stands, IsSameRecord, IsLawfulState, IsReach, IsLed}
use Rattle.record_words.specs.declared.records.Rec.{Rec}
use Rattle.versions.specs.Core.{BareCore, Free, Held}
use Rattle.versions.specs.declared.Pin.{Pin}
use Rattle.finite_map.specs.Maps.{IsRising}
use Rattle.finite_map.specs.Fronts.{map_of}
use Rattle.versions.specs.Told.{content}
use Rattle.versions.specs.Steps.{IsLawfulCore, IsCoreStep, bare_opening}

-- Let a search have been led to a node, and let the records of the versions from `since` on be kept (`IsReach`). The node's present entry
-- on the key's path leads the search on, even if the node has changed or was unlinked since.
abbrev pub StateHindsight : Type 0
StateHindsight =
    (state : State) → IsLawfulState state → (since : ℕ) → IsReach state since → (key : Key) (number height : ℕ) →
    IsLed state.past since key (Node number height) → IsLed state.past since key (seek key (state.heap.nodes number).subtrie)

-- Let one key be below a slot of a node, and another one below a later slot, in any versions of the node's life. They first differ at the
-- fork between the slots, where the first key has 0.
abbrev pub StateParting : Type 0
StateParting =
    (state : State) → IsLawfulState state → (rec : Rec) (version other_version number other_number : ℕ) (fixed other_fixed : Fixed) (body other_body : Tree) →
    version ≤ state.now → other_version ≤ state.now →
    Spans state.now (state.life rec) version → Spans state.now (state.life rec) other_version → Stands state.past version rec (node number fixed body) →
    Stands state.past other_version rec (node other_number other_fixed other_body) →
    (slot later_slot : ℕ) → slot < later_slot → (key other : Key) → IsUnder body slot key → IsUnder other_body later_slot other →
    IsParted (between (subtrie body) slot later_slot) key other

-- The core of a new table is lawful, whatever the words of its records say.
abbrev pub BareOpeningIsLawful : Type 0
BareOpeningIsLawful = (heap : Heap) → IsLawfulCore (bare_opening heap)

-- Each legal step keeps the core lawful.
abbrev pub StepKeepsLawful : Type 0
StepKeepsLawful = (old : BareCore) (pass : ℕ) (new : BareCore) → IsLawfulCore old → IsCoreStep old pass new → IsLawfulCore new

-- The content of version n is the map after the first n changes. Its keys rise strictly.
abbrev pub ContentIsMap : Type 0
ContentIsMap =
    (core : BareCore) → IsLawfulCore core → (version : ℕ) → version ≤ core.past.now →
    (content (core.past.version version) ≡ map_of (take version core.changes)) × IsRising (content (core.past.version version))

-- No record that stood in the tree in a version since a pass's pin is free or held.
abbrev pub BareReachIsKept : Type 0
BareReachIsKept =
    (core : BareCore) → IsLawfulCore core → (pass : ℕ) (pin : Pin) → core.pins pass ≡ Some pin → (version : ℕ) → pin.version ≤ version → version ≤ core.past.now →
    (rec : Rec) (tree : Tree) → Stands core.past version rec tree → (core.fate rec ≢ Free) × ((by : ℕ) → core.fate rec ≢ Held by)

-- In all versions since a pass's pin, a node has the same fixed words and stems, and a leaf has the same key.
abbrev pub ReachIsSteady : Type 0
ReachIsSteady =
    (core : BareCore) → IsLawfulCore core → (pass : ℕ) (pin : Pin) → core.pins pass ≡ Some pin → (rec : Rec) (version other_version : ℕ) (part other_part : Tree) →
    pin.version ≤ version → version ≤ core.past.now → pin.version ≤ other_version → other_version ≤ core.past.now → Stands core.past version rec part →
    Stands core.past other_version rec other_part → IsSameRecord part other_part
