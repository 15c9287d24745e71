-- How many node records the tree takes for its keys.
use Rattle.std.specs.Prelude.{◌≡◌, ℕ, ◌-◌, ◌≤◌, List, length, All}
use Rattle.finite_map.specs.Fronts.{map_of}
use Rattle.versions.specs.Core.{InTree, BareCore}
use Rattle.versions.specs.Steps.{IsLawfulCore}
use Rattle.versions.specs.Trades.{AreApart}
use Rattle.record_words.specs.declared.records.Rec.TheVariants.{Node as a_node}

-- Node records in the tree, each listed once, are fewer than the keys of the map. If the map has no key, there is no such record.
abbrev pub NodesInTreeAreFewer : Type 0
NodesInTreeAreFewer =
    (core : BareCore) → IsLawfulCore core → (numbers : List ℕ) → AreApart numbers →
    All (λ number. (since : ℕ) × (core.fate (a_node number) ≡ InTree since)) numbers →
    length numbers ≤ length (map_of core.changes) - 1
