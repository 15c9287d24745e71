-- Where a change stores the entry of what it has made, and which records it unlinks.
use Rattle.std.specs.Prelude.{◌≡◌, ℕ, ◌-◌, ◌<◌, List, slice_get, Some, All, Bool, true, false, None, IsSome}
use Rattle.insert_cases.specs.declared.choice.PathNode.{PathNode}
use Rattle.rowex_core.specs.declared.event.Spot.{Spot}
use Rattle.rowex_core.specs.declared.event.Spot.TheVariants.{Root, Slot, Value}
use Rattle.record_words.specs.declared.layout.Layout.{Layout}
use Rattle.record_words.specs.declared.records.Rec.{Rec}
use Rattle.rowex_core.specs.Cores.{HasRecord}
use Rattle.rowex_core.specs.declared.known.Known.{Known}

-- The spot above the node at index `end` of the path: the root, or the slot that the search took in the node before. It is never a leaf's
-- value.
abbrev pub IsSpotAbove : (way : List PathNode) → (end : ℕ) → (spot : Spot) → Type 0
IsSpotAbove way end Root = end ≡ 0
IsSpotAbove way end (Value leaf) = ⊥
IsSpotAbove way end (Slot number slot) = (node : PathNode) × (0 < end) × (slice_get way (end - 1) ≡ Some node) × (number ≡ node.number) × (slot ≡ node.slot)

-- the table has each of these records
abbrev pub AreInTable : (layout : Layout) → (recs : List Rec) → Type 0
AreInTable layout recs = All (HasRecord layout) recs

-- the pass has locked the anchor exactly if `locked` is true
abbrev pub IsAnchored : (locked : Bool) → (known : Known) → Type 0
IsAnchored true known = IsSome known.anchor
IsAnchored false known = known.anchor ≡ None
