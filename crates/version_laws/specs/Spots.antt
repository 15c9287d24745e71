-- A spot where an entry stands: what a writer has locked there, which entry may take its place, and what a store there makes.
use Rattle.std.specs.Prelude.{◌≡◌, ◌⊎◌, ℕ, Option, Some}
use Rattle.tries.specs.Keys.{Key}
use Rattle.tries.specs.Tree.{Subtrie}
use Rattle.tries.specs.Search.{seek}
use Rattle.tries.specs.Place.{spot, with_entry}
use Rattle.tries.specs.Affected.{subtrie_affected, IsLowerSubtrie, FirstForkIsBefore, IsTipSubtrie}
use Rattle.compound_node.specs.declared.entries.Entry.{Entry}
use Rattle.compound_node.specs.declared.entries.Entry.TheVariants.{Leaf, Node}
use Rattle.node_tries.specs.Piece.{Place}
use Rattle.versions.specs.Heap.{Heap}
use Rattle.record_words.specs.declared.records.Rec.TheVariants.{Node as a_node}
use Rattle.versions.specs.Core.{InTree, BareCore}
use Rattle.version_laws.specs.Writer.{IsSubtrieStored}

-- The pass has locked the node, which is in the tree since the version `linked`.
pub record IsLockedNode (core : BareCore) (pass node : ℕ) : Type 0 where
  pub lock : core.lock node ≡ Some pass
  pub linked : ℕ
  pub fate : core.fate (a_node node) ≡ InTree linked

-- The pass holds the lock of a spot on the key's path, where this entry stands. Either it has locked the anchor, and the entry is the root.
-- Or it has locked a node in the tree, whose entry on the key's path is this entry.
pub data HoldsSpot (core : BareCore) (pass : ℕ) (key : Key) (entry : Entry) : Type 0 where
  by_anchor : core.anchor ≡ Some pass → core.root ≡ Some entry → HoldsSpot core pass key entry
  by_node : (node : ℕ) → IsLockedNode core pass node → seek key (core.heap.nodes node).subtrie ≡ entry → HoldsSpot core pass key entry

-- The new entry may stand at the spot: at the root any may, and in a node one that is lower than the node.
abbrev pub IsLowAt : {core : BareCore} {pass : ℕ} {key : Key} {old : Entry} → HoldsSpot core pass key old → Entry → Type 0
IsLowAt (by_anchor lock root) new = Unit {0}
IsLowAt {core = core} (by_node node locked names) new = IsLowerSubtrie (core.heap.nodes node).fixed.height (Place new)

-- An insertion of the key, which first differs at this position, affects no more of `trie` than the entry on the key's path. `below` is the
-- subtrie of that entry. Either the first fork of `below` is before the position, so the key differs farther down. Or the affected part of
-- `trie` is one entry.
abbrev pub AffectsOne : (position : ℕ) → (key : Key) → (trie below : Subtrie) → Type 0
AffectsOne position key trie below = FirstForkIsBefore position below ⊎ IsTipSubtrie (subtrie_affected position key trie)

-- What there is below an entry: for a node the node's subtrie, for a leaf the leaf alone.
abbrev pub subtrie_below : Heap → Entry → Subtrie
subtrie_below heap (Leaf number) = Place (Leaf number)
subtrie_below heap (Node number height) = (heap.nodes number).subtrie

-- An insertion of the key, which first differs at this position, affects no more of the spot's node than the entry at the spot. At the
-- anchor there is no other entry to affect.
abbrev pub AffectsSpotAloneInCore : {core : BareCore} {pass : ℕ} {key : Key} {old : Entry} → (spot : HoldsSpot core pass key old) → (position : ℕ) → Type 0
AffectsSpotAloneInCore (by_anchor lock root) position = Unit {0}
AffectsSpotAloneInCore {core = core} {key = key} {old = old} (by_node node locked names) position =
    AffectsOne position key (core.heap.nodes node).subtrie (subtrie_below core.heap old)

-- The heap and the root after a store of this entry at the spot, and of nothing else.
abbrev pub IsStoredAt : {core : BareCore} {pass : ℕ} {key : Key} {old : Entry} →
    (spot : HoldsSpot core pass key old) → (heap : Heap) → (root : Option Entry) → (entry : Entry) → Type 0
IsStoredAt {core = core} (by_anchor lock root) heap top entry = (heap ≡ core.heap) × (top ≡ Some entry)
IsStoredAt {core = core} {key = key} (by_node node locked names) heap top entry =
    IsSubtrieStored core.heap heap node (with_entry (core.heap.nodes node).subtrie (spot key (core.heap.nodes node).subtrie) entry) × (top ≡ core.root)
