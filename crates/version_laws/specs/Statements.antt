-- The laws of versions for writers, searches and scans. The functions of the module `laws` promise them.
use Rattle.std.specs.Prelude.{◌≡◌, ◌≢◌, ◌⊎◌, ℕ, ◌++◌, List, [], ◌∷◌, length, Bool, Option, Some, None, ◌≤◌, ◌<◌}
use Rattle.finite_map.specs.declared.Change.{Change}
use Rattle.finite_map.specs.declared.Scan.{Scan as Answer}
use Rattle.key_bits.specs.Key.{IsKey}
use Rattle.compound_node.specs.declared.entries.Entry.{Entry}
use Rattle.compound_node.specs.declared.entries.Entry.TheVariants.{Leaf, Node}
use Rattle.node_tries.specs.Piece.{Place, size}
use Rattle.tries.specs.Keys.{Key, bit, AgreeBelow}
use Rattle.tries.specs.Tree.{Fixed, Tree, Subtrie}
use Rattle.tries.specs.Content.{Item, item}
use Rattle.tries.specs.Place.{subtrie_collapsed, subtrie_without, spot, entry_at, shape}
use Rattle.tries.specs.Affected.{subtrie_forked, FirstForkIsBefore}
use Rattle.versions.specs.Heap.{Heap}
use Rattle.versions.specs.State.{State, Past, IsLawfulState, IsReach, KeepsFixedWordsSince, IsLed, WasAbsentSince, IsHeldSince}
use Rattle.record_words.specs.declared.records.Rec.{Rec}
use Rattle.record_words.specs.declared.records.Rec.TheVariants.{Node as a_node, Leaf as a_leaf}
use Rattle.versions.specs.Trades.{HasTraded}
use Rattle.versions.specs.Core.{BareCore, view}
use Rattle.versions.specs.declared.Pin.{Pin}
use Rattle.versions.specs.Told.{TellChanges, items_of}
use Rattle.versions.specs.Steps.{IsVersionPublish}
use Rattle.version_laws.specs.Writer.{added_change, replaced_change, removed_change, IsFoundBelow, IsNewLeaf, Newcomer}
use Rattle.version_laws.specs.Spots.{HoldsSpot, IsLowAt, AffectsSpotAloneInCore, IsStoredAt}
use Rattle.version_laws.specs.Rise.{IsNewSubtrie, IsEntryFor, IsUpper, IsLeafOf, IsBesideNode, subtrie_merged, entry, IsRise, linked_for_entry, linked_by_rise, unlinked_by_rise}
use Rattle.version_laws.specs.Scan.{Pair, Range, in_order_taken, IsRooted, IsPlaced, HadShapeSince, IsRead, EntryStoodSince}
use Rattle.version_laws.specs.Directions.{IsAnswer, IsLawfulBy}
use Rattle.packed_pairs.specs.declared.direction.Direction.{Direction}
use Rattle.compound_node.specs.Nodes.{height_of}
use Rattle.versions.specs.Frames.{IsGrown}

-- A store that leaves the words `heap` and the root `root` is a legal publish of this change, by the change's pass. It makes the version
-- `tree`, which may be empty, and whose leaves differ from those before. Just the records `new` are linked anew, and just the records
-- `gone` are unlinked.
pub record IsPublished (core : BareCore) (heap : Heap) (root : Option Entry) (change : Change) (new gone : List Rec) : Type 0 where
  pub tree : Option Tree
  pub legal : IsVersionPublish core change.pass heap root tree change
  pub differs : items_of (core.past.version core.past.now) ≢ items_of tree
  pub trade : HasTraded (core.past.version core.past.now) tree new gone

-- An insertion may store the one entry that has risen from a locked node, at the spot where that node's own entry stands. The new leaf is
-- ready, and the spot is locked. The new entry names a copy of the node, an intermediate node or a new root.
abbrev pub InsertAtSpot : Type 0
InsertAtSpot =
    (core : BareCore) (pass : ℕ) → IsLawfulState (view core) → (newcomer : Newcomer) → IsNewLeaf core pass newcomer.item →
    (node height : ℕ) (risen : Entry) →
    -- the entry has risen from the node, whose own entry stands at the locked spot
    (rise : IsRise core pass newcomer (entry node) (Place risen)) → (at : HoldsSpot core pass newcomer.item.key (Node node height)) →
    -- nothing else is affected there, and the new entry may stand there
    AffectsSpotAloneInCore at newcomer.mismatch → IsLowAt at risen →
    -- what the words show after the store
    (heap : Heap) (root : Option Entry) → IsStoredAt at heap root risen →
    IsPublished core heap root (added_change pass newcomer.item) (linked_by_rise rise) (unlinked_by_rise rise)

-- Let an insertion affect no more of the locked node `upper` than its entry for node `lower`. Then the first fork of node `upper` is before
-- the insertion's position. So in the node above `upper`, too, the insertion affects one entry alone.
abbrev pub UpperGoesOn : Type 0
UpperGoesOn =
    (core : BareCore) (pass : ℕ) → IsLawfulState (view core) → (key : Key) (position upper lower : ℕ) → IsUpper core pass key position upper lower →
    FirstForkIsBefore position (core.heap.nodes upper).subtrie

-- Let an insertion affect one leaf alone, which stands at a locked spot. It may store there a new node of this leaf and the new one. In a
-- node that is a leaf pushdown, and at the root it adds the second key. The new leaf and the new node are ready.
abbrev pub PairAtSpot : Type 0
PairAtSpot =
    (core : BareCore) (pass : ℕ) → IsLawfulState (view core) → (new : Item) (position : ℕ) → IsNewLeaf core pass new →
    (other new_node : ℕ) (fixed : Fixed) →
    -- the other leaf stands at the locked spot, and nothing else is affected there
    (at : HoldsSpot core pass new.key (Leaf other)) → AffectsSpotAloneInCore at position →
    -- the two leaves' keys first differ at the position
    AgreeBelow position new.key (core.heap.leaves other).key →
    bit new.key position ≢ bit (core.heap.leaves other).key position →
    -- the new node has both leaves, and may stand at the spot
    IsNewSubtrie core pass new_node fixed (subtrie_forked (bit new.key position) position (Leaf new.number) (Place (Leaf other))) →
    IsLowAt at (Node new_node fixed.height) →
    -- what the words show after the store
    (heap : Heap) (root : Option Entry) → IsStoredAt at heap root (Node new_node fixed.height) →
    IsPublished core heap root (added_change pass new) (a_node new_node ∷ a_leaf new.number ∷ []) []

-- An insertion into an empty index may store the new leaf, which is ready, at the root. The pass has locked the anchor.
abbrev pub FirstKey : Type 0
FirstKey =
    (core : BareCore) (pass : ℕ) → IsLawfulState (view core) → (new : Item) → core.anchor ≡ Some pass → core.root ≡ None → IsNewLeaf core pass new →
    IsPublished core core.heap (Some (Leaf new.number)) (added_change pass new) (a_leaf new.number ∷ []) []

-- A pass may store a new leaf, which is ready, at a locked spot in place of a leaf with the same key. The key gets the new leaf's value,
-- and the old leaf is unlinked.
abbrev pub UpsertAtSpot : Type 0
UpsertAtSpot =
    (core : BareCore) (pass : ℕ) → IsLawfulState (view core) → (new : Item) → IsNewLeaf core pass new → (old : ℕ) (at : HoldsSpot core pass new.key (Leaf old)) →
    (core.heap.leaves old).key ≡ new.key →
    (heap : Heap) (root : Option Entry) → IsStoredAt at heap root (Leaf new.number) →
    IsPublished core heap root (replaced_change pass new) (a_leaf new.number ∷ []) (a_leaf old ∷ [])

-- A removal may store what is left of the leaf's node, one entry or a new node, at the spot where that node's entry stands. The pass has
-- locked the node and the spot. The node and the leaf are unlinked.
abbrev pub RemoveAtSpot : Type 0
RemoveAtSpot =
    (core : BareCore) (pass : ℕ) → IsLawfulState (view core) → (key : Key) (node leaf : ℕ) → IsLeafOf core pass key node leaf → (height : ℕ) (left : Entry) →
    (stands : IsEntryFor core pass (subtrie_without key (core.heap.nodes node).subtrie) left) → (at : HoldsSpot core pass key (Node node height)) → IsLowAt at left →
    (heap : Heap) (root : Option Entry) → IsStoredAt at heap root left →
    IsPublished core heap root (removed_change pass (item leaf key (core.heap.leaves leaf).value)) (linked_for_entry stands) (a_node node ∷ a_leaf leaf ∷ [])

-- A removal may merge what is left of the leaf's node with the node beside it, into one new node. In the node above, the new node's entry
-- takes the place of the fork between the two. What is left of the node above, one entry or a new node, takes that node's place. All three
-- old nodes and the spot are locked, and the three and the leaf are unlinked.
abbrev pub MergeAtSpot : Type 0
MergeAtSpot =
    -- the leaf stands in the lower node, which is beside another one in the upper node
    (core : BareCore) (pass : ℕ) → IsLawfulState (view core) → (key : Key) (lower leaf : ℕ) → IsLeafOf core pass key lower leaf →
    (upper beside : ℕ) (two : IsBesideNode core pass key upper lower beside) →
    -- the merged node
    (merged : ℕ) (fixed : Fixed) → IsNewSubtrie core pass merged fixed (subtrie_merged core pass key upper lower beside two) →
    -- the entry for what is left of the upper node
    (height : ℕ) (left : Entry) (stands : IsEntryFor core pass (subtrie_collapsed key (Node merged fixed.height) (core.heap.nodes upper).subtrie) left) →
    -- the locked spot of the upper node, and what the words show after the store
    (at : HoldsSpot core pass key (Node upper height)) → IsLowAt at left → (heap : Heap) (root : Option Entry) → IsStoredAt at heap root left →
    IsPublished core heap root (removed_change pass (item leaf key (core.heap.leaves leaf).value)) (linked_for_entry stands ++ a_node merged ∷ [])
    (a_node upper ∷ a_node lower ∷ a_node beside ∷ a_leaf leaf ∷ [])

-- A pass that has locked the anchor may empty a root that is a leaf. That removes the last key.
abbrev pub RemoveLast : Type 0
RemoveLast =
    (core : BareCore) (pass : ℕ) → IsLawfulState (view core) → (leaf : ℕ) → core.anchor ≡ Some pass → core.root ≡ Some (Leaf leaf) →
    IsPublished core core.heap None (removed_change pass (item leaf (core.heap.leaves leaf).key (core.heap.leaves leaf).value)) [] (a_leaf leaf ∷ [])

-- Let the records of the versions from `since` on be kept (`IsReach`). A search that was led to a leaf has its result from the leaf's
-- present words. If their key is the search's key, it was held with their value in a version from `since` on. Else the search's key was
-- absent in a version from `since` on.
abbrev pub GetEnds : Type 0
GetEnds =
    (state : State) → IsLawfulState state → (since : ℕ) → IsReach state since → (key : Key) (leaf : ℕ) → IsLed state.past since key (Leaf leaf) →
    ((key ≡ (state.heap.leaves leaf).key) × IsHeldSince state.past since key (state.heap.leaves leaf).value) ⊎
    ((key ≢ (state.heap.leaves leaf).key) × WasAbsentSince state.past since key)

-- Let a walk have found these pairs since the front `before`, and have come to its end or been cut at the limit (`IsAnswer`). Then the scan
-- that lists them is lawful from that front to the later front `before ++ rest`. Both ends of the range are keys.
abbrev pub ScanIsLawful : Type 0
ScanIsLawful =
    -- the versions tell the changes of the later front
    (direction : Direction) (more : Bool) (past : Past) (before rest : List Change) (since : ℕ) → KeepsFixedWordsSince past since →
    TellChanges past (before ++ rest) →
    (range : Range) → IsKey range.from → IsKey range.upto →
    -- the scan lists the pairs that the walk took
    (taken : List Pair) (scan : Answer) → scan.pairs.items ≡ in_order_taken taken → scan.more ≡ more →
    IsAnswer direction past (length before) range taken more →
    IsLawfulBy direction before (before ++ rest) range.from range.upto range.limit scan

-- A load of the root in a lawful state tells an entry. The root had it in a version from `since` on (`IsRooted`), for each version `since`
-- so far.
abbrev pub LoadsRoot : Type 0
LoadsRoot = (state : State) → IsLawfulState state → (since : ℕ) → since ≤ state.now → (top : Entry) → state.root ≡ Some top → IsRooted state.past since top

-- Let a node have stood in the tree in a version from `since` on, and let the records of these versions be kept (`IsReach`). A load of one
-- of its slots tells which entry it had there in a version from `since` on (`IsPlaced`). The node may have been unlinked meanwhile. The
-- entry is lower than the node.
abbrev pub LoadsPlace : Type 0
LoadsPlace =
    (state : State) → IsLawfulState state → (since : ℕ) → IsReach state since → (number height : ℕ) → EntryStoodSince state.past since (Node number height) →
    (slot : ℕ) → slot < size (state.heap.nodes number).subtrie →
    IsPlaced state.past since number slot (entry_at (state.heap.nodes number).subtrie slot) × (height_of (entry_at (state.heap.nodes number).subtrie slot) < height)

-- Let a node have stood in the tree in a version from `since` on, and let the records of these versions be kept (`IsReach`). The loads of
-- its head tell which forks it had in a version from `since` on (`HadShapeSince`).
abbrev pub LoadsShape : Type 0
LoadsShape =
    (state : State) → IsLawfulState state → (since : ℕ) → IsReach state since → (number height : ℕ) → EntryStoodSince state.past since (Node number height) →
    HadShapeSince state.past since number (shape (state.heap.nodes number).subtrie)

-- Let a leaf have stood in the tree in a version from `since` on, and let the records of these versions be kept (`IsReach`). The loads of
-- its words tell which key and value it had in a version from `since` on (`IsRead`).
abbrev pub LoadsLeaf : Type 0
LoadsLeaf =
    (state : State) → IsLawfulState state → (since : ℕ) → IsReach state since → (leaf : ℕ) → EntryStoodSince state.past since (Leaf leaf) →
    IsRead state.past since leaf (state.heap.leaves leaf).key (state.heap.leaves leaf).value

-- A load that finds the root empty tells that each key was absent in a version from `since` on.
abbrev pub LoadsNone : Type 0
LoadsNone = (state : State) → IsLawfulState state → (since : ℕ) → since ≤ state.now → (key : Key) → state.root ≡ None → WasAbsentSince state.past since key

-- Let a past keep fixed words from the version `since` on (`KeepsFixedWordsSince`). Let a search for a key be led to a node (`IsLed`). Let
-- loads tell forks of the node (`HadShapeSince`), and an entry in the slot to which these lead the key (`IsPlaced`). Then the search is led
-- to that entry. The forks and the entry may be of different versions of the node's life.
abbrev pub LedPlaced : Type 0
LedPlaced =
    (past : Past) (since : ℕ) → KeepsFixedWordsSince past since → (key : Key) (number height slot : ℕ) (trie : Subtrie) (next : Entry) →
    HadShapeSince past since number trie → spot key trie ≡ slot → IsPlaced past since number slot next →
    IsLed past since key (Node number height) → IsLed past since key next

-- What a writer has found below a locked node stays true while versions are added. For that the writer keeps the node's lock, the node
-- keeps its words, and the writer's pin is no later than its search's version.
abbrev pub FoundIsKept : Type 0
FoundIsKept =
    (old new : BareCore) (pass : ℕ) (newcomer : Newcomer) (lowest : ℕ) (pin : Pin) → IsLawfulState (view new) → IsGrown old.past new.past →
    new.lock lowest ≡ Some pass → new.heap.nodes lowest ≡ old.heap.nodes lowest → new.pins pass ≡ Some pin → pin.version ≤ newcomer.since →
    IsFoundBelow old pass newcomer lowest → IsFoundBelow new pass newcomer lowest
