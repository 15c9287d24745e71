-- The case of an insertion: how it is chosen at a node, and what is done there.
use Rattle.std.specs.Prelude.{◌≡◌, ◌⊎◌, ℕ, zero, suc, ◌<◌, ◌≤◌, Bool, List, length, slice_get, slice_set, Some, false, true}
use Rattle.node_tries.specs.Changes.{AtRootFork}
use Rattle.node_tries.specs.Grafts.{grafted}
use Rattle.node_tries.specs.Growth.{grown}
use Rattle.node_tries.specs.Piece.{Place, Fork}
use Rattle.compound_node.specs.Nodes.{NodeView, piece, height_of, IsBuiltFrom}
use Rattle.compound_node.specs.declared.entries.Entry.{Entry}
use Rattle.compound_node.specs.declared.entries.Entry.TheVariants.{Leaf, Node}
use Rattle.insert_cases.specs.declared.choice.Case.{Case}
use Rattle.insert_cases.specs.declared.choice.Case.TheVariants.{LeafPushdown, NormalInsert, Overflow}
use Rattle.insert_cases.specs.declared.choice.Choice.{Choice}
use Rattle.insert_cases.specs.declared.raising.Risen.{Risen}
use Rattle.insert_cases.specs.declared.raising.Risen.TheVariants.{Whole, Split}
use Rattle.insert_cases.specs.Levels.{IsPullUp}
use Rattle.insert_cases.specs.Ways.{IsAffectedNode}
use Rattle.tries.specs.Keys.{Key, bit}
use Rattle.tries.specs.Place.{spot}
use Rattle.tries.specs.Search.{child, seek}
use Rattle.tries.specs.Tree.{Subtrie, Tree, leaf, node, fork, subtrie}
use Rattle.plain_trie_records.specs.Heights.{Remains}

-- the node shows one side of the root fork of the subtrie
abbrev pub IsOneSide : NodeView → Subtrie → Type 0
IsOneSide view shown = AtRootFork (λ position zero one. (piece view ≡ zero) ⊎ (piece view ≡ one)) shown

-- What became of the affected node, by the case. With the new leaf it would show the subtrie `shown`. After a leaf pushdown it has a node
-- of height 1 in slot `first`, and is otherwise as it was. After a normal insertion it is built to show `shown`. After an overflow it shows
-- one side of the root fork of `shown`.
abbrev pub IsCaseDone : (case : Case) → (old new : NodeView) → (first : ℕ) → (shown : Subtrie) → Type 0
IsCaseDone LeafPushdown old new first shown = (number : ℕ) × (new ≡ record old { entries = slice_set old.entries first (Node number 1) })
IsCaseDone NormalInsert old new first shown = IsBuiltFrom new shown
IsCaseDone Overflow old new first shown = IsOneSide new shown

-- The node record of this number has what became of the affected node, as `IsCaseDone` says.
abbrev pub DoesCase : (nodes : List NodeView) → (number : ℕ) → (case : Case) → (old : NodeView) → (first : ℕ) → (shown : Subtrie) → Type 0
DoesCase nodes number case old first shown = (new : NodeView) × (slice_get nodes number ≡ Some new) × IsCaseDone case old new first shown

-- ---- above the affected node

-- whether what rises is a fork of two entries, and not one entry
abbrev pub is_split : Risen → Bool
is_split (Whole entry) = false
is_split (Split position first second) = true

-- whether in this case the root fork of the affected node goes up
abbrev pub is_overflow : Case → Bool
is_overflow LeafPushdown = false
is_overflow NormalInsert = false
is_overflow Overflow = true

-- A node takes in a fork of two entries in place of the entry in slot `at`. If it had room, it was built anew with one entry more, and
-- nothing goes up. If it was full, it has one side of its new root fork, which goes up.
pub record TakesFork (old new : NodeView) (at : ℕ) (up : Bool) : Type 0 where
  pub position : ℕ
  pub zero_entry : Entry
  pub one_entry : Entry
  pub room : length old.entries < 32 → IsBuiltFrom new (grafted at (Fork position (Place zero_entry) (Place one_entry)) (piece old)) × (up ≡ false)
  pub full : length old.entries ≡ 32 → IsOneSide new (grafted at (Fork position (Place zero_entry) (Place one_entry)) (piece old)) × (up ≡ true)

-- the node has a child node in slot `at` now, and is otherwise as it was
abbrev pub HasNodeAt : (old new : NodeView) → (at : ℕ) → Type 0
HasNodeAt old new at = (number : ℕ) × (height : ℕ) × (new ≡ record old { entries = slice_set old.entries at (Node number height) })

-- What becomes of a node above a child of height `low`, which stands in slot `at`. If a fork rose and the node is one higher, it takes the
-- fork in. If it is higher still, slot `at` gets another node, and nothing goes up. If no fork rose, at most one slot has another entry,
-- and nothing goes up.
abbrev pub IsLevelDone : (low : ℕ) → (rose : Bool) → (old new : NodeView) → (at : ℕ) → (up : Bool) → Type 0
IsLevelDone low false old new at up = Remains old new × (up ≡ false)
IsLevelDone low true old new at up =
    (IsPullUp low old.height → TakesFork old new at up) × ((IsPullUp low old.height → ⊥) → HasNodeAt old new at × (up ≡ false))

-- The node record of this number has what becomes of a node at one level above the affected one, as `IsLevelDone` says.
pub record DoesLevel (old new : List NodeView) (number low at : ℕ) (rose up : Bool) : Type 0 where
  pub before : NodeView
  pub after : NodeView
  pub old_at : slice_get old number ≡ Some before
  pub new_at : slice_get new number ≡ Some after
  pub does : IsLevelDone low rose before after at up

-- Each node on the key's path has become what `IsLevelDone` says, from the top of the tree through `levels` levels. Each of these levels
-- has a node. `low` says whether a fork rose to the lowest of them, and `up` whether one rises from the top.
abbrev pub DoesLevels : (old new : List NodeView) → (key : Key) → (levels : ℕ) → (tree : Tree) → (low up : Bool) → Type 0
DoesLevels old new key zero tree low up = up ≡ low
DoesLevels old new key (suc below) (leaf number own_key value) low up = ⊥
DoesLevels old new key (suc below) (node number fixed body) low up =
    (rose : Bool) × DoesLevels old new key below (child key body) low rose ×
    DoesLevel old new number (height_of (seek key (subtrie body))) (spot key (subtrie body)) rose up
DoesLevels old new key (suc below) (fork position left right) low up = ⊥

-- ---- an insertion

-- The node records before and after a new leaf was added to the tree, which begins with a node. The leaf has the record `number`. Its key
-- first differs, at `position`, from the key of the leaf where its search ends. The affected node was changed by its case, and each node
-- above it by what rose to it. `up` says whether a fork rises from the tree.
pub record IsByCase (old new : List NodeView) (key : Key) (position number : ℕ) (tree : Tree) (up : Bool) : Type 0 where
  pub choice : Choice
  pub affected : IsAffectedNode key position tree choice
  pub view : NodeView
  pub at : slice_get old affected.number ≡ Some view
  pub does : DoesCase new affected.number choice.case view choice.first (grown position (bit key position) (Leaf number) choice.first (piece view))
  pub rises : DoesLevels old new key choice.level tree (is_overflow choice.case) up

-- The records before and after a new leaf was added to the tree, by the case of the node that the leaf affects. `up` says whether a fork
-- rises from the top. A tree of one leaf gives way to a fork of it and the new one. Of a tree that begins with a fork nothing is said.
abbrev pub AddsByCase : (old new : List NodeView) → (key : Key) → (position number : ℕ) → (tree : Tree) → (up : Bool) → Type 0
AddsByCase old new key position number (leaf own_number own_key value) up = up ≡ true
AddsByCase old new key position number (node own_number fixed body) up = IsByCase old new key position number (node own_number fixed body) up
AddsByCase old new key position number (fork top left right) up = Unit {0}

-- the entry is a node, whose number is `count` or more
abbrev pub IsNewNode : (count : ℕ) → (entry : Entry) → Type 0
IsNewNode count (Leaf number) = ⊥
IsNewNode count (Node number height) = count ≤ number

-- A new record, behind the old ones, has a node built to show the fork that rose. In record `number` that node's entry stands in slot `at`,
-- and all else is as in `node_view`.
pub record IsPutBetween (old new : List NodeView) (number at : ℕ) (node_view : NodeView) (shown : Subtrie) : Type 0 where
  pub view : NodeView
  pub built : IsBuiltFrom view shown
  pub after : slice_get new number ≡ Some (record node_view { entries = slice_set node_view.entries at (Node (length old) view.height) })
