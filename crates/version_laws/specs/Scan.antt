-- What a search or a scan knows of past versions, and the path of a scan.
use Rattle.std.specs.Prelude.{◌≡◌, ◌⊎◌, ℕ, suc, ◌<◌, ◌≤◌, ◌-◌, List, [], ◌∷◌, ◌++◌, Some, None, if◌then◌else◌, nat_lt}
use Rattle.tries.specs.Keys.{IsAtMost, Key, AgreeBelow}
use Rattle.tries.specs.Tree.{Fixed, Subtrie, Tree, leaf, node, fork, subtrie, Has}
use Rattle.compound_node.specs.declared.entries.Entry.{Entry}
use Rattle.compound_node.specs.declared.entries.Entry.TheVariants.{Node}
use Rattle.node_tries.specs.Piece.{Place, Fork, size}
use Rattle.tries.specs.Search.{IsUnder}
use Rattle.versions.specs.State.{rec_of, Past, Stands}
use Rattle.record_words.specs.declared.records.Rec.{Rec}
use Rattle.record_words.specs.declared.records.Rec.TheVariants.{Node as a_node, Leaf as a_leaf}
use Rattle.tries.specs.Place.{shape}

-- The tree that stands in a slot of a body. A slot past the last leads to the last.
abbrev pub at_place : (tree : Tree) → (slot : ℕ) → Tree
at_place (leaf number key value) slot = leaf number key value
at_place (node number fixed body) slot = node number fixed body
at_place (fork position left right) slot = if nat_lt slot (size (subtrie left)) then at_place left slot else at_place right (slot - size (subtrie left))

-- On the path to a slot, the two keys have the same bits up to and at the position of each fork.
abbrev pub AgreeUpToPlace : (trie : Subtrie) → (slot : ℕ) → (key other : Key) → Type 0
AgreeUpToPlace (Place entry) slot key other = Unit {0}
AgreeUpToPlace (Fork position left right) slot key other =
    AgreeBelow (suc position) key other × (slot < size left → AgreeUpToPlace left slot key other) ×
    (size left ≤ slot → AgreeUpToPlace right (slot - size left) key other)

-- In some version `at`, from `first` up to the newest, node record `number` stood in the tree with the body `tree`.
pub record Stood (past : Past) (first number : ℕ) (tree : Tree) : Type 0 where
  pub at : ℕ
  pub since : first ≤ at
  pub until : at ≤ past.now
  pub fixed : Fixed
  pub stands : Stands past at (a_node number) (node number fixed tree)

-- What a load of the root tells: in a version from `since` on the root had this entry.
abbrev pub IsRooted : (past : Past) → (since : ℕ) → (entry : Entry) → Type 0
IsRooted past since entry =
    (version : ℕ) × (tree : Tree) × (since ≤ version) × (version ≤ past.now) × (past.version version ≡ Some tree) × (subtrie tree ≡ Place entry)

-- What a load of an entry tells: in a version from `since` on the node record had this entry in this slot.
abbrev pub IsPlaced : (past : Past) → (since node slot : ℕ) → (entry : Entry) → Type 0
IsPlaced past since number slot entry =
    (tree : Tree) × Stood past since number tree × (slot < size (subtrie tree)) × (subtrie (at_place tree slot) ≡ Place entry)

-- What the loads of a head tell: in a version from `since` on the node record had these forks.
abbrev pub HadShapeSince : (past : Past) → (since node : ℕ) → (trie : Subtrie) → Type 0
HadShapeSince past since number trie = (tree : Tree) × Stood past since number tree × (shape (subtrie tree) ≡ trie)

-- What the loads of a leaf tell: in a version from `since` on the leaf record had this key and value.
abbrev pub IsRead : (past : Past) → (since leaf : ℕ) → (key : Key) → (value : ℕ) → Type 0
IsRead past since number key value =
    (version : ℕ) × (since ≤ version) × (version ≤ past.now) × Stands past version (a_leaf number) (leaf number key value)

-- The key may stand in this slot of the node record. In a version from `since` on some key stood there. The two keys have the same bits up
-- to and at each fork on the path to the slot.
abbrev pub MayStandAt : (past : Past) → (since node slot : ℕ) → (key : Key) → Type 0
MayStandAt past since number slot key =
    (tree : Tree) × (other : Key) × Stood past since number tree × IsUnder tree slot other × AgreeUpToPlace (subtrie tree) slot other key

-- In a version from `since` on the key stood below the record.
abbrev pub HadKeyBelow : (past : Past) → (since : ℕ) → (key : Key) → (rec : Rec) → Type 0
HadKeyBelow past since key rec =
    (version : ℕ) × (tree : Tree) × (since ≤ version) × (version ≤ past.now) × Stands past version rec tree × Has tree key

-- A node on the path of a scan: its number, its height, its forks without their entries, and a place. In the lowest node the place is the
-- gap where the scan is. In each other node the place is the slot below which the scan is.
pub record Frame : Type 0 where
  pub number : ℕ
  pub height : ℕ
  pub shape : Subtrie
  pub place : ℕ

-- The frames, the lowest node's first, are the path of a scan from the root, or there are none. The topmost node's entry was at the root.
-- Each other node's entry was in the slot of the frame above. Each node had its frame's forks. Each of this was so in some version from
-- `since` on, maybe in different ones.
abbrev pub IsStack : (past : Past) → (since : ℕ) → (frames : List Frame) → Type 0
IsStack past since [] = Unit {0}
IsStack past since (top ∷ []) = IsRooted past since (Node top.number top.height) × HadShapeSince past since top.number top.shape
IsStack past since (lower ∷ upper ∷ others) =
    IsPlaced past since upper.number upper.place (Node lower.number lower.height) × HadShapeSince past since lower.number lower.shape ×
    IsStack past since (upper ∷ others)

-- A key and a value that a scan lists.
pub record Pair : Type 0 where
  pub key : Key
  pub value : ℕ

-- each pair of the list has the property
abbrev pub Every : (Pair → Type 0) → List Pair → Type 0
Every P [] = Unit {0}
Every P (x ∷ xs) = P x × Every P xs

-- one of the pairs has the key
abbrev pub IsKeyListed : Key → List Pair → Type 0
IsKeyListed key [] = ⊥
IsKeyListed key (x ∷ xs) = (key ≡ x.key) ⊎ IsKeyListed key xs

-- What a scan is asked for: the least and the greatest key, and the most pairs to list.
pub record Range : Type 0 where
  pub from : Key
  pub upto : Key
  pub limit : ℕ

-- the key is in the range, whose both ends belong to it
abbrev pub IsInRange : Range → Key → Type 0
IsInRange range key = IsAtMost range.from key × IsAtMost key range.upto

-- In a version from `since` on the record that the entry names stood in the tree, with the entry's height.
abbrev pub EntryStoodSince : (past : Past) → (since : ℕ) → (entry : Entry) → Type 0
EntryStoodSince past since entry =
    (version : ℕ) × (tree : Tree) × (since ≤ version) × (version ≤ past.now) × Stands past version (rec_of entry) tree × (subtrie tree ≡ Place entry)

-- In a version from `since` on the index had no key.
abbrev pub IsBlank : (past : Past) → (since : ℕ) → Type 0
IsBlank past since = (version : ℕ) × (since ≤ version) × (version ≤ past.now) × (past.version version ≡ None)

-- The pairs in the order in which a scan took them; in the given list the newest stands first.
abbrev pub in_order_taken : List Pair → List (Key × ℕ)
in_order_taken [] = []
in_order_taken (newest ∷ older) = in_order_taken older ++ (newest.key, newest.value) ∷ []
