-- A writer's search below its lock, by facts of the past alone; and where a search is if nothing has changed since.
use Rattle.std.specs.Prelude.{◌≡◌, ℕ, ◌≤◌, Some}
use Rattle.compound_node.specs.declared.entries.Entry.{Entry}
use Rattle.compound_node.specs.declared.entries.Entry.TheVariants.{Leaf, Node}
use Rattle.node_tries.specs.Piece.{Place}
use Rattle.tries.specs.Keys.{Key, AgreeBelow}
use Rattle.tries.specs.Tree.{Fixed, Subtrie, Tree, node, subtrie, IsTrie, IsBuilt, Within, first_position}
use Rattle.tries.specs.Search.{Kin, seek, found}
use Rattle.tries.specs.Place.{spot}
use Rattle.versions.specs.State.{Past, StoodWithKeys, KeepsFixedWordsSince}
use Rattle.versions.specs.Frames.{IsGrown}
use Rattle.version_laws.specs.Scan.{EntryStoodSince, IsRooted, IsBlank, IsPlaced, HadShapeSince, IsRead}
use Rattle.version_laws.specs.Writer.{BeganAt, IsWayBelow}

-- A search that began at node `start` has come to this entry. In a version from `since` on, node `start` had its first fork at `first_fork`
-- and some key `like`. In one, maybe another, the entry stood in the tree, and all keys below it agreed with `like` before `first_fork`.
abbrev pub IsOnWay : (past : Past) → (since first_fork start : ℕ) → (entry : Entry) → Type 0
IsOnWay past since first_fork start entry =
    (like : Key) × BeganAt past since first_fork like start × StoodWithKeys past since (λ below. AgreeBelow first_fork like below) entry

-- A search that began at this entry ended at a leaf with this key, by facts of versions from `since` on. Either the entry is that leaf. Or
-- it is a node that had some key `like`, and the two keys agree before the node's first fork.
pub data IsWayFrom (past : Past) (since : ℕ) (key : Key) : Entry → Type 0 where
  from_leaf : (number : ℕ) → StoodWithKeys past since (λ held. held ≡ key) (Leaf number) → IsWayFrom past since key (Leaf number)
  from_node : (number height first_fork : ℕ) (like : Key) → BeganAt past since first_fork like number → AgreeBelow first_fork like key →
      IsWayFrom past since key (Node number height)

-- If no change was made since the version `since`, a search for the key is at this entry in the newest tree. The entry stands there, and a
-- search that goes on from it ends where a search from the root does.
abbrev pub IsStill : (past : Past) → (since : ℕ) → (key : Key) → (entry : Entry) → Type 0
IsStill past since key entry =
    since ≡ past.now → (tree : Tree) × (part : Tree) × (past.version since ≡ Some tree) × Within part tree × (subtrie part ≡ Place entry) ×
    (found key part ≡ found key tree)

-- The way of a writer

-- A search below a lock may begin at a node that stood in the tree in a version from `since` on. Its forks were read.
abbrev pub WayBegins : Type 0
WayBegins =
    (past : Past) (since : ℕ) → KeepsFixedWordsSince past since → (start height first_fork : ℕ) (trie : Subtrie) → EntryStoodSince past since (Node start height) →
    HadShapeSince past since start trie → first_position trie ≡ first_fork →
    IsOnWay past since first_fork start (Node start height)

-- A search below a lock has come to a node. It may go on by any entry that was read there, whatever was published in between.
abbrev pub WayGoesOn : Type 0
WayGoesOn =
    (past : Past) (since : ℕ) → KeepsFixedWordsSince past since → (first_fork start number height slot : ℕ) (entry : Entry) →
    IsOnWay past since first_fork start (Node number height) →
    IsPlaced past since number slot entry → IsOnWay past since first_fork start entry

-- A search below a lock ends at a leaf whose key and value were read.
abbrev pub WayEnds : Type 0
WayEnds =
    (past : Past) (since : ℕ) → KeepsFixedWordsSince past since → (first_fork start height number : ℕ) (key : Key) (value : ℕ) →
    IsOnWay past since first_fork start (Leaf number) →
    IsRead past since number key value → IsWayFrom past since key (Node start height)

-- A leaf whose key was read is the end of a search that went on from the leaf itself.
abbrev pub WayOfLeaf : Type 0
WayOfLeaf = (past : Past) (since number : ℕ) (key : Key) (value : ℕ) → IsRead past since number key value → IsWayFrom past since key (Leaf number)

-- Let a search have begun at the entry on the key's path of a node's subtrie `trie`. Let it have ended at a leaf with the key `other`. Then
-- `IsWayBelow` holds, which is what an insertion needs of the path below that node.
abbrev pub WayIsBelow : Type 0
WayIsBelow =
    (past : Past) (since : ℕ) (key : Key) (trie : Subtrie) (other : Key) → IsWayFrom past since other (seek key trie) → IsWayBelow past since key trie other

-- Where nothing has changed

-- If no change was made since the root was read, a search is at the entry that the root had.
abbrev pub StillRooted : Type 0
StillRooted = (past : Past) (since : ℕ) (key : Key) (entry : Entry) → IsRooted past since entry → IsStill past since key entry

-- If nothing was changed since, a search goes on from a node to the entry that was read in the slot on the key's path.
abbrev pub StillPlaced : Type 0
StillPlaced =
    (past : Past) (since : ℕ) → KeepsFixedWordsSince past since → since ≤ past.now → (key : Key) (number height slot : ℕ) (trie : Subtrie) (entry : Entry) →
    HadShapeSince past since number trie → spot key trie ≡ slot → IsPlaced past since number slot entry →
    IsStill past since key (Node number height) → IsStill past since key entry

-- What `IsStill` says of an older past stays true in a past that goes on from it.
abbrev pub StillGrows : Type 0
StillGrows =
    (old new : Past) → IsGrown old new → (since : ℕ) (key : Key) (entry : Entry) → since ≤ old.now → IsStill old since key entry → IsStill new since key entry

-- Let one node stand with two bodies in a lawful bit trie. If the bodies have the same forks and stems (`Kin`), they are equal.
abbrev pub OneBody : Type 0
OneBody =
    (number : ℕ) (fixed : Fixed) (body other tree : Tree) → Within (node number fixed body) tree → Within (node number fixed other) tree → IsTrie tree →
    IsBuilt tree → Kin body other → body ≡ other

-- Two reads since, where nothing has changed

-- Two loads of the root in the newest version find the same entry, or both find none.
abbrev pub RootedSame : Type 0
RootedSame =
    (past : Past) (since : ℕ) → since ≡ past.now → ((first second : Entry) → IsRooted past since first → IsRooted past since second → first ≡ second) ×
    ((first : Entry) → IsRooted past since first → ¬ (IsBlank past since))

-- Two loads of one slot of a node in the newest version find the same entry.
abbrev pub PlacedSame : Type 0
PlacedSame =
    (past : Past) (since : ℕ) → KeepsFixedWordsSince past since → since ≡ past.now → (number slot : ℕ) (first second : Entry) → IsPlaced past since number slot first →
    IsPlaced past since number slot second → first ≡ second

-- Two searches for one key in the newest version that end at leaves end at the same leaf.
abbrev pub FoundSame : Type 0
FoundSame =
    (past : Past) (since : ℕ) → since ≡ past.now → (key : Key) (first second : ℕ) → IsStill past since key (Leaf first) → IsStill past since key (Leaf second) →
    first ≡ second
