-- The core's state: the records' words, the versions, the records' lives and the pins.
use Rattle.record_words.specs.declared.records.Rec.{Rec}
use Rattle.record_words.specs.declared.records.Rec.TheVariants.{Node as a_node, Leaf as a_leaf}
use Rattle.std.specs.Prelude.{◌≡◌, ◌⊎◌, ℕ, ◌<◌, ◌≤◌, Option, Some, None, if◌then◌else◌, nat_eq}
use Rattle.tries.specs.Keys.{Key}
use Rattle.compound_node.specs.declared.entries.Entry.{Entry}
use Rattle.compound_node.specs.declared.entries.Entry.TheVariants.{Leaf, Node}
use Rattle.tries.specs.Tree.{Subtrie, Tree, leaf, node, fork, subtrie, Has, Holds, IsTrie, IsBuilt, Within}
use Rattle.node_tries.specs.Piece.{Place, Fork}
use Rattle.tries.specs.Search.{Follows, Kin}
use Rattle.versions.specs.Heap.{Heap, IsCopied, IsShown}

-- the record that an entry names: a leaf or a node
abbrev pub rec_of : Entry → Rec
rec_of (Leaf number) = a_leaf number
rec_of (Node number height) = a_node number

-- The tree begins with this record.
abbrev pub IsRecord : Rec → Tree → Type 0
IsRecord rec (leaf number key value) = rec ≡ a_leaf number
IsRecord rec (node number fixed body) = rec ≡ a_node number
IsRecord rec (fork position left right) = ⊥

-- The record is linked in the tree.
abbrev pub Links : Tree → Rec → Type 0
Links (leaf number key value) rec = rec ≡ a_leaf number
Links (node number fixed body) rec = (rec ≡ a_node number) ⊎ Links body rec
Links (fork position left right) rec = Links left rec ⊎ Links right rec

-- The present life of a record, since it was last free. It was not linked (`Out`). Or it is linked since a version. Or it was linked from
-- the version `since` to the version `last`.
pub data Life : Type 0 where
  Out : Life
  Linked : (since : ℕ) → Life
  Retired : (since last : ℕ) → Life

-- This version is one in which a record with this life is or was linked. `now` is the newest version.
abbrev pub Spans : (now : ℕ) → (life : Life) → (version : ℕ) → Type 0
Spans now Out version = ⊥
Spans now (Linked since) version = (since ≤ version) × (version ≤ now)
Spans now (Retired since last) version = (since ≤ version) × (version ≤ last)

-- The last version of a life, where `now` is the newest version. A record that is linked, or is not linked since it was free, has `now`.
abbrev pub last_of : (now : ℕ) → (life : Life) → ℕ
last_of now Out = now
last_of now (Linked since) = now
last_of now (Retired since last) = last

-- The versions of a life are in order, and none is later than `now`. The last one of a retired record is before `now`.
abbrev pub IsLived : (now : ℕ) → (life : Life) → Type 0
IsLived now Out = Unit {0}
IsLived now (Linked since) = since ≤ now
IsLived now (Retired since last) = (since ≤ last) × (last < now)

-- The versions so far. The newest one is number `now`, and what `version` has past it doesn't count.
pub record Past : Type 0 where
  pub now : ℕ
  pub version : ℕ → Option Tree

-- The words of the records, the entry at the root, the versions so far, and each record's life. Of each pinned pass it has the version of
-- its pin.
pub record State : Type 0 where
  pub heap : Heap
  pub root : Option Entry
  pub past : Past
  pub open past use *
  pub life : Rec → Life
  pub pin : ℕ → Option ℕ

-- In this version the record stands in the tree, and `part` is the part of the tree that begins with it.
pub record Stands (past : Past) (version : ℕ) (rec : Rec) (part : Tree) : Type 0 where
  pub tree : Tree
  pub is_version : past.version version ≡ Some tree
  pub within : Within part tree
  pub is_record : IsRecord rec part

-- Two trees that begin with one record, in two versions, have in common what the record keeps. A leaf has the same key in both. A node has
-- the same fixed words in both, and the same forks with the same stems (`Kin`).
abbrev pub IsSameRecord : (first second : Tree) → Type 0
IsSameRecord (leaf number key value) (leaf other_number other_key other_value) = key ≡ other_key
IsSameRecord (node number fixed body) (node other_number other_fixed other_body) = (fixed ≡ other_fixed) × Kin body other_body
IsSameRecord first second = ⊥

-- The words show this tree from the root's entry on, or no tree where the root has none.
abbrev pub IsTop : (heap : Heap) → (root : Option Entry) → (tree : Option Tree) → Type 0
IsTop heap None None = Unit {0}
IsTop heap None (Some tree) = ⊥
IsTop heap (Some entry) None = ⊥
IsTop heap (Some entry) (Some tree) = (subtrie tree ≡ Place entry) × IsShown heap tree

-- Each record that was linked in a version from `since` on is still in the life that it had in that version.
abbrev pub IsReach : (state : State) → (since : ℕ) → Type 0
IsReach state since =
    (version : ℕ) → since ≤ version → version ≤ state.now → (rec : Rec) (tree : Tree) → Stands state.past version rec tree → Spans state.now (state.life rec) version

-- What holds in each lawful state of the words, the versions and the lives of records.
pub record IsLawfulState (state : State) : Type 0 where
  -- each version is a bit trie of lawful nodes, or empty
  pub trees : (version : ℕ) (tree : Tree) → version ≤ state.now → state.version version ≡ Some tree → IsTrie tree × IsBuilt tree
  -- the words show the newest version
  pub top : IsTop state.heap state.root (state.version state.now)
  -- the versions of each life are in order
  pub lived : (rec : Rec) → IsLived state.now (state.life rec)
  -- a record is linked in each version of its life
  pub alive : (rec : Rec) (version : ℕ) → Spans state.now (state.life rec) version → (part : Tree) × Stands state.past version rec part
  -- what is linked now is in its life
  pub present : IsReach state state.now
  -- a record's words are those of the last version of its life
  pub frozen : (rec : Rec) (part : Tree) → Spans state.now (state.life rec) (last_of state.now (state.life rec)) →
      Stands state.past (last_of state.now (state.life rec)) rec part → IsCopied state.heap part
  -- a record's fixed words and stems are those of each version of its life
  pub same : (rec : Rec) (version : ℕ) (part last_part : Tree) → Spans state.now (state.life rec) version → Stands state.past version rec part →
      Stands state.past (last_of state.now (state.life rec)) rec last_part → IsSameRecord part last_part
  -- what was linked in a version since a pass's pin is still in the life of that version
  pub reach : (pass since : ℕ) → state.pin pass ≡ Some since → IsReach state since

-- The key is in no leaf of this version.
abbrev pub IsAbsent : (past : Past) → (version : ℕ) → (key : Key) → Type 0
IsAbsent past version key = (tree : Tree) → past.version version ≡ Some tree → Has tree key → ⊥

-- The key was absent in a version from `since` on.
abbrev pub WasAbsentSince : (past : Past) → (since : ℕ) → (key : Key) → Type 0
WasAbsentSince past since key = (version : ℕ) × (since ≤ version) × (version ≤ past.now) × IsAbsent past version key

-- What a search for the key knows of an entry to which it was led. In a version from `since` on the entry's record stood in the tree, with
-- the entry's height. The key agreed with the record's stem there, or was absent in a version from `since` on.
abbrev pub IsLed : (past : Past) → (since : ℕ) → (key : Key) → (entry : Entry) → Type 0
IsLed past since key entry =
    (version : ℕ) × (tree : Tree) × (since ≤ version) × (version ≤ past.now) × Stands past version (rec_of entry) tree × (subtrie tree ≡ Place entry) ×
    (Follows key tree ⊎ WasAbsentSince past since key)

-- The subtrie's first fork is at this position or later, or the subtrie has no fork.
abbrev pub FirstForkIsFrom : (position : ℕ) → (trie : Subtrie) → Type 0
FirstForkIsFrom position (Place entry) = Unit {0}
FirstForkIsFrom position (Fork fork_position left right) = position ≤ fork_position

-- In a version from `since` on the entry's record stood in the tree, and all keys below it there have the property P.
abbrev pub StoodWithKeys : (past : Past) → (since : ℕ) → (P : Key → Type 0) → (entry : Entry) → Type 0
StoodWithKeys past since P entry =
    (version : ℕ) × (tree : Tree) × (since ≤ version) × (version ≤ past.now) × Stands past version (rec_of entry) tree × (subtrie tree ≡ Place entry) ×
    ((key : Key) → Has tree key → P key)

-- The record stands in the tree of this version, which may be empty.
abbrev pub IsLinked : Option Tree → Rec → Type 0
IsLinked None rec = ⊥
IsLinked (Some tree) rec = Links tree rec

-- The given versions, but with this tree as the version of this number.
abbrev pub with_version : (versions : ℕ → Option Tree) → (number : ℕ) → (tree : Option Tree) → (version : ℕ) → Option Tree
with_version versions number tree version = if nat_eq version number then tree else versions version

-- The key had the value in a version from `since` on.
abbrev pub IsHeldSince : (past : Past) → (since : ℕ) → (key : Key) → (value : ℕ) → Type 0
IsHeldSince past since key value = (version : ℕ) × (tree : Tree) × (since ≤ version) × (version ≤ past.now) × (past.version version ≡ Some tree) × Holds tree key value

-- The key was held in each version from `since` on.
abbrev pub IsKeptSince : (past : Past) → (since : ℕ) → (key : Key) → Type 0
IsKeptSince past since key = (version : ℕ) → since ≤ version → version ≤ past.now → (tree : Tree) × (past.version version ≡ Some tree) × Has tree key

-- In all versions from `since` on, a node has the same fixed words and stems, and a leaf the same key. Each version, also before `since`,
-- is a bit trie of lawful nodes, or empty.
pub record KeepsFixedWordsSince (past : Past) (since : ℕ) : Type 0 where
  pub trees : (version : ℕ) (tree : Tree) → version ≤ past.now → past.version version ≡ Some tree → IsTrie tree × IsBuilt tree
  pub same : (rec : Rec) (version other_version : ℕ) (part other_part : Tree) → since ≤ version → version ≤ past.now → since ≤ other_version →
      other_version ≤ past.now → Stands past version rec part → Stands past other_version rec other_part →
      IsSameRecord part other_part
