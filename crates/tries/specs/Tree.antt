-- The tree of one version: a bit trie with marks at which records begin.
use Rattle.key_bits.specs.Key.{IsKey}
use Rattle.std.specs.Prelude.{◌≡◌, ◌⊎◌, ℕ, ◌<◌, true, false, ◌+◌, ◌*◌, ◌≤◌}
use Rattle.tries.specs.Keys.{Key, bit, AgreeBelow}
use Rattle.key_bits.specs.declared.TheConstants.{MAX_BYTES}
use Rattle.node_tries.specs.Piece.{Piece, Place, Fork, size, places}
use Rattle.partial_keys.specs.Columns.{IsColumns}
use Rattle.partial_keys.specs.Shows.{ShowsPiece}
use Rattle.compound_node.specs.Nodes.{HeadView}
use Rattle.compound_node.specs.declared.entries.Entry.{Entry}
use Rattle.compound_node.specs.declared.entries.Entry.TheVariants.{Leaf, Node}

-- What a node shows: its forks, with one of its entries at each end.
abbrev pub Subtrie : Type 0
Subtrie = Piece Entry

-- The part of a node that stays while the node is in use: all but its state and its entries.
abbrev pub Fixed : Type 0
Fixed = HeadView

-- A tree of records and forks. A node is followed by its body: the forks of the node, down to its entries. These are leaves, or further
-- nodes.
pub data Tree : Type 0 where
  leaf : (number : ℕ) (key : Key) (value : ℕ) → Tree
  node : (number : ℕ) (fixed : Fixed) (body : Tree) → Tree
  fork : (position : ℕ) (zero one : Tree) → Tree

-- What a node shows that has this tree as its body. A tree that begins with a record is one entry.
abbrev pub subtrie : Tree → Subtrie
subtrie (leaf number key value) = Place (Leaf number)
subtrie (node number fixed body) = Place (Node number fixed.height)
subtrie (fork position left right) = Fork position (subtrie left) (subtrie right)

-- A leaf of the tree has the key.
abbrev pub Has : Tree → Key → Type 0
Has (leaf number own_key value) key = key ≡ own_key
Has (node number fixed body) key = Has body key
Has (fork position left right) key = Has left key ⊎ Has right key

-- A leaf of the tree has the key and the value.
abbrev pub Holds : (tree : Tree) → (key : Key) → (value : ℕ) → Type 0
Holds (leaf number own_key value) key held = (key ≡ own_key) × (held ≡ value)
Holds (node number fixed body) key held = Holds body key held
Holds (fork position left right) key held = Holds left key held ⊎ Holds right key held

-- The tree is a bit trie. Each leaf has a key. All keys below a fork agree before its position. There they have 0 on its first side, and 1
-- on its second.
abbrev pub IsTrie : Tree → Type 0
IsTrie (leaf number key value) = IsKey key
IsTrie (node number fixed body) = IsTrie body
IsTrie (fork position left right) =
    IsTrie left × IsTrie right ×
    ((key other : Key) → Has left key ⊎ Has right key → Has left other ⊎ Has right other → AgreeBelow position key other) ×
    ((key : Key) → Has left key → bit key position ≡ false) ×
    ((key : Key) → Has right key → bit key position ≡ true)

-- The tree begins with a fork, so as a body it has two entries or more.
abbrev pub IsFork : Tree → Type 0
IsFork (fork position left right) = Unit {0}
IsFork tree = ⊥

-- The entries of this body have heights below this one, where a leaf has height 0.
abbrev pub IsLower : (height : ℕ) → (tree : Tree) → Type 0
IsLower height (leaf number key value) = 0 < height
IsLower height (node number fixed body) = fixed.height < height
IsLower height (fork position left right) = IsLower height left × IsLower height right

-- The position of a subtrie's first fork, or 0 for one entry.
abbrev pub first_position : Subtrie → ℕ
first_position (Place entry) = 0
first_position (Fork position left right) = position

-- A node's fixed part fits its subtrie. Its columns are lawful, its rows show the subtrie's forks over them, and its 32 slots have room for
-- the entries. Its height and first position add up to at most the number of positions of a key, so a height fits its 16 bits.
pub record IsFit (fixed : Fixed) (trie : Subtrie) : Type 0 where
  pub positions : IsColumns fixed.columns
  pub shows : ShowsPiece fixed.columns fixed.rows (places trie) trie
  pub room : size trie ≤ 32
  pub bound : fixed.height + first_position trie ≤ 9 * MAX_BYTES

-- Each node of the tree is lawful: it has two entries or more, a height above theirs, and a fixed part that fits its subtrie.
abbrev pub IsBuilt : Tree → Type 0
IsBuilt (leaf number key value) = Unit {0}
IsBuilt (node number fixed body) = IsFork body × IsLower fixed.height body × IsBuilt body × IsFit fixed (subtrie body)
IsBuilt (fork position left right) = IsBuilt left × IsBuilt right

-- The tree `tree` is the other tree, or stands somewhere in it.
pub data Within (tree : Tree) : Tree → Type 0 where
  here : Within tree tree
  inside : {n : ℕ} {x : Fixed} {b : Tree} → Within tree b → Within tree (node n x b)
  zero_side : {p : ℕ} {a b : Tree} → Within tree a → Within tree (fork p a b)
  one_side : {p : ℕ} {a b : Tree} → Within tree b → Within tree (fork p a b)

-- The tree begins with a record, a leaf or a node.
abbrev pub IsTip : Tree → Type 0
IsTip (fork position left right) = ⊥
IsTip tree = Unit {0}
