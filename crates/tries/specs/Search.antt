-- Where a key's search leads; what the keys of a tree have in common; the bodies of one node in two versions.
use Rattle.std.specs.Prelude.{◌≡◌, ◌⊎◌, ℕ, ◌+◌, ◌-◌, if◌then◌else◌, nat_lt}
use Rattle.tries.specs.Keys.{Key, bit, AgreeBelow}
use Rattle.tries.specs.Tree.{Subtrie, Tree, leaf, node, fork, subtrie, Has, IsTip}
use Rattle.node_tries.specs.Piece.{Place, Fork, size}
use Rattle.compound_node.specs.declared.entries.Entry.{Entry}
use Rattle.tries.specs.Content.{Item}

-- The key agrees with the tree's stem: before the first fork it has the bits that all keys of the tree have there. Of a leaf, which has no
-- fork, it has the whole key.
abbrev pub Follows : Key → Tree → Type 0
Follows key (leaf number own_key value) = key ≡ own_key
Follows key (node number fixed body) = Follows key body
Follows key (fork position left right) = (other : Key) → Has left other ⊎ Has right other → AgreeBelow position key other

-- The tree that stands in the slot of a body to which a key's search leads.
abbrev pub child : Key → Tree → Tree
child key (leaf number own_key value) = leaf number own_key value
child key (node number fixed body) = node number fixed body
child key (fork position left right) = if bit key position then child key right else child key left

-- the leaf at which a key's search through the tree ends
abbrev pub found : Key → Tree → Item
found key (leaf number own_key value) = record { number = number; key = own_key; value = value }
found key (node number fixed body) = found key body
found key (fork position left right) = if bit key position then found key right else found key left

-- The entry of a subtrie to which a key's search leads.
abbrev pub seek : Key → Subtrie → Entry
seek key (Place entry) = entry
seek key (Fork position left right) = if bit key position then seek key right else seek key left

-- Two bodies of one node in two versions: they have the same forks, and any entries. At each fork, each key below it in the one body agrees
-- with each key below it in the other before the fork's position.
pub data Kin : Tree → Tree → Type 0 where
  tips : {a b : Tree} → IsTip a → IsTip b → Kin a b
  forks : {p : ℕ} {a b c d : Tree} → ((key other : Key) → Has a key ⊎ Has b key → Has c other ⊎ Has d other → AgreeBelow p key other) →
      Kin a c → Kin b d → Kin (fork p a b) (fork p c d)

-- The position of the fork that parts two slots of a subtrie, where `first` is the lower slot; 0 if no fork parts them.
abbrev pub between : (trie : Subtrie) → (first second : ℕ) → ℕ
between (Place entry) first second = 0
between (Fork position left right) first second =
    if nat_lt second (size left) then between left first second
    else (if nat_lt first (size left) then position else between right (first - size left) (second - size left))

-- The key is in the tree that stands in this slot of the body. Nothing is in a slot past the last.
abbrev pub IsUnder : (tree : Tree) → (slot : ℕ) → (key : Key) → Type 0
IsUnder (leaf number own_key value) slot key = (slot ≡ 0) × Has (leaf number own_key value) key
IsUnder (node number fixed body) slot key = (slot ≡ 0) × Has (node number fixed body) key
IsUnder (fork position left right) slot key = IsUnder left slot key ⊎ ((inner : ℕ) × (slot ≡ size (subtrie left) + inner) × IsUnder right inner key)
