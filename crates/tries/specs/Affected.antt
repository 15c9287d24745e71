-- Which part of a node an insertion affects, and what the insertion makes of it.
use Rattle.std.specs.Prelude.{ℕ, ◌<◌, Bool, true, false, if◌then◌else◌, nat_lt}
use Rattle.tries.specs.Keys.{Key, bit}
use Rattle.compound_node.specs.declared.entries.Entry.{Entry}
use Rattle.compound_node.specs.declared.entries.Entry.TheVariants.{Leaf, Node}
use Rattle.node_tries.specs.Piece.{Place, Fork}
use Rattle.tries.specs.Tree.{Subtrie, Tree, leaf, node, fork}

-- The part of a body that an insertion of the key affects, where the key first differs at `position`. It is what is left on the key's path
-- behind all forks before that position. A node that is an entry of the body is not entered.
abbrev pub affected : (position : ℕ) → (key : Key) → (tree : Tree) → Tree
affected position key (leaf number own_key value) = leaf number own_key value
affected position key (node number fixed body) = node number fixed body
affected position key (fork fork_position left right) =
    if nat_lt fork_position position then (if bit key fork_position then affected position key right else affected position key left) else fork fork_position left right

-- The part that an insertion affects is a leaf, or has two entries or more. It is not a single node.
abbrev pub IsLeafOrFork : Tree → Type 0
IsLeafOrFork (leaf number key value) = Unit {0}
IsLeafOrFork (node number fixed body) = ⊥
IsLeafOrFork (fork position left right) = Unit {0}

-- The part of a subtrie that an insertion of the key affects, where the key first differs at `position`. It is what is left on the key's
-- path behind all forks before that position.
abbrev pub subtrie_affected : (position : ℕ) → (key : Key) → (trie : Subtrie) → Subtrie
subtrie_affected position key (Place entry) = Place entry
subtrie_affected position key (Fork fork_position left right) =
    if nat_lt fork_position position then (if bit key fork_position then subtrie_affected position key right else subtrie_affected position key left)
    else Fork fork_position left right

-- a new fork at this position: the new entry on the side of the bit, and the subtrie on the other side
abbrev pub subtrie_forked : (bit : Bool) → (position : ℕ) → (entry : Entry) → (trie : Subtrie) → Subtrie
subtrie_forked false position entry trie = Fork position (Place entry) trie
subtrie_forked true position entry trie = Fork position trie (Place entry)

-- The subtrie with a new key's entry, where the key first differs at `position`. A new fork there has the entry on the side of the key's
-- bit, and on the other side the affected part.
abbrev pub subtrie_grown : (position : ℕ) → (key : Key) → (entry : Entry) → (trie : Subtrie) → Subtrie
subtrie_grown position key entry (Place other) = subtrie_forked (bit key position) position entry (Place other)
subtrie_grown position key entry (Fork fork_position left right) =
    if nat_lt fork_position position then (if bit key fork_position then Fork fork_position left (subtrie_grown position key entry right)
    else Fork fork_position (subtrie_grown position key entry left) right)
    else subtrie_forked (bit key position) position entry (Fork fork_position left right)

-- the subtrie is a leaf, or has two entries or more; it is not a single node
abbrev pub IsLeafOrForkSubtrie : Subtrie → Type 0
IsLeafOrForkSubtrie (Place (Leaf number)) = Unit {0}
IsLeafOrForkSubtrie (Place (Node number height)) = ⊥
IsLeafOrForkSubtrie (Fork position left right) = Unit {0}

-- all entries of the subtrie have heights below this one, where a leaf has height 0
abbrev pub IsLowerSubtrie : (height : ℕ) → (trie : Subtrie) → Type 0
IsLowerSubtrie height (Place (Leaf number)) = 0 < height
IsLowerSubtrie height (Place (Node number own_height)) = own_height < height
IsLowerSubtrie height (Fork position left right) = IsLowerSubtrie height left × IsLowerSubtrie height right

-- The subtrie has a fork, and its first fork is before this position.
abbrev pub FirstForkIsBefore : (position : ℕ) → (trie : Subtrie) → Type 0
FirstForkIsBefore position (Place entry) = ⊥
FirstForkIsBefore position (Fork fork_position left right) = fork_position < position

-- the subtrie is one entry
abbrev pub IsTipSubtrie : Subtrie → Type 0
IsTipSubtrie (Place entry) = Unit {0}
IsTipSubtrie (Fork position left right) = ⊥
