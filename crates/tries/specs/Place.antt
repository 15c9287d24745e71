-- The slots of a subtrie, and what becomes of a subtrie when an entry is exchanged or taken out.
use Rattle.std.specs.Prelude.{ℕ, ◌+◌, ◌-◌, if◌then◌else◌, nat_lt, Bool, true, false, Option, None, Some}
use Rattle.tries.specs.Keys.{Key, bit}
use Rattle.compound_node.specs.declared.entries.Entry.{Entry}
use Rattle.compound_node.specs.declared.entries.Entry.TheVariants.{Leaf}
use Rattle.tries.specs.Tree.{Subtrie}
use Rattle.node_tries.specs.Piece.{Place, Fork, size}

-- The slot to which a key's search leads in a subtrie.
abbrev pub spot : Key → Subtrie → ℕ
spot key (Place entry) = 0
spot key (Fork position left right) = if bit key position then size left + spot key right else spot key left

-- the entry in a slot
abbrev pub entry_at : (trie : Subtrie) → (slot : ℕ) → Entry
entry_at (Place entry) slot = entry
entry_at (Fork position left right) slot = if nat_lt slot (size left) then entry_at left slot else entry_at right (slot - size left)

-- The subtrie with another entry in one slot.
abbrev pub with_entry : (trie : Subtrie) → (slot : ℕ) → (entry : Entry) → Subtrie
with_entry (Place old) slot entry = Place entry
with_entry (Fork position left right) slot entry =
    if nat_lt slot (size left) then Fork position (with_entry left slot entry) right else Fork position left (with_entry right (slot - size left) entry)

-- The forks of a subtrie, with leaf 0 in place of each entry. They are what a node's fixed words show.
abbrev pub shape : Subtrie → Subtrie
shape (Place entry) = Place (Leaf 0)
shape (Fork position left right) = Fork position (shape left) (shape right)

-- The two subtries have the same forks, and differ in the entry of one slot at most.
pub data Swap : Subtrie → Subtrie → Type 0 where
  swap : {e f : Entry} → Swap (Place e) (Place f)
  in_zero : {p : ℕ} {a b c : Subtrie} → Swap a c → Swap (Fork p a b) (Fork p c b)
  in_one : {p : ℕ} {a b c : Subtrie} → Swap b c → Swap (Fork p a b) (Fork p a c)

-- The subtrie `trie`, with `other` in place of the entry to which the key's search leads.
abbrev pub with_subtrie : (key : Key) → (other trie : Subtrie) → Subtrie
with_subtrie key other (Place entry) = other
with_subtrie key other (Fork position left right) =
    if bit key position then Fork position left (with_subtrie key other right) else Fork position (with_subtrie key other left) right

-- A fork of `left` and `right` after one entry was taken out of the side of the bit. `rest` is what is left of that side. If the side was
-- that entry alone, nothing of it is left, and the result is the other side.
abbrev pub joined : (position : ℕ) → (bit : Bool) → (left right rest : Subtrie) → Subtrie
joined position true left (Place entry) rest = left
joined position true left (Fork below zero one) rest = Fork position left rest
joined position false (Place entry) right rest = right
joined position false (Fork below zero one) right rest = Fork position rest right

-- A subtrie without the entry to which a key's search leads, and without the last fork on the key's path. A subtrie of one entry stays as
-- it is.
abbrev pub subtrie_without : Key → Subtrie → Subtrie
subtrie_without key (Place entry) = Place entry
subtrie_without key (Fork position left right) =
    joined position (bit key position) left right (if bit key position then subtrie_without key right else subtrie_without key left)

-- One step of `subtrie_sibling`, at a fork on the key's path. If the fork's side of the bit is one entry, the fork is the path's last: the
-- result is its position and its other side. Else the result is `below`, which was found farther down.
abbrev pub side_beside : (position : ℕ) → (bit : Bool) → (left right : Subtrie) → (below : Option (ℕ × Subtrie)) → Option (ℕ × Subtrie)
side_beside position true left (Place entry) below = Some (position, left)
side_beside position true left (Fork lower zero one) below = below
side_beside position false (Place entry) right below = Some (position, right)
side_beside position false (Fork lower zero one) right below = below

-- the last fork on a key's path: its position, and the subtrie on its other side; none if the subtrie is one entry
abbrev pub subtrie_sibling : Key → Subtrie → Option (ℕ × Subtrie)
subtrie_sibling key (Place entry) = None
subtrie_sibling key (Fork position left right) =
    side_beside position (bit key position) left right (if bit key position then subtrie_sibling key right else subtrie_sibling key left)

-- One step of `subtrie_collapsed`, at a fork on the key's path. If the fork's side of the bit is one entry, the fork is the path's last,
-- and the new entry takes its place. Else `below` takes the place of that side.
abbrev pub fork_closed : (position : ℕ) → (bit : Bool) → (entry : Entry) → (left right below : Subtrie) → Subtrie
fork_closed position true entry left (Place old) below = Place entry
fork_closed position true entry left (Fork lower zero one) below = Fork position left below
fork_closed position false entry (Place old) right below = Place entry
fork_closed position false entry (Fork lower zero one) right below = Fork position below right

-- the subtrie with this entry in place of the last fork on the key's path, and of all below that fork; a subtrie of one entry stays as it
-- is
abbrev pub subtrie_collapsed : (key : Key) → (entry : Entry) → (trie : Subtrie) → Subtrie
subtrie_collapsed key entry (Place old) = Place old
subtrie_collapsed key entry (Fork position left right) =
    fork_closed position (bit key position) entry left right
    (if bit key position then subtrie_collapsed key entry right else subtrie_collapsed key entry left)

-- A fork of two subtries: `first` on the side of the bit, `second` on the other.
abbrev pub fork_of : (bit : Bool) → (position : ℕ) → (first second : Subtrie) → Subtrie
fork_of false position first second = Fork position first second
fork_of true position first second = Fork position second first
