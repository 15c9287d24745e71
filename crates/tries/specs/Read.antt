-- The tree that a subtrie shows, where each of its entries shows one or nothing.
use Rattle.std.specs.Prelude.{ℕ, Option, Some, None}
use Rattle.compound_node.specs.declared.entries.Entry.{Entry}
use Rattle.node_tries.specs.Piece.{Place, Fork}
use Rattle.tries.specs.Tree.{Fixed, Subtrie, Tree, node, fork}

-- a fork of two trees; none if one of them is missing
abbrev pub join_fork : (position : ℕ) → (left right : Option Tree) → Option Tree
join_fork position (Some left) (Some right) = Some (fork position left right)
join_fork position (Some left) None = None
join_fork position None right = None

-- a node around a body; none if the body is missing
abbrev pub join_node : (number : ℕ) → (fixed : Fixed) → (body : Option Tree) → Option Tree
join_node number fixed (Some body) = Some (node number fixed body)
join_node number fixed None = None

-- The tree that a subtrie shows, where `read_entry` says what tree an entry shows, or none. It shows none if one of its entries does.
abbrev pub read_subtrie : (Entry → Option Tree) → Subtrie → Option Tree
read_subtrie read_entry (Place entry) = read_entry entry
read_subtrie read_entry (Fork position left right) = join_fork position (read_subtrie read_entry left) (read_subtrie read_entry right)
