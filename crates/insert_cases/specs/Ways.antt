-- The path of a key's search through the nodes of a tree (in names a way), and which node an insertion affects.
use Rattle.std.specs.Bool.{MatchBool}
use Rattle.std.specs.Prelude.{◌≡◌, ℕ, zero, suc, ◌<◌, List, [], ◌∷◌, Bool, true, false, ◌&&◌, nat_lt, if◌then◌else◌}
use Rattle.node_tries.specs.Piece.{size}
use Rattle.node_tries.specs.Growth.{IsAffected, affected_first}
use Rattle.tries.specs.Affected.{affected, IsLeafOrFork}
use Rattle.tries.specs.Keys.{Key, bit}
use Rattle.tries.specs.Place.{spot}
use Rattle.tries.specs.Search.{child}
use Rattle.tries.specs.Tree.{Tree, leaf, node, fork, Fixed, subtrie, first_position}
use Rattle.insert_cases.specs.declared.choice.Case.{Case}
use Rattle.insert_cases.specs.declared.choice.Case.TheVariants.{LeafPushdown, NormalInsert, Overflow}
use Rattle.insert_cases.specs.declared.choice.Choice.{Choice}
use Rattle.insert_cases.specs.declared.choice.PathNode.{PathNode}

-- the tree to which a key's search goes on from the node with which this tree begins
abbrev pub below : Key → Tree → Tree
below key (leaf number own_key value) = leaf number own_key value
below key (node number fixed inner) = child key inner
below key (fork position left right) = fork position left right

-- the tree to which a key's search has come after it went through this many nodes
abbrev pub stage : (key : Key) → (tree : Tree) → (nodes : ℕ) → Tree
stage key tree zero = tree
stage key tree (suc others) = stage key (below key tree) others

-- The path's entry tells of the node `n` with this fixed part and body: its number, height, first position and count, and the slot that the
-- key's search takes.
pub record IsStep (key : Key) (path_node : PathNode) (n : ℕ) (fixed : Fixed) (tree : Tree) : Type 0 where
  pub number : path_node.number ≡ n
  pub height : path_node.height ≡ fixed.height
  pub first : path_node.first_position ≡ first_position (subtrie tree)
  pub count : path_node.count ≡ size (subtrie tree)
  pub at : path_node.slot ≡ spot key (subtrie tree)

-- the tree begins with a node, and the path's entry tells of that node
abbrev pub IsStepAtTopNode : (key : Key) → (path_node : PathNode) → (tree : Tree) → Type 0
IsStepAtTopNode key path_node (leaf number own_key value) = ⊥
IsStepAtTopNode key path_node (node number fixed inner) = IsStep key path_node number fixed inner
IsStepAtTopNode key path_node (fork position left right) = ⊥

-- the tree is a leaf
abbrev pub IsLeaf : Tree → Type 0
IsLeaf (leaf number key value) = Unit {0}
IsLeaf (node number fixed inner) = ⊥
IsLeaf (fork position left right) = ⊥

-- the path of a key's search through a tree, down to a leaf: one step for each node
abbrev pub IsWay : (key : Key) → (tree : Tree) → (way : List PathNode) → Type 0
IsWay key tree [] = IsLeaf tree
IsWay key tree (step ∷ others) = IsStepAtTopNode key step tree × IsWay key (below key tree) others

-- Each fork on the key's path through this body is before this position. Nodes that are entries of the body are not entered.
abbrev pub WayBelow : (position : ℕ) → (key : Key) → (tree : Tree) → Type 0
WayBelow position key (leaf number own_key value) = Unit {0}
WayBelow position key (node number fixed inner) = Unit {0}
WayBelow position key (fork fork_position left right) =
    (fork_position < position) × MatchBool (bit key fork_position) (WayBelow position key right) (WayBelow position key left)

-- the body of the node with which the tree begins; a tree that begins with no node is its own body
abbrev pub body : Tree → Tree
body (leaf number key value) = leaf number key value
body (node number fixed inner) = inner
body (fork position left right) = fork position left right

-- whether the tree is a leaf
abbrev pub is_leaf : Tree → Bool
is_leaf (leaf number key value) = true
is_leaf (node number fixed inner) = false
is_leaf (fork position left right) = false

-- The case of an insertion into a node of this height and count. If just one leaf is affected (`one_leaf`), and the node is higher than 1,
-- the leaf is pushed down. Else the node gets the new leaf, and overflows if it has 32 entries.
abbrev pub case_of : (height count : ℕ) → (one_leaf : Bool) → Case
case_of height count one_leaf = if one_leaf && nat_lt 1 height then LeafPushdown else (if nat_lt count 32 then NormalInsert else Overflow)

-- The node that an insertion of the key affects, as `choice` tells it. `position` is where the key first differs from the key of the leaf
-- that its search finds. On the key's path all forks above that node are before the position. The part affected in the node is a leaf, or
-- has two entries or more.
pub record IsAffectedNode (key : Key) (position : ℕ) (tree : Tree) (choice : Choice) : Type 0 where
  pub number : ℕ
  pub fixed : Fixed
  pub inner : Tree
  pub is : stage key tree choice.level ≡ node number fixed inner
  pub above : (upper : ℕ) → upper < choice.level → WayBelow position key (body (stage key tree upper))
  pub part : IsLeafOrFork (affected position key inner)
  pub first : choice.first ≡ affected_first position (spot key (subtrie inner)) (subtrie inner)
  pub range : IsAffected (subtrie inner) position choice.first choice.last
  pub case : choice.case ≡ case_of fixed.height (size (subtrie inner)) (is_leaf (affected position key inner))
