-- How many nodes a tree has beside its leaves.
use Rattle.std.specs.Prelude.{ℕ, ◌<◌, List, [], ◌∷◌, ◌++◌, length}
use Rattle.tries.specs.Tree.{Tree, leaf, node, fork, IsBuilt}
use Rattle.tries.specs.Content.{items}

-- the numbers of a tree's node records, each as often as it stands there
abbrev pub node_numbers : Tree → List ℕ
node_numbers (leaf number key value) = []
node_numbers (node number fixed body) = number ∷ node_numbers body
node_numbers (fork position left right) = node_numbers left ++ node_numbers right

-- a tree of lawful nodes, each with two entries or more, has fewer nodes than leaves
abbrev pub NodesAreFewer : Type 0
NodesAreFewer = (tree : Tree) → IsBuilt tree → length (node_numbers tree) < length (items tree)
