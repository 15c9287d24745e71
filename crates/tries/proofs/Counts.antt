-- A tree has fewer nodes than leaves.
use Rattle.std.proofs.Common.{suc, ◌<◌, ◌++◌, length, arith}
use Rattle.std.proofs.lemmas.List.{length-append}
use Rattle.tries.specs.Tree.{Tree, leaf, node, fork, IsBuilt, IsFork}
use Rattle.tries.specs.Content.{items}
use Rattle.tries.specs.Counts.{node_numbers}

-- of the two sides of a fork each has one leaf more than nodes, so that there is one more again for a node over it
counted : (t : Tree) → IsBuilt t → (length (node_numbers t) < length (items t)) × (IsFork t → suc (length (node_numbers t)) < length (items t))
counted (leaf n k v) built = (omega arith, λ two. absurd two)
counted (node n x b) built = ((counted b built.2).1 built.0, λ two. absurd two)
counted (fork p a b) built =
    let more : suc (length (node_numbers a ++ node_numbers b)) < length (items a ++ items b) =
    omega (arith, (counted a built.0).0, (counted b built.1).0, length-append (node_numbers a) (node_numbers b), length-append (items a) (items b)) in
    (omega (arith, more), λ two. more)

pub nodes_are_fewer : (t : Tree) → IsBuilt t → length (node_numbers t) < length (items t)
nodes_are_fewer t built = (counted t built).0
