-- The tree that the words show, read from an entry with a bound on the depth.
use Rattle.std.specs.Prelude.{ℕ, zero, suc, Option, Some, None, if◌then◌else◌, nat_eq}
use Rattle.tries.specs.Read.{join_node, read_subtrie}
use Rattle.tries.specs.Tree.{Tree, leaf}
use Rattle.compound_node.specs.declared.entries.Entry.{Entry}
use Rattle.compound_node.specs.declared.entries.Entry.TheVariants.{Leaf, Node}
use Rattle.versions.specs.Heap.{Heap}

-- The tree that the words show from an entry on. There is none if a path below the entry has more than `depth` nodes, or a node's height is
-- not that of its entry.
abbrev pub read : (heap : Heap) → (depth : ℕ) → (entry : Entry) → Option Tree
read heap depth (Leaf number) = Some (leaf number (heap.leaves number).key (heap.leaves number).value)
read heap zero (Node number height) = None
read heap (suc depth) (Node number height) =
    if nat_eq (heap.nodes number).fixed.height height then join_node number (heap.nodes number).fixed (read_subtrie (read heap depth) (heap.nodes number).subtrie)
    else None
