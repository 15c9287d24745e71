-- A bulk load: a tree of many leaves, put into an index in which nothing has happened. Its history is that of insertions one by one, in the
-- order of the keys.
use Rattle.std.specs.Prelude.{◌≡◌, ℕ, zero, suc, ◌-◌, ◌++◌, Option, Some, None, length, map, if◌then◌else◌}
use Rattle.compound_node.specs.declared.entries.Entry.{Entry}
use Rattle.tries.specs.Tree.{Tree, leaf, node, fork, IsTrie, IsBuilt}
use Rattle.tries.specs.Content.{items}
use Rattle.versions.specs.Heap.{Heap}
use Rattle.versions.specs.State.{Past, IsTop, with_version}
use Rattle.finite_map.specs.Calls.{LegalCalls}
use Rattle.versions.specs.Told.{items_of, added_change, added_notes}
use Rattle.versions.specs.Core.{InTree, Shared}
use Rattle.versions.specs.Steps.{IsLawfulCore, at_first, is_linked}

-- The fork of two trees at this position. If one of the trees is missing, the result is the other.
abbrev pub forked : (position : ℕ) → (left right : Option Tree) → Option Tree
forked position None tree = tree
forked position (Some tree) None = Some tree
forked position (Some left) (Some right) = Some (fork position left right)

-- the tree of the first `count` leaves alone: their forks, and no nodes; none for no leaves
abbrev pub first_leaves : (tree : Tree) → (count : ℕ) → Option Tree
first_leaves (leaf number key value) zero = None
first_leaves (leaf number key value) (suc count) = Some (leaf number key value)
first_leaves (node number fixed body) count = first_leaves body count
first_leaves (fork position left right) count = forked position (first_leaves left count) (first_leaves right (count - length (items left)))

-- the tree of the first `count` leaves of a tree, if there is one
abbrev pub first_leaves_of : (tree : Option Tree) → (count : ℕ) → Option Tree
first_leaves_of None count = None
first_leaves_of (Some tree) count = first_leaves tree count

-- The versions of an index into which a tree was loaded. Version i has the first i leaves of the tree, and the last version is the tree
-- itself.
abbrev pub loaded_past : Option Tree → Past
loaded_past tree = record { now = length (items_of tree); version = with_version (first_leaves_of tree) (length (items_of tree)) tree }

-- What passes share after this pass has loaded a tree in bulk. The tree's records are in the tree since the last version, and the pass has
-- added each of its leaves, one change for each.
abbrev pub loaded_by : (shared : Shared) → (pass : ℕ) → (root : Option Entry) → (tree : Option Tree) → Shared
loaded_by shared pass root tree = record shared {
  root = root;
  past = loaded_past tree;
  changes = shared.changes ++ map (added_change pass) (items_of tree);
  fate = λ rec. if is_linked tree rec then InTree (length (items_of tree)) else shared.fate rec;
}

-- Take a bulk load of a bit trie as insertions of its leaves, in their order. They are legal calls of the pass that loads it, in a front of
-- their own changes.
abbrev pub LoadIsLegal : Type 0
LoadIsLegal =
    (pass : ℕ) (tree : Option Tree) → ((present : Tree) → tree ≡ Some present → IsTrie present) →
    LegalCalls (map (added_change pass) (items_of tree)) pass (added_notes 0 (items_of tree))

-- Let the words show a lawful tree, or no tree. The core is lawful after a bulk load of it into an index in which nothing has happened.
abbrev pub LoadIsLawful : Type 0
LoadIsLawful =
    (heap : Heap) (pass : ℕ) (root : Option Entry) (tree : Option Tree) → IsTop heap root tree →
    ((present : Tree) → tree ≡ Some present → IsTrie present × IsBuilt present) →
    IsLawfulCore (record { heap = heap; shared = loaded_by at_first pass root tree })
