-- What an insertion does to a trie's nodes, by the case of the one that it affects.
use Rattle.std.specs.Prelude.{◌≡◌, ℕ, Bool, length, Some, MatchOption, true}
use Rattle.key_bits.specs.Bits.{IsFirstDifference}
use Rattle.tries.specs.Keys.{Key}
use Rattle.tries.specs.Search.{found}
use Rattle.tries.specs.Tree.{Tree}
use Rattle.plain_trie_records.specs.Cases.{AddsByCase, IsNewNode}
use Rattle.plain_trie.specs.Views.{PlainView, shown_tree}

-- if a fork rises from the root, the new root is a new node
abbrev pub MakesRoot : (old new : PlainView) → (up : Bool) → Type 0
MakesRoot old new up = up ≡ true → MatchOption new.top ⊥ (IsNewNode (length old.nodes))

-- What the addition of an absent key, in the next leaf record, changed in a trie that had a tree. The key first differs at some position
-- from the key of the leaf where its search ends. The nodes were changed by the case of the node that this position affects, and by what
-- rose from it. A fork that rose from the root is in a new node.
abbrev pub TakesCase : (old new : PlainView) → (key : Key) → Type 0
TakesCase old new key =
    (tree : Tree) → shown_tree old ≡ Some tree →
    (position : ℕ) × IsFirstDifference key (found key tree).key position ×
    ((up : Bool) × AddsByCase old.nodes new.nodes key position (length old.leaves) tree up × MakesRoot old new up)
