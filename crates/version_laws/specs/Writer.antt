-- What a writer has ready for a publish, and what it knows of the tree below its locks.
use Rattle.key_bits.specs.Key.{IsKey}
use Rattle.std.specs.Prelude.{◌≤◌, ◌≡◌, ◌≢◌, ℕ, Some}
use Rattle.tries.specs.Keys.{Key, bit, AgreeBelow}
use Rattle.tries.specs.Tree.{Fixed, Subtrie, Tree, node, fork, Has}
use Rattle.tries.specs.Search.{seek}
use Rattle.compound_node.specs.declared.entries.Entry.TheVariants.{Leaf, Node}
use Rattle.versions.specs.Heap.{Heap}
use Rattle.versions.specs.State.{IsReach, Past, Stands, StoodWithKeys}
use Rattle.record_words.specs.declared.records.Rec.TheVariants.{Node as a_node, Leaf as a_leaf}
use Rattle.versions.specs.Core.{Ready, BareCore, view}
use Rattle.tries.specs.Content.{Item}
pub use Rattle.versions.specs.Told.{added_change, replaced_change, removed_change}

-- From the old heap to the new one, node `changed` gets this subtrie and keeps its fixed part. No other record's words change.
pub record IsSubtrieStored (old new : Heap) (changed : ℕ) (trie : Subtrie) : Type 0 where
  pub others : (other : ℕ) → other ≢ changed → old.nodes other ≡ new.nodes other
  pub leaves : (other : ℕ) → old.leaves other ≡ new.leaves other
  pub stored : new.nodes changed ≡ record { fixed = (old.nodes changed).fixed; subtrie = trie }

-- In a version from `since` on the node stood in the tree, with its first fork at `first_fork`, and one of its keys was `like`.
abbrev pub BeganAt : (past : Past) → (since first_fork : ℕ) → (like : Key) → (node : ℕ) → Type 0
BeganAt past since first_fork like number =
    (version : ℕ) × (fixed : Fixed) × (left : Tree) × (right : Tree) × (since ≤ version) × (version ≤ past.now) ×
    Stands past version (a_node number) (node number fixed (fork first_fork left right)) × Has (fork first_fork left right) like

-- A search went through a node with the subtrie `trie`, and ended at a leaf with the key `other`, in versions from `since` on. Either the
-- node's entry on the path of `key` names that leaf. Or the entry names a lower node that had some key `like`, and `other` agrees with
-- `like` before the lower node's first fork.
pub data IsWayBelow (past : Past) (since : ℕ) (key : Key) (trie : Subtrie) (other : Key) : Type 0 where
  at_leaf : (number : ℕ) → seek key trie ≡ Leaf number → StoodWithKeys past since (λ held. held ≡ other) (Leaf number) → IsWayBelow past since key trie other
  below : (number height first_fork : ℕ) (like : Key) → seek key trie ≡ Node number height → BeganAt past since first_fork like number →
      AgreeBelow first_fork like other →
      IsWayBelow past since key trie other

-- The pass has made the leaf's record ready, with the leaf's key and value as its words. The key is lawful (`IsKey`).
pub record IsNewLeaf (core : BareCore) (pass : ℕ) (item : Item) : Type 0 where
  pub key : IsKey item.key
  pub fate : core.fate (a_leaf item.number) ≡ Ready pass
  pub words : core.heap.leaves item.number ≡ record { key = item.key; value = item.value }

-- What an insertion starts from: the leaf `item` to insert, and the key `like` of the leaf at which a search ended, in a version from
-- `since` on. `mismatch` is the position at which the two keys first differ. `IsFoundBelow` says that all this is so.
pub record Newcomer : Type 0 where
  pub since : ℕ
  pub item : Item
  pub mismatch : ℕ
  pub like : Key

-- What a writer knows of node `lowest`, below which the newcomer's search ended. The pass has locked it, and the search ended below it at
-- `like`. The item's key is lawful, and first differs from `like` at `mismatch`. Each record that was in the tree in a version from the
-- newcomer's `since` on is still in the life that it had then.
pub record IsFoundBelow (core : BareCore) (pass : ℕ) (newcomer : Newcomer) (lowest : ℕ) : Type 0 where
  pub key : IsKey newcomer.item.key
  pub reach : IsReach (view core) newcomer.since
  pub lock : core.lock lowest ≡ Some pass
  pub way : IsWayBelow core.past newcomer.since newcomer.item.key (core.heap.nodes lowest).subtrie newcomer.like
  pub agree : AgreeBelow newcomer.mismatch newcomer.item.key newcomer.like
  pub differ : bit newcomer.item.key newcomer.mismatch ≢ bit newcomer.like newcomer.mismatch
