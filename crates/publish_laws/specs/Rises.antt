-- An insertion below a locked node: its new records, what is known of the lowest node, and of the nodes above.
use Rattle.std.specs.Prelude.{◌≡◌, ◌≢◌, ℕ, ◌+◌, List, [], ◌∷◌}
use Rattle.compound_node.specs.Nodes.{NodeView, piece, greatest_height}
use Rattle.compound_node.specs.declared.entries.Entry.{Entry}
use Rattle.compound_node.specs.declared.entries.Entry.TheVariants.{Node}
use Rattle.node_tries.specs.Piece.{Place}
use Rattle.record_words.specs.declared.layout.Layout.{Layout}
use Rattle.record_words.specs.Node.{HasNodeWords, node_words}
use Rattle.record_words.specs.Leaf.{HasLeafWords}
use Rattle.tries.specs.Keys.{Key, bit, AgreeBelow}
use Rattle.tries.specs.Tree.{Subtrie}
use Rattle.tries.specs.Content.{Item}
use Rattle.tries.specs.Affected.{FirstForkIsBefore}
use Rattle.record_words.specs.declared.records.Rec.TheVariants.{Node as a_node, Leaf as a_leaf}
use Rattle.versions.specs.Trades.{IsOneOf}
use Rattle.version_laws.specs.Writer.{IsWayBelow, Newcomer}
use Rattle.rowex_core.specs.declared.known.Known.{Known}
use Rattle.rowex_core.specs.declared.known.Locked.{Locked}
use Rattle.rowex_core.specs.Reading.{node_words_of}
use Rattle.rowex_core.specs.Cores.{Core}
use Rattle.rowex_table.specs.Made.{Made}
use Rattle.publish_laws.specs.Stages.{IsSure, IsStage, IsLockedAbove}
use Rattle.rowex_core.specs.Knowing.{IsPinnedSince}

-- New records

-- a new node record of this number, with the words of this node
abbrev pub made_of_node : (number : ℕ) → (view : NodeView) → Made
made_of_node number view = record { rec = a_node number; words = node_words view }

-- a new leaf record of the item's number, with these words
abbrev pub made_of_leaf : (item : Item) → (words : List ℕ) → Made
made_of_leaf item words = record { rec = a_leaf item.number; words = words }

-- The node's parts fit into words, and its height is one above the greatest of its entries.
abbrev pub IsBuiltAnew : NodeView → Type 0
IsBuiltAnew view = HasNodeWords view × (view.height ≡ 1 + greatest_height view.entries)

-- The entry that stands for the subtrie, and the records made for it. For a subtrie of one entry it is that entry, and no record is made.
-- For any other it is the entry of a new node that shows the subtrie.
pub data IsSide (trie : Subtrie) : Entry → List Made → Type 0 where
  one : (entry : Entry) → trie ≡ Place entry → IsSide trie entry []
  anew : (number : ℕ) (view : NodeView) → IsBuiltAnew view → piece view ≡ trie → IsSide trie (Node number view.height) (made_of_node number view ∷ [])

-- The lowest node

-- The search for the newcomer's key went through this locked node, with these words, and ended at a leaf with the key `newcomer.like`. The
-- two keys first differ at the newcomer's position. The pass's pin is no later than the newcomer's version. A leaf can hold the newcomer's
-- key and value.
pub record HasFoundBelow (known : Known) (held : List Locked) (newcomer : Newcomer) (node : ℕ) (words : List ℕ) : Type 0 where
  pub leaf : HasLeafWords (newcomer.item.key, newcomer.item.value)
  pub pinned : IsPinnedSince known newcomer.since
  pub locked : IsOneOf (record { node = node; words = words }) held
  pub way : IsSure known (λ past. IsWayBelow past newcomer.since newcomer.item.key (node_words_of words).subtrie newcomer.like)
  pub agree : AgreeBelow newcomer.mismatch newcomer.item.key newcomer.like
  pub differ : bit newcomer.item.key newcomer.mismatch ≢ bit newcomer.like newcomer.mismatch

-- Further up

-- Let an insertion affect no more of node `above`, which is locked, than its entry for the node below. Then the first fork of node `above`
-- is before the insertion's position. So when what rises goes on through node `above`, only one entry of the next node up is affected, too.
abbrev pub AboveGoesOn : Type 0
AboveGoesOn =
    (layout : Layout) (known : Known) (held : List Locked) (news : List Made) (core : Core) → IsStage layout known held news core →
    (key : Key) (position above node : ℕ) (names : IsLockedAbove held key position above node) →
    FirstForkIsBefore position (node_words_of names.upper).subtrie
