-- The words of a node record.
use Rattle.std.specs.List.{All, range_with_len}
use Rattle.std.specs.Prelude.{ℕ, ◌≡◌, ◌<◌, ◌≤◌, ◌++◌, List, Option, Some, None, drop, length, map, slice_get}
use Rattle.compound_node.specs.declared.entries.Entry.{Entry}
use Rattle.compound_node.specs.Nodes.{NodeView, HeadView, IsBuiltFrom, IsEntry, IsLawfulNode, StandsBelow, head_of, piece}
use Rattle.node_tries.specs.Changes.{beside}
use Rattle.node_tries.specs.Growth.{IsAffected}
use Rattle.node_tries.specs.Piece.{Piece, Place}
use Rattle.record_words.specs.Entry.{HasEntryWord, entry_word}
use Rattle.record_words.specs.Packed.{fixed_words}
use Rattle.partial_keys.specs.declared.TheConstants.{MAX_ENTRIES}
use Rattle.record_words.specs.declared.TheConstants.{HEAD_WORDS}

-- the words of a head, at offsets 1 to HEAD_WORDS of a node record
abbrev pub head_words : HeadView → List ℕ
head_words head = fixed_words (length head.rows) head.height head.columns head.rows

-- the head is that of some lawful node, so it can be encoded
abbrev pub HasHeadWords : HeadView → Type 0
HasHeadWords head = (node : NodeView) × IsLawfulNode node × (head_of node ≡ head)

-- `IsSo` holds of each lawful node whose head has these words
abbrev pub InNodesOf : List ℕ → (NodeView → Type 0) → Type 0
InNodesOf words IsSo = (node : NodeView) → IsLawfulNode node → head_words (head_of node) ≡ words → IsSo node

-- The words of a node's entries, from offset FIRST_ENTRY of its record on. There is one for each slot, and 0 for a slot without an entry.
unfoldable pub entry_words : List Entry → List ℕ
entry_words entries = map (λ slot. entry_word (slice_get entries slot)) (range_with_len 0 MAX_ENTRIES)

-- The entries can be encoded, and are at most MAX_ENTRIES.
pub record HaveEntryWords (entries : List Entry) : Type 0 where
  pub room : length entries ≤ MAX_ENTRIES
  pub each : (slot : ℕ) → HasEntryWord (slice_get entries slot)

-- the words of a node record behind its state, at offsets 1 to NODE_FIELDS
abbrev pub node_words : NodeView → List ℕ
node_words node = head_words (head_of node) ++ entry_words node.entries

-- The node can be encoded: it is lawful, and each of its entries has a word.
pub record HasNodeWords (node : NodeView) : Type 0 where
  pub lawful : IsLawfulNode node
  pub entries : HaveEntryWords node.entries

-- ---- words that get a new leaf

-- the node has leaves alone, and room for one more entry
abbrev pub CanTakeLeaf : NodeView → Type 0
CanTakeLeaf node = (node.height ≡ 1) × (length node.entries < MAX_ENTRIES)

-- The words encode the node, which has leaves alone and room for one more. A fork at `position` will part the new leaf from the entries in
-- slots `first` to `last`, which are those affected.
pub record CanGrowAt (words : List ℕ) (node : NodeView) (position first last : ℕ) : Type 0 where
  pub has : HasNodeWords node
  pub spells : node_words node ≡ words
  pub takes : CanTakeLeaf node
  pub range : IsAffected (piece node) position first last

-- The new words begin with those of this head. Behind the head they are the old ones, so the entries stay.
abbrev pub HasHead : (old new : List ℕ) → HeadView → Type 0
HasHead old new head = new ≡ head_words head ++ drop HEAD_WORDS old

-- The words encode a node that was built anew to show this piece.
pub record SpellBuilt (words : List ℕ) (shown : Piece Entry) : Type 0 where
  pub node : NodeView
  pub has : HasNodeWords node
  pub spells : node_words node ≡ words
  pub built : IsBuiltFrom node shown

-- ---- words that lose an entry

-- The words encode these entries, all of which can stand in a node of this height.
pub record SpellEntries (height : ℕ) (words : List ℕ) (entries : List Entry) : Type 0 where
  pub spells : map (λ entry. entry_word (Some entry)) entries ≡ words
  pub each : All (λ entry. HasEntryWord (Some entry)) entries
  pub stand : All (StandsBelow height) entries

-- The words encode the node, which is to lose the entry in slot `at`. The entry in slot `sibling` alone is on the other side of the last
-- fork on the path to slot `at`, which stands at `position`. `entry`, which is to take that fork's place, may stand in the node.
pub record CanCloseAt (words : List ℕ) (node : NodeView) (at sibling : ℕ) (entry : Entry) : Type 0 where
  pub has : HasNodeWords node
  pub spells : node_words node ≡ words
  pub in_range : at < length node.entries
  pub position : ℕ
  pub is_beside : beside at (piece node) ≡ Some (sibling, position)
  pub stands : StandsBelow node.height entry

-- What is left of a node shows this piece. It is the one entry `left`, or a node that was built anew, which the words encode.
abbrev pub SpellLeft : (words : List ℕ) → (left : Option Entry) → (shown : Piece Entry) → Type 0
SpellLeft words (Some entry) shown = (shown ≡ Place entry) × IsEntry entry
SpellLeft words None shown = SpellBuilt words shown
