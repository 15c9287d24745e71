-- What a writer has before a publish: locked nodes with their subtries, new records with theirs, and what rises from the nodes.
use Rattle.std.specs.Prelude.{◌≡◌, ℕ, List, [], ◌∷◌, ◌++◌, Some}
use Rattle.tries.specs.Keys.{Key, bit}
use Rattle.compound_node.specs.declared.entries.Entry.{Entry}
use Rattle.compound_node.specs.declared.entries.Entry.TheVariants.{Leaf, Node}
use Rattle.node_tries.specs.Piece.{Place, Fork}
use Rattle.tries.specs.Tree.{Fixed, Subtrie, IsFit}
use Rattle.tries.specs.Search.{seek}
use Rattle.tries.specs.Place.{fork_of, subtrie_sibling, subtrie_without, with_subtrie}
use Rattle.tries.specs.Affected.{subtrie_affected, subtrie_forked, subtrie_grown, IsLeafOrForkSubtrie, IsLowerSubtrie, IsTipSubtrie}
use Rattle.versions.specs.State.{FirstForkIsFrom}
use Rattle.record_words.specs.declared.records.Rec.{Rec}
use Rattle.record_words.specs.declared.records.Rec.TheVariants.{Node as a_node, Leaf as a_leaf}
use Rattle.versions.specs.Core.{Ready, BareCore}
use Rattle.version_laws.specs.Writer.{IsFoundBelow, Newcomer}
use Rattle.version_laws.specs.Spots.{IsLockedNode, AffectsOne}

-- The pass has made node record `number` ready to be linked. The record's words show this fixed part and this subtrie. The subtrie has two
-- entries or more, each lower than the node, and the fixed part fits it (`IsFit`).
pub record IsNewSubtrie (core : BareCore) (pass number : ℕ) (fixed : Fixed) (trie : Subtrie) : Type 0 where
  pub fate : core.fate (a_node number) ≡ Ready pass
  pub words : core.heap.nodes number ≡ record { fixed = fixed; subtrie = trie }
  pub two : IsTipSubtrie trie → ⊥
  pub lower : IsLowerSubtrie fixed.height trie
  pub fit : IsFit fixed trie

-- The entry that stands for a subtrie in what is above. A subtrie of one entry stands for itself, since a node has two entries or more. For
-- any other it is the entry of a node that the pass has made ready, and whose words show the subtrie.
pub data IsEntryFor (core : BareCore) (pass : ℕ) (trie : Subtrie) : Entry → Type 0 where
  alone : (single : Entry) → trie ≡ Place single → IsEntryFor core pass trie single
  in_node : (number : ℕ) (fixed : Fixed) → IsNewSubtrie core pass number fixed trie → IsEntryFor core pass trie (Node number fixed.height)

-- Node `upper`, which the pass has locked in the tree, has node `lower` as its entry on the key's path. An insertion of the key, which
-- first differs at this position, affects no other entry of node `upper`.
pub record IsUpper (core : BareCore) (pass : ℕ) (key : Key) (position upper lower : ℕ) : Type 0 where
  pub locked : IsLockedNode core pass upper
  pub height : ℕ
  pub entry : seek key (core.heap.nodes upper).subtrie ≡ Node lower height
  pub path : AffectsOne position key (core.heap.nodes upper).subtrie (core.heap.nodes lower).subtrie

-- What an insertion changes of a locked node, by the node's number: its body, which has its entries, or the entry that names it from above.
pub data Side : Type 0 where
  body : ℕ → Side
  entry : ℕ → Side

-- What an insertion of the newcomer makes of a side, built from the lowest locked node upwards. At the side `body`, the subtrie is what the
-- node's body becomes. At the side `entry`, the subtrie takes the place of the node's entry: it is one entry, or a fork of two.
pub data IsRise (core : BareCore) (pass : ℕ) (newcomer : Newcomer) : Side → Subtrie → Type 0 where
  -- the new leaf goes into the lowest node, where it affects a leaf or several entries, and no single node
  grows : (lowest : ℕ) → IsFoundBelow core pass newcomer lowest →
      IsLeafOrForkSubtrie (subtrie_affected newcomer.mismatch newcomer.item.key (core.heap.nodes lowest).subtrie) →
      IsRise core pass newcomer (body lowest)
      (subtrie_grown newcomer.mismatch newcomer.item.key (Leaf newcomer.item.number) (core.heap.nodes lowest).subtrie)
  -- the node above gets what takes the place of the node below's entry
  pulls : (upper lower : ℕ) (risen : Subtrie) → IsUpper core pass newcomer.item.key newcomer.mismatch upper lower →
      IsRise core pass newcomer (entry lower) risen →
      IsRise core pass newcomer (body upper) (with_subtrie newcomer.item.key risen (core.heap.nodes upper).subtrie)
  -- the changed body goes into a new node, which replaces the old one
  copies : (old : ℕ) (grown : Subtrie) (copy : ℕ) (fixed : Fixed) → IsRise core pass newcomer (body old) grown →
      IsNewSubtrie core pass copy fixed grown →
      IsRise core pass newcomer (entry old) (Place (Node copy fixed.height))
  -- the changed body is cut at its first fork; a half of one entry stays that entry, any other becomes a new node
  halves : (old position : ℕ) (left right : Subtrie) (left_entry right_entry : Entry) → IsRise core pass newcomer (body old) (Fork position left right) →
      IsEntryFor core pass left left_entry → IsEntryFor core pass right right_entry →
      IsRise core pass newcomer (entry old) (Fork position (Place left_entry) (Place right_entry))
  -- the key first differs at or before the lowest node's first fork, so that node stays whole, and the new leaf stands beside it
  stays_whole : (lowest : ℕ) → IsFoundBelow core pass newcomer lowest → FirstForkIsFrom newcomer.mismatch (core.heap.nodes lowest).subtrie →
      IsRise core pass newcomer (entry lowest)
      (subtrie_forked (bit newcomer.item.key newcomer.mismatch) newcomer.mismatch (Leaf newcomer.item.number)
      (Place (Node lowest (core.heap.nodes lowest).fixed.height)))
  -- a fork gets a new node of its own: an intermediate node, or a new root
  wraps : (old : ℕ) (risen : Subtrie) (number : ℕ) (fixed : Fixed) → IsRise core pass newcomer (entry old) risen →
      IsNewSubtrie core pass number fixed risen →
      IsRise core pass newcomer (entry old) (Place (Node number fixed.height))

-- The record of the new node that stands for the subtrie. A subtrie of one entry needs none.
abbrev pub linked_for_entry : {core : BareCore} {pass : ℕ} {trie : Subtrie} {single : Entry} → IsEntryFor core pass trie single → List Rec
linked_for_entry (alone single is) = []
linked_for_entry (in_node number fixed new) = a_node number ∷ []

-- The records that a rise links anew, the one made last first. Of a cut, the half with bit 1 is made before the half with bit 0.
abbrev pub linked_by_rise : {core : BareCore} {pass : ℕ} {newcomer : Newcomer} {side : Side} {trie : Subtrie} → IsRise core pass newcomer side trie → List Rec
linked_by_rise {newcomer = newcomer} (grows lowest found part) = a_leaf newcomer.item.number ∷ []
linked_by_rise (pulls upper lower risen over rise) = linked_by_rise rise
linked_by_rise (copies old grown copy fixed rise new) = a_node copy ∷ linked_by_rise rise
linked_by_rise (halves old position left right d e rise for_left for_right) = linked_for_entry for_left ++ (linked_for_entry for_right ++ linked_by_rise rise)
linked_by_rise {newcomer = newcomer} (stays_whole lowest found whole) = a_leaf newcomer.item.number ∷ []
linked_by_rise (wraps old risen number fixed rise new) = a_node number ∷ linked_by_rise rise

-- The records that a rise unlinks: each node that was copied or cut, the topmost first.
abbrev pub unlinked_by_rise : {core : BareCore} {pass : ℕ} {newcomer : Newcomer} {side : Side} {trie : Subtrie} → IsRise core pass newcomer side trie → List Rec
unlinked_by_rise (grows lowest found part) = []
unlinked_by_rise (pulls upper lower risen over rise) = unlinked_by_rise rise
unlinked_by_rise (copies old grown copy fixed rise new) = a_node old ∷ unlinked_by_rise rise
unlinked_by_rise (halves old position left right d e rise for_left for_right) = a_node old ∷ unlinked_by_rise rise
unlinked_by_rise (stays_whole lowest found whole) = []
unlinked_by_rise (wraps old risen number fixed rise new) = unlinked_by_rise rise

-- Node `node`, which the pass has locked, has leaf `number` as its entry on the path of the key `sought`. The leaf's words have this key.
pub record IsLeafOf (core : BareCore) (pass : ℕ) (sought : Key) (node number : ℕ) : Type 0 where
  pub lock : core.lock node ≡ Some pass
  pub entry : seek sought (core.heap.nodes node).subtrie ≡ Leaf number
  pub key : (core.heap.leaves number).key ≡ sought

-- The pass has locked nodes `upper` and `beside`. Node `upper` has node `lower` as its entry on the key's path. The last fork on that path,
-- at `position`, has the entry of node `beside` alone on its other side.
pub record IsBesideNode (core : BareCore) (pass : ℕ) (key : Key) (upper lower beside : ℕ) : Type 0 where
  pub locked : core.lock upper ≡ Some pass
  pub height : ℕ
  pub entry : seek key (core.heap.nodes upper).subtrie ≡ Node lower height
  pub position : ℕ
  pub other_height : ℕ
  pub sibling : subtrie_sibling key (core.heap.nodes upper).subtrie ≡ Some (position, Place (Node beside other_height))
  pub locked_too : core.lock beside ≡ Some pass

-- The subtrie that a merge makes: a fork at the position where nodes `lower` and `beside` parted. On the key's side is what is left of node
-- `lower` without the key's entry, on the other side all of node `beside`.
abbrev pub subtrie_merged : (core : BareCore) (pass : ℕ) (key : Key) (upper lower beside : ℕ) → IsBesideNode core pass key upper lower beside → Subtrie
subtrie_merged core pass key upper lower beside two =
    fork_of (bit key two.position) two.position (subtrie_without key (core.heap.nodes lower).subtrie) (core.heap.nodes beside).subtrie
