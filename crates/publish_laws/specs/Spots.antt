-- A spot whose lock a pass holds, and the entry that stands there, by what the pass knows.
use Rattle.std.specs.Prelude.{◌≡◌, ℕ, List, Some}
use Rattle.compound_node.specs.declared.entries.Entry.{Entry}
use Rattle.compound_node.specs.declared.entries.Entry.TheVariants.{Leaf, Node}
use Rattle.node_tries.specs.Piece.{Place}
use Rattle.tries.specs.Keys.{Key}
use Rattle.tries.specs.Tree.{Subtrie}
use Rattle.tries.specs.Search.{seek}
use Rattle.tries.specs.Place.{spot}
use Rattle.tries.specs.Affected.{IsLowerSubtrie}
use Rattle.versions.specs.Trades.{IsOneOf}
use Rattle.version_laws.specs.Spots.{AffectsOne}
use Rattle.rowex_core.specs.declared.event.Spot.{Spot}
use Rattle.rowex_core.specs.declared.event.Spot.TheVariants.{Root, Slot}
use Rattle.rowex_core.specs.declared.known.Known.{Known}
use Rattle.rowex_core.specs.declared.known.Locked.{Locked}
use Rattle.rowex_core.specs.Reading.{node_words_of}

-- This entry stands at the spot, which is on the key's path, and the pass has locked the spot. Either the spot is the root, and the pass
-- has locked the anchor. Or the spot is a slot of a locked node, and by that node's words the key's search takes that slot.
pub data HoldsAt (known : Known) (held : List Locked) (key : Key) (entry : Entry) : Spot → Type 0 where
  at_root : known.anchor ≡ Some (Some entry) → HoldsAt known held key entry Root
  in_node : (number slot : ℕ) (words : List ℕ) → IsOneOf (record { node = number; words = words }) held → seek key (node_words_of words).subtrie ≡ entry →
      spot key (node_words_of words).subtrie ≡ slot → HoldsAt known held key entry (Slot number slot)

-- The entry may stand at the spot in place of the one there: at the root any may, and in a node one that is lower than the node.
abbrev pub FitsAt : {known : Known} {held : List Locked} {key : Key} {old : Entry} {at : Spot} → HoldsAt known held key old at → Entry → Type 0
FitsAt (at_root root) entry = Unit {0}
FitsAt (in_node number slot words has names place) entry = IsLowerSubtrie (node_words_of words).fixed.height (Place entry)

-- What there is below an entry: for a node that is locked, the subtrie of its words, and for a leaf the leaf alone.
abbrev pub IsSubtrieBelow : (held : List Locked) → (below : Entry) → (trie : Subtrie) → Type 0
IsSubtrieBelow held (Leaf number) trie = trie ≡ Place (Leaf number)
IsSubtrieBelow held (Node number height) trie =
    (words : List ℕ) × IsOneOf (record { node = number; words = words }) held × (trie ≡ (node_words_of words).subtrie)

-- An insertion of the key, which first differs at this position, affects no more of the spot's node than the entry at the spot. At the root
-- that is so in any case.
abbrev pub AffectsSpotAlone : {known : Known} {held : List Locked} {key : Key} {old : Entry} {at : Spot} → HoldsAt known held key old at →
    (position : ℕ) → Type 0
AffectsSpotAlone (at_root root) position = Unit {0}
AffectsSpotAlone {held = held} {key = key} {old = old} (in_node number slot words has names place) position =
    (trie : Subtrie) × IsSubtrieBelow held old trie × AffectsOne position key (node_words_of words).subtrie trie

-- The entry of node `node` stands at the spot, which is locked and on the key's path. An insertion at this position affects nothing else of
-- the spot's node, and `new` is low enough for that entry's place.
pub record IsSpotOf (known : Known) (held : List Locked) (key : Key) (position node : ℕ) (new : Entry) (at : Spot) : Type 0 where
  pub height : ℕ
  pub holds : HoldsAt known held key (Node node height) at
  pub alone : AffectsSpotAlone holds position
  pub fits : FitsAt holds new
