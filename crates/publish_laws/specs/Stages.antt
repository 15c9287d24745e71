-- What a writer has before its publish, by lists of its locks and of the records that it makes.
use Rattle.std.specs.Prelude.{◌≡◌, ℕ, List, Some, map}
use Rattle.compound_node.specs.declared.entries.Entry.TheVariants.{Leaf, Node}
use Rattle.node_tries.specs.Piece.{Place}
use Rattle.record_words.specs.declared.layout.Layout.{Layout}
use Rattle.record_words.specs.Leaf.{HasLeafWords, leaf_words, up_to_key}
use Rattle.tries.specs.Keys.{Key, bit}
use Rattle.tries.specs.Tree.{Subtrie}
use Rattle.tries.specs.Search.{seek}
use Rattle.tries.specs.Place.{fork_of, subtrie_sibling, subtrie_without}
use Rattle.tries.specs.Content.{Item}
use Rattle.record_words.specs.declared.records.Rec.{Rec}
use Rattle.record_words.specs.declared.records.Rec.TheVariants.{Leaf as a_leaf}
use Rattle.versions.specs.State.{Past}
use Rattle.versions.specs.Trades.{IsOneOf}
use Rattle.version_laws.specs.Spots.{AffectsOne}
use Rattle.version_laws.specs.Rise.{Side, IsRise, linked_by_rise, unlinked_by_rise}
use Rattle.version_laws.specs.Writer.{Newcomer}
use Rattle.rowex_core.specs.declared.known.Holding.TheVariants.{Ready}
use Rattle.rowex_core.specs.declared.known.Known.{Known}
use Rattle.rowex_core.specs.declared.known.Locked.{Locked}
use Rattle.rowex_core.specs.Reading.{node_words_of, leaf_of}
use Rattle.rowex_core.specs.Cores.{Core, IsLawful, bare}
use Rattle.rowex_core.specs.Sharing.{IsOwned, IsLocked}
use Rattle.rowex_core.specs.Knowing.{Recalls}
use Rattle.rowex_table.specs.Made.{Made, held_as, recs_of}

-- The pass is sure of the property: it holds of the past of each lawful core in which the pass's front, facts and pin are true. That past
-- may have versions that the pass hasn't seen.
abbrev pub IsSure : Known → (Past → Type 0) → Type 0
IsSure known P = (core : Core) → IsLawful core → Recalls core known → P core.past

-- A core at which the pass may publish: it is lawful, and has this layout. What the pass has seen, its facts and its pin are true there. It
-- has locked the nodes `held`, and has made the records `news` ready, all with these words.
pub record IsStage (layout : Layout) (known : Known) (held : List Locked) (news : List Made) (core : Core) : Type 0 where
  pub lawful : IsLawful core
  pub layout_is : core.layout ≡ layout
  pub recalls : Recalls core known
  pub locks : (lock : Locked) → IsOneOf lock held → IsLocked known.pass core lock
  pub made : (new : Made) → IsOneOf new news → IsOwned known.pass core (held_as Ready new)

-- The pass has just the locks `held`, and just the records `news`, which it has made ready.
pub record HasReady (known : Known) (held : List Locked) (news : List Made) : Type 0 where
  pub locks : known.locks ≡ held
  pub own : known.own ≡ map (held_as Ready) news

-- The words of a leaf record are those of this item's key and value, up to the end of the key. Those behind the key don't matter.
abbrev pub SpellsLeaf : (item : Item) → (words : List ℕ) → Type 0
SpellsLeaf item words = HasLeafWords (item.key, item.value) × (leaf_words (item.key, item.value) ≡ up_to_key words)

-- One of the new records is the item's leaf.
abbrev pub HasLeaf : List Made → Item → Type 0
HasLeaf news item = (words : List ℕ) × IsOneOf (record { rec = a_leaf item.number; words = words }) news × SpellsLeaf item words

-- In each core at which the pass may publish, an insertion puts the subtrie in place of what `side` names: a node's body, or the node's
-- entry. Just the records `news` are then linked, the one made last first, and just the records `gone` are unlinked.
abbrev pub HasRisen : (layout : Layout) → (known : Known) → (held : List Locked) → (news : List Made) → (newcomer : Newcomer) →
    (side : Side) → (trie : Subtrie) → (gone : List Rec) → Type 0
HasRisen layout known held news newcomer side trie gone = (core : Core) → IsStage layout known held news core →
    (rise : IsRise (bare core) known.pass newcomer side trie) × (linked_by_rise rise ≡ recs_of news) × (unlinked_by_rise rise ≡ gone)

-- Two nodes are locked, and by their words the entry of node `above` on the key's path names node `node`. An insertion at this position
-- affects no more of node `above` than that entry.
pub record IsLockedAbove (held : List Locked) (key : Key) (position above node : ℕ) : Type 0 where
  pub upper : List ℕ
  pub lower : List ℕ
  pub has_upper : IsOneOf (record { node = above; words = upper }) held
  pub has_lower : IsOneOf (record { node = node; words = lower }) held
  pub height : ℕ
  pub entry : seek key (node_words_of upper).subtrie ≡ Node node height
  pub path : AffectsOne position key (node_words_of upper).subtrie (node_words_of lower).subtrie

-- Three nodes are locked, as a merge asks. On the key's path, node `above` names node `node`, and node `node` names leaf `number`. In node
-- `above`, the last fork on the path, at `position`, has just the entry of node `beside` on its other side.
pub record AreBeside (held : List Locked) (key : Key) (above node beside number : ℕ) : Type 0 where
  pub upper : List ℕ
  pub lower : List ℕ
  pub other : List ℕ
  pub has_upper : IsOneOf (record { node = above; words = upper }) held
  pub has_lower : IsOneOf (record { node = node; words = lower }) held
  pub has_other : IsOneOf (record { node = beside; words = other }) held
  pub leaf : seek key (node_words_of lower).subtrie ≡ Leaf number
  pub height : ℕ
  pub entry : seek key (node_words_of upper).subtrie ≡ Node node height
  pub position : ℕ
  pub other_height : ℕ
  pub sibling : subtrie_sibling key (node_words_of upper).subtrie ≡ Some (position, Place (Node beside other_height))

-- The subtrie that a merge makes: a fork of what is left of the lower node without the leaf, and of all of the node beside it. The fork is
-- the one that parted the two in the node above, with the lower node's part on the side of the key's bit.
abbrev pub merged : {held : List Locked} {key : Key} {above node beside number : ℕ} → AreBeside held key above node beside number → Subtrie
merged {key = key} three =
    fork_of (bit key three.position) three.position (subtrie_without key (node_words_of three.lower).subtrie) (node_words_of three.other).subtrie

-- In each core at which the pass may publish, leaf `number` has this key.
abbrev pub IsLeafThere : (layout : Layout) → (known : Known) → (held : List Locked) → (news : List Made) → (number : ℕ) → (key : Key) →
    Type 0
IsLeafThere layout known held news number key = (core : Core) → IsStage layout known held news core → (leaf_of (core.words (a_leaf number))).key ≡ key

-- The pass has loaded this value of the leaf, and has since neither locked, unlocked, published nor marked. So if what names the leaf is
-- locked by the pass, the leaf still has the value.
abbrev pub HasLoaded : (known : Known) → (leaf value : ℕ) → Type 0
HasLoaded known leaf value = IsOneOf (record { leaf = leaf; value = value }) known.values
