-- Each case of an insertion, a store of a value and a removal: from what a pass knows to its publish, and to what it knows then.
use Rattle.std.specs.Prelude.{◌≡◌, ◌≢◌, ◌++◌, ℕ, ◌<◌, ◌^◌, List, [], ◌∷◌, Some, None}
use Rattle.compound_node.specs.Nodes.{NodeView, piece}
use Rattle.compound_node.specs.declared.entries.Entry.{Entry}
use Rattle.compound_node.specs.declared.entries.Entry.TheVariants.{Leaf, Node}
use Rattle.node_tries.specs.Piece.{Place}
use Rattle.record_words.specs.declared.layout.Layout.{Layout}
use Rattle.record_words.specs.Entry.{HasEntryWord, entry_word}
use Rattle.tries.specs.Keys.{Key, bit, AgreeBelow}
use Rattle.tries.specs.Search.{seek}
use Rattle.tries.specs.Place.{subtrie_collapsed, subtrie_without}
use Rattle.tries.specs.Content.{Item, item}
use Rattle.tries.specs.Affected.{subtrie_forked}
use Rattle.record_words.specs.declared.records.Rec.TheVariants.{Node as a_node, Leaf as a_leaf}
use Rattle.versions.specs.Trades.{IsOneOf}
use Rattle.version_laws.specs.Writer.{added_change, replaced_change, removed_change}
use Rattle.rowex_core.specs.declared.event.Spot.{Spot}
use Rattle.rowex_core.specs.declared.event.Spot.TheVariants.{Root, Value}
use Rattle.rowex_core.specs.declared.known.Known.{Known}
use Rattle.rowex_core.specs.declared.known.Locked.{Locked}
use Rattle.rowex_core.specs.Reading.{node_words_of}
use Rattle.rowex_table.specs.Made.{Made}
use Rattle.rowex_table.specs.Publishes.{Publishes}
use Rattle.publish_laws.specs.Stages.{AreBeside, HasLoaded, HasReady, IsLeafThere, SpellsLeaf, merged}
use Rattle.publish_laws.specs.Spots.{HoldsAt, FitsAt, AffectsSpotAlone}
use Rattle.publish_laws.specs.Rises.{made_of_node, made_of_leaf, IsBuiltAnew, IsSide}

-- the entry has a word, and this is its word
abbrev pub IsWord : (entry : Entry) → (word : ℕ) → Type 0
IsWord entry word = HasEntryWord (Some entry) × (entry_word (Some entry) ≡ word)

-- An insertion into an empty index may store the new leaf at the root. That adds the key, and unlinks nothing.
abbrev pub MayAddFirstKey : Type 0
MayAddFirstKey =
    (layout : Layout) (known : Known) (held : List Locked) (new : Item) (fresh : List ℕ) (word : ℕ) →
    -- just the leaf's record is made and ready, and this is the word of the leaf's entry
    HasReady known held (made_of_leaf new fresh ∷ []) → SpellsLeaf new fresh → IsWord (Leaf new.number) word →
    -- the pass has locked the anchor, and knows that the root has no entry
    known.anchor ≡ Some None →
    Publishes layout known Root word (added_change known.pass new) None []

-- An insertion that affects one leaf alone may store a new node of that leaf and the new one. In a node it is a leaf pushdown, and at the
-- root it adds the second key. It adds the key, and unlinks nothing.
abbrev pub MayPair : Type 0
MayPair =
    (layout : Layout) (known : Known) (held : List Locked) (new : Item) (fresh : List ℕ)
    (position other new_node word : ℕ) (other_key : Key) (view : NodeView) (at : Spot) →
    -- just two records are made and ready: the new node and the new leaf
    HasReady known held (made_of_node new_node view ∷ made_of_leaf new fresh ∷ []) → SpellsLeaf new fresh →
    -- the other leaf stands at the spot, nothing else is affected there, and the new node may stand in its place
    (spot : HoldsAt known held new.key (Leaf other) at) → AffectsSpotAlone spot position → FitsAt spot (Node new_node view.height) →
    -- the two leaves' keys first differ at the position
    IsLeafThere layout known held (made_of_node new_node view ∷ made_of_leaf new fresh ∷ []) other other_key → AgreeBelow position new.key other_key →
    bit new.key position ≢ bit other_key position →
    -- the new node shows the fork of the two leaves, and this is the word of its entry
    IsBuiltAnew view → piece view ≡ subtrie_forked (bit new.key position) position (Leaf new.number) (Place (Leaf other)) →
    IsWord (Node new_node view.height) word →
    Publishes layout known at word (added_change known.pass new) None []

-- A new value of a held key may be stored to the leaf, under the lock of what names the leaf: a node, or the anchor. The value that it
-- replaces is the one loaded under that lock. No record comes or goes.
abbrev pub MayStoreValue : Type 0
MayStoreValue =
    (layout : Layout) (known : Known) (held : List Locked) (key : Key) (leaf word value : ℕ) (at : Spot) → HasReady known held [] →
    -- the leaf stands at the locked spot and has the key; the pass has loaded its value; the new one is a word
    HoldsAt known held key (Leaf leaf) at →
    IsLeafThere layout known held [] leaf key → HasLoaded known leaf value → word < 2 ^ 64 →
    Publishes layout known (Value leaf) word (replaced_change known.pass (item leaf key word)) (Some value) []

-- A removal may store what is left of the leaf's node, in place of the node: one entry or a new node. The value that goes is the one loaded
-- under the node's lock. Node and leaf are unlinked.
abbrev pub MayRemove : Type 0
MayRemove =
    (layout : Layout) (known : Known) (held : List Locked) (news : List Made) (key : Key) →
    (node leaf height word value : ℕ) (entry : Entry) (words : List ℕ) (at : Spot) →
    -- the entry is that of what is left of the node, and just the record that it needs, if any, is made and ready
    HasReady known held news → IsSide (subtrie_without key (node_words_of words).subtrie) entry news →
    -- the locked node has these words, and its entry on the key's path is the leaf
    IsOneOf (record { node = node; words = words }) held →
    seek key (node_words_of words).subtrie ≡ Leaf leaf →
    -- the node stands at the spot, where the entry may stand in its place
    (spot : HoldsAt known held key (Node node height) at) → FitsAt spot entry →
    -- the leaf has the key, and the pass has loaded its value; this is the entry's word
    IsLeafThere layout known held news leaf key → HasLoaded known leaf value → IsWord entry word →
    Publishes layout known at word (removed_change known.pass (item leaf key value)) (Some value) (a_node node ∷ a_leaf leaf ∷ [])

-- A removal may merge what is left of the leaf's node with the node beside it, into one new node. In the node above, the new node's entry
-- takes the place of the fork between the two. What is left of the node above, one entry or a new node, takes that node's place. The three
-- old nodes and the leaf are unlinked.
abbrev pub MayMerge : Type 0
MayMerge =
    (layout : Layout) (known : Known) (held : List Locked) (news : List Made) (key : Key) →
    (above node beside leaf merged_node height word value : ℕ) (view : NodeView) (entry : Entry) (at : Spot) →
    -- just these records are made and ready: the merged node, and that of what is left above, if that is a node
    HasReady known held (news ++ made_of_node merged_node view ∷ []) →
    -- the three locked nodes stand as a merge asks, and the merged node shows both of the lower ones
    (three : AreBeside held key above node beside leaf) → IsBuiltAnew view →
    piece view ≡ merged three →
    -- the entry is that of what is left of the node above
    IsSide (subtrie_collapsed key (Node merged_node view.height) (node_words_of three.upper).subtrie) entry news →
    -- the node above stands at the spot, where the entry may stand in its place
    (holds : HoldsAt known held key (Node above height) at) → FitsAt holds entry →
    -- the leaf has the key, and the pass has loaded its value; this is the entry's word
    IsLeafThere layout known held (news ++ made_of_node merged_node view ∷ []) leaf key →
    HasLoaded known leaf value → IsWord entry word →
    Publishes layout known at word (removed_change known.pass (item leaf key value)) (Some value)
    (a_node above ∷ a_node node ∷ a_node beside ∷ a_leaf leaf ∷ [])

-- A removal of the last key may empty the root. The pass has locked the anchor, knows that the leaf is the root, and has loaded the leaf's
-- value since. The leaf is unlinked.
abbrev pub MayRemoveLast : Type 0
MayRemoveLast =
    (layout : Layout) (known : Known) (held : List Locked) (leaf value : ℕ) (key : Key) → HasReady known held [] → known.anchor ≡ Some (Some (Leaf leaf)) →
    IsLeafThere layout known held [] leaf key → HasLoaded known leaf value →
    Publishes layout known Root 0 (removed_change known.pass (item leaf key value)) (Some value) (a_leaf leaf ∷ [])
