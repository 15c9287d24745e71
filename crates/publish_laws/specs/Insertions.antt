-- Each case of an insertion below a node: which records it makes, what it may publish, and which nodes are unlinked.
use Rattle.std.specs.Prelude.{◌≡◌, ℕ, List, [], ◌∷◌, ◌++◌, None}
use Rattle.compound_node.specs.Nodes.{NodeView, piece}
use Rattle.compound_node.specs.declared.entries.Entry.{Entry}
use Rattle.compound_node.specs.declared.entries.Entry.TheVariants.{Leaf, Node}
use Rattle.node_tries.specs.Piece.{Place, Fork}
use Rattle.record_words.specs.declared.layout.Layout.{Layout}
use Rattle.tries.specs.Keys.{bit}
use Rattle.tries.specs.Tree.{Subtrie}
use Rattle.tries.specs.Place.{with_subtrie}
use Rattle.tries.specs.Affected.{subtrie_affected, subtrie_forked, subtrie_grown, IsLeafOrForkSubtrie}
use Rattle.record_words.specs.declared.records.Rec.{Rec}
use Rattle.record_words.specs.declared.records.Rec.TheVariants.{Node as a_node}
use Rattle.versions.specs.State.{FirstForkIsFrom}
use Rattle.version_laws.specs.Writer.{added_change, Newcomer}
use Rattle.version_laws.specs.Rise.{entry}
use Rattle.rowex_core.specs.declared.event.Spot.{Spot}
use Rattle.rowex_core.specs.declared.known.Known.{Known}
use Rattle.rowex_core.specs.declared.known.Locked.{Locked}
use Rattle.rowex_core.specs.Reading.{node_words_of}
use Rattle.rowex_table.specs.Made.{Made}
use Rattle.rowex_table.specs.Publishes.{Publishes}
use Rattle.publish_laws.specs.Stages.{HasReady, HasLeaf, HasRisen, IsLockedAbove, SpellsLeaf}
use Rattle.publish_laws.specs.Spots.{IsSpotOf}
use Rattle.publish_laws.specs.Rises.{made_of_node, made_of_leaf, IsBuiltAnew, IsSide, HasFoundBelow}
use Rattle.publish_laws.specs.Cases.{IsWord}

-- An insertion may store the one entry that has risen from a node, at the locked spot where that node's own entry stands. That adds the
-- key, and unlinks the records `gone`.
abbrev pub Insertion : Type 0
Insertion =
    (layout : Layout) (known : Known) (held : List Locked) (news : List Made) (gone : List Rec) → HasReady known held news → (newcomer : Newcomer) →
    (node word : ℕ) (risen : Entry) (at : Spot) →
    -- the entry has risen from the node, and the new leaf is among the new records
    HasRisen layout known held news newcomer (entry node) (Place risen) gone → HasLeaf news newcomer.item →
    -- the node stands at the spot, where the entry may stand in its place, and this is the entry's word
    IsSpotOf known held newcomer.item.key newcomer.mismatch node risen at → IsWord risen word →
    Publishes layout known at word (added_change known.pass newcomer.item) None gone

-- A normal insert may store a copy of the node with the new leaf in it. That adds the key, and unlinks the old node.
abbrev pub NormalInsert : Type 0
NormalInsert =
    (layout : Layout) (known : Known) (held : List Locked) (newcomer : Newcomer) (fresh : List ℕ) →
    (node new_node word : ℕ) (words : List ℕ) (view : NodeView) (at : Spot) →
    -- just two records are made and ready: the new node and the new leaf
    HasReady known held (made_of_node new_node view ∷ made_of_leaf newcomer.item fresh ∷ []) → SpellsLeaf newcomer.item fresh →
    -- the search went through the old node, and the part affected in it is a leaf, or has two entries or more
    HasFoundBelow known held newcomer node words →
    IsLeafOrForkSubtrie (subtrie_affected newcomer.mismatch newcomer.item.key (node_words_of words).subtrie) →
    -- the new node shows the old one with the new leaf in it
    IsBuiltAnew view → piece view ≡ subtrie_grown newcomer.mismatch newcomer.item.key (Leaf newcomer.item.number) (node_words_of words).subtrie →
    -- the old node stands at the spot, where the new one may take its place; this is the word of the new one's entry
    IsSpotOf known held newcomer.item.key newcomer.mismatch node (Node new_node view.height) at → IsWord (Node new_node view.height) word →
    Publishes layout known at word (added_change known.pass newcomer.item) None (a_node node ∷ [])

-- An overflow may cut a full node, with the new leaf in it, at its first fork. It stores a new node of the two halves: an intermediate node
-- or, at the root, a new root. That adds the key, and unlinks the old node.
abbrev pub Overflow : Type 0
Overflow =
    (layout : Layout) (known : Known) (held : List Locked) (newcomer : Newcomer) (fresh : List ℕ) →
    (node new_node word position : ℕ) (words : List ℕ) (view : NodeView) (at : Spot) →
    (left right : Subtrie) (left_entry right_entry : Entry) (left_news right_news : List Made) →
    -- just these records are made and ready: the new node, those of the two halves, and the new leaf
    HasReady known held (made_of_node new_node view ∷ (left_news ++ (right_news ++ made_of_leaf newcomer.item fresh ∷ []))) →
    SpellsLeaf newcomer.item fresh →
    -- the search went through the old node, and the part affected in it is a leaf, or has two entries or more
    HasFoundBelow known held newcomer node words →
    IsLeafOrForkSubtrie (subtrie_affected newcomer.mismatch newcomer.item.key (node_words_of words).subtrie) →
    -- with the new leaf in it, the old node has these two halves, each with its entry
    subtrie_grown newcomer.mismatch newcomer.item.key (Leaf newcomer.item.number) (node_words_of words).subtrie ≡ Fork position left right →
    IsSide left left_entry left_news →
    IsSide right right_entry right_news →
    -- the new node shows the fork of those two entries
    IsBuiltAnew view → piece view ≡ Fork position (Place left_entry) (Place right_entry) →
    -- the old node stands at the spot, where the new one may take its place; this is the word of the new one's entry
    IsSpotOf known held newcomer.item.key newcomer.mismatch node (Node new_node view.height) at → IsWord (Node new_node view.height) word →
    Publishes layout known at word (added_change known.pass newcomer.item) None (a_node node ∷ [])

-- Let a new key differ from the keys below a node at a position that isn't behind the node's first fork. Then a new node of the old node
-- and the new leaf may be stored in the old one's place. That adds the key, and unlinks nothing.
abbrev pub MayKeepNodeWhole : Type 0
MayKeepNodeWhole =
    (layout : Layout) (known : Known) (held : List Locked) (newcomer : Newcomer) (fresh : List ℕ) →
    (node new_node word : ℕ) (words : List ℕ) (view : NodeView) (at : Spot) →
    -- just two records are made and ready: the new node and the new leaf
    HasReady known held (made_of_node new_node view ∷ made_of_leaf newcomer.item fresh ∷ []) → SpellsLeaf newcomer.item fresh →
    -- the search went through the old node, whose first fork isn't before the newcomer's position
    HasFoundBelow known held newcomer node words →
    FirstForkIsFrom newcomer.mismatch (node_words_of words).subtrie →
    -- the new node shows a fork of the new leaf and the old node
    IsBuiltAnew view →
    piece view ≡ subtrie_forked (bit newcomer.item.key newcomer.mismatch) newcomer.mismatch (Leaf newcomer.item.number)
    (Place (Node node (node_words_of words).fixed.height)) →
    -- the old node stands at the spot, where the new one may take its place; this is the word of the new one's entry
    IsSpotOf known held newcomer.item.key newcomer.mismatch node (Node new_node view.height) at → IsWord (Node new_node view.height) word →
    Publishes layout known at word (added_change known.pass newcomer.item) None []

-- A pull up may store a copy of the node above, with what has risen from below in it. What has risen may come from any number of levels
-- below. The node above is unlinked, with the nodes `gone`, which are those of the levels below.
abbrev pub PullUp : Type 0
PullUp =
    (layout : Layout) (known : Known) (held : List Locked) (news : List Made) (gone : List Rec) (newcomer : Newcomer) (above node new_node word : ℕ) →
    (risen : Subtrie) (view : NodeView) (at : Spot) →
    -- just these records are made and ready: the new node, and those of what has risen
    HasReady known held (made_of_node new_node view ∷ news) →
    -- the subtrie `risen` has risen from the lower node, and the new leaf is among the new records
    HasRisen layout known held news newcomer (entry node) risen gone → HasLeaf news newcomer.item →
    -- node `above` is locked and names the lower node; the new node shows node `above` with what has risen in it
    (up : IsLockedAbove held newcomer.item.key newcomer.mismatch above node) → IsBuiltAnew view →
    piece view ≡ with_subtrie newcomer.item.key risen (node_words_of up.upper).subtrie →
    -- node `above` stands at the spot, where the new node may take its place; this is the word of the new one's entry
    IsSpotOf known held newcomer.item.key newcomer.mismatch above (Node new_node view.height) at → IsWord (Node new_node view.height) word →
    Publishes layout known at word (added_change known.pass newcomer.item) None (a_node above ∷ gone)

-- A pull up may end in a node that is full. With what has risen in it, that node is cut at its first fork, and a new node of its two halves
-- takes its place. It is unlinked, with the nodes `gone` of the levels below.
abbrev pub PullUpOverflow : Type 0
PullUpOverflow =
    (layout : Layout) (known : Known) (held : List Locked) (news : List Made) (gone : List Rec) (newcomer : Newcomer)
    (above node new_node word position : ℕ) →
    (risen left right : Subtrie) (left_entry right_entry : Entry) (left_news right_news : List Made) (view : NodeView) (at : Spot) →
    -- just these records are made and ready: the new node, those of the two halves, and those of what has risen
    HasReady known held (made_of_node new_node view ∷ (left_news ++ (right_news ++ news))) →
    -- the subtrie `risen` has risen from the lower node, and the new leaf is among the new records
    HasRisen layout known held news newcomer (entry node) risen gone → HasLeaf news newcomer.item →
    -- node `above` is locked and names the lower node; with what has risen in it, it has these two halves, each with its entry
    (up : IsLockedAbove held newcomer.item.key newcomer.mismatch above node) →
    with_subtrie newcomer.item.key risen (node_words_of up.upper).subtrie ≡ Fork position left right → IsSide left left_entry left_news →
    IsSide right right_entry right_news →
    -- the new node shows the fork of those two entries
    IsBuiltAnew view →
    piece view ≡ Fork position (Place left_entry) (Place right_entry) →
    -- node `above` stands at the spot, where the new node may take its place; this is the word of the new one's entry
    IsSpotOf known held newcomer.item.key newcomer.mismatch above (Node new_node view.height) at → IsWord (Node new_node view.height) word →
    Publishes layout known at word (added_change known.pass newcomer.item) None (a_node above ∷ gone)
