-- Which records a pass has made for what nodes become, and what rises from node to node.
use Rattle.std.specs.Prelude.{◌≡◌, ◌<◌, ◌≤◌, ◌+◌, ◌-◌, ◌↔◌, ℕ, List, [], ◌∷◌, ◌++◌, map, drop, take, length, slice_get, Option, MatchOption, IfSome, Some, reverse, Bool, true, IsTrue, if◌then◌else◌}
use Rattle.compound_node.specs.Nodes.{NodeView, height_of, piece}
use Rattle.compound_node.specs.declared.entries.Entry.{Entry}
use Rattle.compound_node.specs.declared.entries.Entry.TheVariants.{Node}
use Rattle.compound_node.specs.declared.halves.Half.{Half}
use Rattle.compound_node.specs.declared.halves.Half.TheVariants.{One, Many, Same}
use Rattle.insert_cases.specs.declared.growth.Grown.{Grown}
use Rattle.insert_cases.specs.declared.growth.Grown.TheVariants.{One as Single, Two}
use Rattle.insert_cases.specs.Grown.{GrownShows, is_whole, keeps_node}
use Rattle.insert_cases.specs.Risen.{subtrie_of}
use Rattle.insert_cases.specs.declared.raising.Risen.{Risen}
use Rattle.insert_cases.specs.declared.raising.Risen.TheVariants.{Whole, Split}
use Rattle.node_tries.specs.Changes.{AtRootFork}
use Rattle.node_tries.specs.Piece.{Place, size}
use Rattle.insert_cases.specs.declared.choice.PathNode.{PathNode}
use Rattle.versions.specs.Trades.{IsOneOf}
use Rattle.rowex_core.specs.declared.known.Known.{Known}
use Rattle.rowex_core.specs.declared.known.Locked.{Locked}
use Rattle.record_words.specs.declared.layout.Layout.{Layout}
use Rattle.record_words.specs.Node.{HasNodeWords}
use Rattle.tries.specs.Content.{Item}
use Rattle.tries.specs.Affected.{subtrie_affected, IsLeafOrForkSubtrie}
use Rattle.tries.specs.Keys.{Key}
use Rattle.tries.specs.Place.{spot}
use Rattle.tries.specs.Tree.{Subtrie}
use Rattle.version_laws.specs.Rise.{Side, entry}
use Rattle.version_laws.specs.Writer.{Newcomer}
use Rattle.record_words.specs.declared.records.Rec.{Rec}
use Rattle.record_words.specs.declared.records.Rec.TheVariants.{Node as a_node}
use Rattle.rowex_core.specs.Cores.{FitsIn}
use Rattle.rowex_core.specs.Reading.{IsPacked, node_words_of}
use Rattle.rowex_table.specs.Made.{Made, recs_of, HoldsMade}
use Rattle.rowex_table.specs.Seats.{TableView, SeatView, IsSeatOf}
use Rattle.rowex_reading.specs.Possible.{IsPossible}
use Rattle.publish_laws.specs.Rises.{made_of_node, made_of_leaf, HasFoundBelow}
use Rattle.publish_laws.specs.Stages.{HasLeaf, HasRisen, IsLockedAbove, SpellsLeaf}
use Rattle.rowex_writing.specs.locks.Going.{HasLocked}
use Rattle.rowex_writing.specs.build.Remaking.{AwaitsLeaf, IsNoHigher, subtrie_with_leaf}
use Rattle.rowex_writing.specs.declared.plan.Span.{Span}
use Rattle.rowex_writing.specs.declared.build.rising.LoadedNode.{LoadedNode}
use Rattle.rowex_writing.specs.declared.build.rising.Rise.{Rise}
use Rattle.rowex_writing.specs.declared.build.remaking.Fork.{Fork}
use Rattle.rowex_writing.specs.declared.build.remaking.NewLeaf.{NewLeaf}

-- the words of each new record are those of a node or a leaf, and fit into the record
abbrev pub AreMadePacked : Layout → List Made → Type 0
AreMadePacked layout [] = Unit {0}
AreMadePacked layout (new ∷ news) = (IsPacked new.rec new.words × FitsIn layout new.rec new.words) × AreMadePacked layout news

-- `new` is the entry for a half of a cut node, and `news` are the records made for it. A half of one entry is that entry, and needs no
-- record. A half of several gets a new node, whose parts fit into words. A half that is the whole old node keeps the old entry.
abbrev pub IsHalfMade : (old : Entry) → (half : Half) → (new : Entry) → (news : List Made) → Type 0
IsHalfMade old (One alone) new news = (new ≡ alone) × (news ≡ [])
IsHalfMade old (Many view) new news = (number : ℕ) × (new ≡ Node number view.height) × (news ≡ made_of_node number view ∷ []) × HasNodeWords view
IsHalfMade old Same new news = (new ≡ old) × (news ≡ [])

-- What rises in place of the entry `old`, once the records for it are made: one entry for one node, a fork for a cut. `after` lists these
-- records in front of `before`, the last one made first. Of a cut, the upper half's record is made first.
abbrev pub IsMadeFrom : (old : Entry) → (grown : Grown) → (risen : Risen) → (before after : List Made) → Type 0
IsMadeFrom old (Single view) (Whole alone) before after =
    (number : ℕ) × (alone ≡ Node number view.height) × (after ≡ made_of_node number view ∷ before) × HasNodeWords view
IsMadeFrom old (Two cut) (Split position zero one) before after =
    (lower : List Made) × (upper : List Made) × (position ≡ cut.position) × IsHalfMade old cut.zero zero lower × IsHalfMade old cut.one one upper ×
    (after ≡ lower ++ (upper ++ before))
IsMadeFrom old grown risen before after = ⊥

-- The node `was` gets the new leaf, and `risen` rises in its place: one entry if the node has room, else a fork. `stays` says whether the
-- node stays whole, as a side of that fork: only if the leaf's position is before the node's first fork. Nothing made is higher than the
-- node. `after` lists the records made, in front of `before`.
pub record IsGrownFrom (old : Entry) (was : NodeView) (new : NewLeaf) (risen : Risen) (stays : Bool) (before after : List Made) : Type 0 where
  pub grown : Grown
  pub shows : GrownShows was grown (subtrie_with_leaf new (piece was))
  pub whole : IsTrue (is_whole grown) ↔ (length was.entries < 32)
  pub keeps : stays ≡ keeps_node grown
  pub above : keeps_node grown ≡ true → AtRootFork (λ p zero one. new.position < p) (piece was)
  pub low : IsNoHigher was.height grown
  pub made : IsMadeFrom old grown risen before after

-- A pass is making a change. Its own records are just `news`, the last one made first, each with the words of a node or a leaf. `made`
-- lists the records by number, the first one first.
pub record IsBuilding (table : TableView) (view : SeatView) (made : List Rec) (news : List Made) : Type 0 where
  pub seat : IsSeatOf table view
  pub possible : IsPossible table.layout view.known
  pub holds : HoldsMade view.known news
  pub packed : AreMadePacked table.layout news
  pub listed : made ≡ reverse (recs_of news)

-- What is left where a further record could not be made: the pass's own records are just those that `made` lists.
pub record HasNotMade (table : TableView) (seat : SeatView) (made : List Rec) : Type 0 where
  pub news : List Made
  pub building : IsBuilding table seat made news

-- The result tells what rises in place of the loaded node with the new leaf, and whether the node stays whole. The records made are added
-- to the pass's own. Without a result, a record could not be made.
abbrev pub MakesGrown : (table : TableView) → (old new : SeatView × List Rec) → (loaded : LoadedNode) → (leaf : NewLeaf) →
    (result : Option (Risen × Bool)) → Type 0
MakesGrown table (before, made) (later, built) loaded leaf result =
    (news : List Made) (node : NodeView) → AwaitsLeaf loaded.words node leaf → IsBuilding table before made news →
    MatchOption result (HasNotMade table later built)
    (λ r. (after : List Made) × IsGrownFrom (Node loaded.number node.height) node leaf r.0 r.1 news after × IsBuilding table later built after)

-- The pass has made the record of this leaf, with the item's key and value in its words. It has no other record of its own.
pub record HasLeafMade (table : TableView) (seat : SeatView) (made : List Rec) (item : Item) : Type 0 where
  pub fresh : List ℕ
  pub spelled : SpellsLeaf item fresh
  pub building : IsBuilding table seat made (made_of_leaf item fresh ∷ [])

-- ---- on the way up

-- A pass is adding the newcomer, whose record is made. The subtrie is to take the place of what `side` names: a node's body, or the node's
-- entry. A store that does so links just the pass's own records, and unlinks the records `gone`.
pub record IsRaising (table : TableView) (seat : SeatView) (made : List Rec) (gone : List Rec) (newcomer : Newcomer) (side : Side)
    (trie : Subtrie) : Type 0 where
  pub news : List Made
  pub building : IsBuilding table seat made news
  pub leaf : HasLeaf news newcomer.item
  pub risen : HasRisen table.layout seat.known seat.known.locks news newcomer side trie gone

-- For some newcomer, what has risen is to take the place of the entry of node `number`, which is locked. The newcomer's record is made.
pub record IsRisenAt (table : TableView) (seat : SeatView) (made : List Rec) (number : ℕ) (risen : Risen) : Type 0 where
  pub gone : List Rec
  pub newcomer : Newcomer
  pub words : List ℕ
  pub locked : HasLocked seat.known number words
  pub raising : IsRaising table seat made gone newcomer (entry number) (subtrie_of risen)

-- What has risen so far is a fork of two entries. In node `above`, which is locked and higher than both, it is to take the place of the
-- entry on the newcomer's path. An insertion of the newcomer affects no other entry of that node.
pub record GetsFork (table : TableView) (seat : SeatView) (made : List Rec) (above : ℕ) (fork : Fork) : Type 0 where
  pub lower : ℕ
  pub here : IsRisenAt table seat made lower (Split fork.position fork.zero fork.one)
  pub key_is : fork.key.now ≡ here.newcomer.item.key
  pub over : IsLockedAbove seat.known.locks here.newcomer.item.key here.newcomer.mismatch above lower
  pub zero_low : height_of fork.zero < (node_words_of over.upper).fixed.height
  pub one_low : height_of fork.one < (node_words_of over.upper).fixed.height

-- no entry that rises is higher than this: the one entry, or either of the fork
abbrev pub IsLowRisen : (height : ℕ) → (risen : Risen) → Type 0
IsLowRisen height (Whole alone) = height_of alone ≤ height
IsLowRisen height (Split position zero one) = (height_of zero ≤ height) × (height_of one ≤ height)

-- what rises is a fork of two entries
abbrev pub IsSplit : Risen → Type 0
IsSplit (Whole alone) = ⊥
IsSplit (Split position zero one) = Unit {0}

-- what rises is one entry
abbrev pub IsSingle : Risen → Type 0
IsSingle (Whole alone) = Unit {0}
IsSingle (Split position zero one) = ⊥

-- Nothing that rises from the node with these words is higher than the node. A fork rises if the node was full, and one entry if it had
-- room.
pub record IsLevelRisen (words : List ℕ) (risen : Risen) : Type 0 where
  pub low : IsLowRisen (node_words_of words).fixed.height risen
  pub split : size (node_words_of words).subtrie ≡ 32 → IsSplit risen
  pub single : size (node_words_of words).subtrie < 32 → IsSingle risen

-- The entry made of what rises is at most one higher than this height: a fork becomes a node above its two entries. If what rises is one
-- entry, it is no higher.
abbrev pub IsAtMostOneHigher : (height : ℕ) → Risen → Entry → Type 0
IsAtMostOneHigher height risen made = (height_of made ≤ height + 1) × (IsSingle risen → height_of made ≤ height)

-- The entry is at most one higher than the node with these words. If that node has fewer than 32 entries, it is no higher.
abbrev pub FitsAbove : (words : List ℕ) → Entry → Type 0
FitsAbove words made =
    (height_of made ≤ (node_words_of words).fixed.height + 1) × (size (node_words_of words).subtrie < 32 → height_of made ≤ (node_words_of words).fixed.height)

-- if there is an answer and the node at index `end` of the path is locked, the answer's height allows it in that node's place (`FitsAbove`)
abbrev pub FitsOnWay : (known : Known) → (way : List PathNode) → (end : ℕ) → (answer : Option Entry) → Type 0
FitsOnWay known way end answer =
    (node : PathNode) (words : List ℕ) → slice_get way end ≡ Some node → HasLocked known node.number words → IfSome answer (FitsAbove words)

-- ---- at the lower end

-- The new leaf's record is made, and no other. The search for its key went through node `number`, which is locked, and took slot `new.slot`
-- there. What the leaf affects of that node is a leaf or several entries, never one child node alone.
pub record GetsLeaf (table : TableView) (seat : SeatView) (made : List Rec) (number : ℕ) (new : NewLeaf) : Type 0 where
  pub since : ℕ
  pub item : Item
  pub like : Key
  pub words : List ℕ
  pub key_is : new.key.now ≡ item.key
  pub leaf_is : new.number ≡ item.number
  pub made_leaf : HasLeafMade table seat made item
  pub found : HasFoundBelow seat.known seat.known.locks (record { since = since; item = item; mismatch = new.position; like = like }) number words
  pub part : IsLeafOrForkSubtrie (subtrie_affected new.position item.key (node_words_of words).subtrie)
  pub leads : spot item.key (node_words_of words).subtrie ≡ new.slot

-- the leaf of `GetsLeaf` as a newcomer: its item and position, with the key that the search for its key found
abbrev pub newcomer_of : {table : TableView} {seat : SeatView} {made : List Rec} {number : ℕ} {new : NewLeaf} →
    GetsLeaf table seat made number new → Newcomer
newcomer_of {new = new} low = record { since = low.since; item = low.item; mismatch = new.position; like = low.like }

-- the node's record, which is to be unlinked; none if the node stays whole, as a side of a fork
abbrev pub gone_unless_whole : (stays : Bool) → (number : ℕ) → List Rec
gone_unless_whole stays number = if stays then [] else a_node number ∷ []

-- ---- a span

-- The nodes of the path from index `end`, the topmost, to index `level` are locked, if they are several. Each names the next one, which is
-- lower, and an insertion of the key at this position affects no other entry of it. Those strictly between the two ends are full. All above
-- `level` are among the first `nodes` node records.
pub record IsLockedSpan (nodes : ℕ) (held : List Locked) (way : List PathNode) (key : Key) (position end level : ℕ) : Type 0 where
  pub there : (index : ℕ) (step : PathNode) → index < level → slice_get way index ≡ Some step → step.number < nodes
  pub above : (index : ℕ) (step next : PathNode) → end ≤ index → index < level → slice_get way index ≡ Some step →
      slice_get way (index + 1) ≡ Some next →
      (over : IsLockedAbove held key position step.number next.number) × ((node_words_of over.lower).fixed.height < (node_words_of over.upper).fixed.height)
  pub full : (index : ℕ) (step : PathNode) → end < index → index < level → slice_get way index ≡ Some step →
      (words : List ℕ) → IsOneOf (record { node = step.number; words = words }) held → size (node_words_of words).subtrie ≡ 32

-- What has risen is to take the place of the entry of the node at index `rise.level`, and is to rise on to the node at `rise.end`. None of
-- its entries is higher than that former node. It is a fork if it is to rise on, and one entry if the former node had room. The nodes
-- between are locked (`IsLockedSpan`).
pub record Rises (table : TableView) (seat : SeatView) (made : List Rec) (way : List PathNode) (rise : Rise) : Type 0 where
  pub step : PathNode
  pub at : slice_get way rise.level ≡ Some step
  pub upto : rise.end ≤ rise.level
  pub here : IsRisenAt table seat made step.number rise.risen
  pub key_is : rise.key.now ≡ here.newcomer.item.key
  pub low : (other : List ℕ) → HasLocked seat.known step.number other → IsLowRisen (node_words_of other).fixed.height rise.risen
  pub split : rise.end < rise.level → IsSplit rise.risen
  pub single : (other : List ℕ) → HasLocked seat.known step.number other → size (node_words_of other).subtrie < 32 → IsSingle rise.risen
  pub chain : IsLockedSpan table.layout.nodes seat.known.locks way here.newcomer.item.key here.newcomer.mismatch rise.end rise.level

-- how many nodes of the path what has risen is still to rise through
abbrev pub levels_above : Rise → ℕ
levels_above rise = rise.level - rise.end

-- the records `gone`, with the nodes of the path from index `end` to before `level` in front
abbrev pub gone_with_way : (way : List PathNode) → (end level : ℕ) → (gone : List Rec) → List Rec
gone_with_way way end level gone = map (λ (node : PathNode). a_node node.number) (drop end (take level way)) ++ gone

-- The newcomer has risen to the node at index `end` of the path: the one entry `risen` is to take the place of that node's entry. The
-- newcomer's record is made; `made` are all records to be linked then, and `gone` those to be unlinked.
abbrev pub HasRisenTo : (table : TableView) (seat : SeatView) (made : List Rec) (way : List PathNode) (newcomer : Newcomer)
    (end : ℕ) (gone : List Rec) (risen : Entry) → Type 0
HasRisenTo table seat made way newcomer end gone risen =
    (top : PathNode) × (slice_get way end ≡ Some top) × IsRaising table seat made gone newcomer (entry top.number) (Place risen)

-- The lowest node of the span gets the new leaf, and what it becomes is to rise to the span's topmost node. If these are two nodes, the
-- lowest is full. The nodes of the span are locked, each names the next, and those between are full.
pub record IsGrowing (table : TableView) (seat : SeatView) (made : List Rec) (way : List PathNode) (span : Span) (new : NewLeaf) : Type 0 where
  pub step : PathNode
  pub at : slice_get way (span.len - 1) ≡ Some step
  pub upto : span.end ≤ span.len - 1
  pub low : step.number < table.layout.nodes
  pub lowest : GetsLeaf table seat made step.number new
  pub full : span.end < span.len - 1 → size (node_words_of lowest.words).subtrie ≡ 32
  pub chain : IsLockedSpan table.layout.nodes seat.known.locks way lowest.item.key new.position span.end (span.len - 1)
