-- What records show where a node gave way to what an entry added below it has made.
use Rattle.std.specs.Prelude.{◌≡◌, ◌≢◌, ◌⊎◌, ℕ, ◌+◌, List, [], ◌∷◌, ◌++◌, slice_get, slice_set, Some}
use Rattle.node_tries.specs.Changes.{AtRootFork}
use Rattle.node_tries.specs.Piece.{Place, places}
use Rattle.compound_node.specs.Nodes.{NodeView, piece, IsLawfulNode, greatest_height}
use Rattle.compound_node.specs.declared.entries.Entry.{Entry}
use Rattle.compound_node.specs.declared.entries.Entry.TheVariants.{Node}
use Rattle.compound_node.specs.declared.halves.Half.{Half}
use Rattle.compound_node.specs.declared.halves.Half.TheVariants.{One, Many, Same}
use Rattle.tries.specs.Tree.{Subtrie, first_position}
use Rattle.insert_cases.specs.declared.raising.Risen.{Risen}
use Rattle.insert_cases.specs.declared.raising.Risen.TheVariants.{Whole, Split}

-- The entry names a record whose lawful node shows the subtrie, and has that node's height. Either this is one above the greatest height of
-- the subtrie's entries. Or the height and the first position are those of the old node.
pub record IsNamed (nodes : List NodeView) (old : NodeView) (entry : Entry) (shown : Subtrie) : Type 0 where
  pub number : ℕ
  pub view : NodeView
  pub at : slice_get nodes number ≡ Some view
  pub is : entry ≡ Node number view.height
  pub lawful : IsLawfulNode view
  pub shows : piece view ≡ shown
  pub height : (view.height ≡ 1 + greatest_height (places shown)) ⊎
      ((view.height ≡ old.height) × (first_position (piece view) ≡ first_position (piece old)))

-- the entry stands for the subtrie: it is all of the subtrie, or names a node that shows it
abbrev pub StandsForSubtrie : (nodes : List NodeView) → (old : NodeView) → (entry : Entry) → (shown : Subtrie) → Type 0
StandsForSubtrie nodes old entry shown = (shown ≡ Place entry) ⊎ IsNamed nodes old entry shown

-- What has risen shows this subtrie. One entry names a node that shows it. A fork has its root fork's position, and its two entries stand
-- for the root fork's sides.
abbrev pub RisenShows : (nodes : List NodeView) → (old : NodeView) → (risen : Risen) → (shown : Subtrie) → Type 0
RisenShows nodes old (Whole entry) shown = IsNamed nodes old entry shown
RisenShows nodes old (Split position zero one) shown =
    AtRootFork (λ at left right. (position ≡ at) × StandsForSubtrie nodes old zero left × StandsForSubtrie nodes old one right) shown

-- all node records but that of this number stay, and new ones may come
abbrev pub OthersStay : (old new : List NodeView) → (number : ℕ) → Type 0
OthersStay old new number = (other : ℕ) (view : NodeView) → number ≢ other → slice_get old other ≡ Some view → slice_get new other ≡ Some view

-- all node records stay, and new ones may come
abbrev pub AllStay : (old new : List NodeView) → Type 0
AllStay old new = (number : ℕ) (view : NodeView) → slice_get old number ≡ Some view → slice_get new number ≡ Some view

-- the node records, and behind them the node of the half, if the half is a new node
abbrev pub pushed_nodes : List NodeView → Half → List NodeView
pushed_nodes nodes (One entry) = nodes
pushed_nodes nodes (Many node) = nodes ++ node ∷ []
pushed_nodes nodes Same = nodes

-- the entry of the half, if its node was added as the record of this number; `old`, the old node's entry, if the half is `Same`
abbrev pub pushed_entry : (number : ℕ) → (old : Entry) → (half : Half) → Entry
pushed_entry number old (One entry) = entry
pushed_entry number old (Many node) = Node number node.height
pushed_entry number old Same = old

-- the node records, with the node of the half in place of node record `number`, if the half is a new node
abbrev pub kept_nodes : (nodes : List NodeView) → (number : ℕ) → (half : Half) → List NodeView
kept_nodes nodes number (One entry) = nodes
kept_nodes nodes number (Many node) = slice_set nodes number node
kept_nodes nodes number Same = nodes

-- the entry of the half, if its node took the place of the record of this number; `old`, the old node's entry, if the half is `Same`
abbrev pub kept_entry : (number : ℕ) → (old : Entry) → (half : Half) → Entry
kept_entry number old (One entry) = entry
kept_entry number old (Many node) = Node number node.height
kept_entry number old Same = old
