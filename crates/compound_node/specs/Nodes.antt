-- What contracts see of entries, nodes and heads.
use Rattle.std.specs.List.{All}
use Rattle.std.specs.Int.{bit_at}
use Rattle.std.specs.Prelude.{ℕ, ◌≡◌, ◌+◌, ◌-◌, ◌<◌, ◌≤◌, List, [], ◌∷◌, length, take, max, replicate, slice_index}
use Rattle.compound_node.specs.Ladders.{AreSparseKeys}
use Rattle.compound_node.specs.declared.entries.Entry.{Entry}
use Rattle.compound_node.specs.declared.entries.Entry.TheVariants.{Leaf, Node}
use Rattle.partial_keys.specs.Columns.{IsColumns}
use Rattle.partial_keys.specs.Rows.{with_unused}
use Rattle.partial_keys.specs.Shown.{piece_of}
use Rattle.partial_keys.specs.Shows.{ShowsPiece}
use Rattle.node_tries.specs.Piece.{Piece}

-- ---- entries

-- the height of an entry: 0 for a leaf, and that of a node
abbrev pub height_of : Entry → ℕ
height_of (Leaf number) = 0
height_of (Node number height) = height

-- the entry may stand in some node: it is a leaf, or a node with a height from 1 to 65,534
abbrev pub IsEntry : Entry → Type 0
IsEntry (Leaf number) = Unit {0}
IsEntry (Node number height) = (0 < height) × (height < 65535)

-- the entry may stand in a node of this height
abbrev pub StandsBelow : (height : ℕ) → (entry : Entry) → Type 0
StandsBelow height entry = IsEntry entry × (height_of entry < height)

-- the greatest height among the entries, or 0
abbrev pub greatest_height : List Entry → ℕ
greatest_height [] = 0
greatest_height (entry ∷ entries) = max (height_of entry) (greatest_height entries)

-- ---- nodes

-- What contracts see of a node: its stored height, its columns, and each entry with its row.
pub record NodeView : Type 0 where
  pub height : ℕ
  pub columns : List ℕ
  pub rows : List ℕ
  pub entries : List Entry

-- the piece of a bit trie that a node shows, with its entries
abbrev pub piece : NodeView → Piece Entry
piece node = piece_of (Leaf 0) node.columns node.rows node.entries

-- The columns, rows and entries are those of a lawful node, whatever its height: 2 to 32 entries that may stand in nodes, as many rows, and
-- lawful columns. The rows show a piece with these entries over the columns.
pub record FitTogether (columns rows : List ℕ) (entries : List Entry) : Type 0 where
  pub several : 2 ≤ length entries
  pub room : length entries ≤ 32
  pub same : length rows ≡ length entries
  pub positions : IsColumns columns
  pub shows : ShowsPiece columns rows entries (piece_of (Leaf 0) columns rows entries)
  pub children : All IsEntry entries

-- A lawful node. It has 2 to 32 entries, which may stand in nodes and are lower than this one. Its columns are lawful, and its rows show a
-- piece over them. Its height is at most 65,535.
pub record IsLawfulNode (node : NodeView) : Type 0 where
  pub several : 2 ≤ length node.entries
  pub room : length node.entries ≤ 32
  pub positions : IsColumns node.columns
  pub shows : ShowsPiece node.columns node.rows node.entries (piece node)
  pub children : All IsEntry node.entries
  pub above : All (λ entry. height_of entry < node.height) node.entries
  pub bound : node.height ≤ 65535

-- The node is lawful, and was built anew to show this piece. So its height is one above the greatest of its entries'.
pub record IsBuiltFrom (node : NodeView) (shown : Piece Entry) : Type 0 where
  pub lawful : IsLawfulNode node
  pub shows_it : piece node ≡ shown
  pub height_is : node.height ≡ 1 + greatest_height node.entries

-- the rows of the two slots have the same bit at each column whose position is below this one
abbrev pub AgreeBefore : (node : NodeView) → (position slot other_slot : ℕ) → Type 0
AgreeBefore node position slot other_slot =
    (column : ℕ) → column < length node.columns → slice_index node.columns column < position →
    bit_at (slice_index node.rows slot) (31 - column) ≡ bit_at (slice_index node.rows other_slot) (31 - column)

-- the node with these fields, where the unused rows behind those of its entries are left out
abbrev pub node_from : (height : ℕ) → (columns padded_rows : List ℕ) → (entries : List Entry) → NodeView
node_from height columns padded_rows entries = record { height = height; columns = columns; rows = take (length entries) padded_rows; entries = entries }

-- The fields are those of a lawful node. Each unused row is 4,294,967,295.
pub record IsNode (height : ℕ) (columns padded_rows : List ℕ) (entries : List Entry) : Type 0 where
  pub padded : padded_rows ≡ with_unused (take (length entries) padded_rows)
  pub lawful : IsLawfulNode (node_from height columns padded_rows entries)

-- ---- heads

-- What contracts see of a head: the stored height, the columns and the rows of a node.
pub record HeadView : Type 0 where
  pub height : ℕ
  pub columns : List ℕ
  pub rows : List ℕ

-- the head of a node: all but its entries
abbrev pub head_of : NodeView → HeadView
head_of node = record { height = node.height; columns = node.columns; rows = node.rows }

-- `IsSo` holds of each lawful node with this head
abbrev pub InEachNode : HeadView → (NodeView → Type 0) → Type 0
InEachNode head IsSo = (node : NodeView) → IsLawfulNode node → head_of node ≡ head → IsSo node

-- the node of this head and these entries
abbrev pub node_of : HeadView → List Entry → NodeView
node_of head entries = record { height = head.height; columns = head.columns; rows = head.rows; entries = entries }

-- some lawful node with `count` entries has this height, these columns and these rows, filled up by unused ones
abbrev pub IsHead : (count height : ℕ) → (columns padded_rows : List ℕ) → Type 0
IsHead count height columns padded_rows = (entries : List Entry) × (length entries ≡ count) × IsNode height columns padded_rows entries

-- so many entries, each of them leaf 0, where the entries of a node don't matter
abbrev pub leaves : ℕ → List Entry
leaves count = replicate count (Leaf 0)

-- A lawful node of `count` leaves has this head. `padded_rows` are the head's rows, filled up by unused ones.
pub record FitsHead (count : ℕ) (padded_rows : List ℕ) (head : HeadView) : Type 0 where
  pub padded : padded_rows ≡ with_unused head.rows
  pub counted : length head.rows ≡ count
  pub lawful : IsLawfulNode (node_of head (leaves count))

-- Some head for `count` entries, 2 to 32, has these columns and rows, whatever its height. The rows are filled up by unused ones, and those
-- used are of a piece that uses each column.
pub record FitsWords (count : ℕ) (columns padded_rows : List ℕ) : Type 0 where
  pub several : 2 ≤ count
  pub room : count ≤ 32
  pub positions : IsColumns columns
  pub padded : padded_rows ≡ with_unused (take count padded_rows)
  pub keys : AreSparseKeys (length columns) (take count padded_rows)
