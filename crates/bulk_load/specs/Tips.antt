-- Entries with the forks between them.
use Rattle.std.specs.Prelude.{ℕ, ◌≡◌, ◌<◌, ◌+◌, ◌-◌, ◌*◌, ◌/◌, ◌^◌, List, [], ◌∷◌, ◌++◌, drop, map}
use Rattle.compound_node.specs.Nodes.{IsEntry}
use Rattle.compound_node.specs.declared.entries.Entry.{Entry}
use Rattle.node_tries.specs.Piece.{Piece, Place, Fork, RisesFrom}
use Rattle.node_tries.specs.Positions.{front_below}
use Rattle.bulk_load.specs.declared.tips.Tip.{Tip}

-- the tip of an entry behind a fork at this position
abbrev pub tip : (position : ℕ) → (entry : Entry) → Tip
tip position entry = record { fork = position; entry = entry }

-- The entries of a piece as tips, each with the position of the fork right before it. `before` is that of the fork before the whole piece.
abbrev pub tips_of : (before : ℕ) → (piece : Piece Entry) → List Tip
tips_of before (Place entry) = tip before entry ∷ []
tips_of before (Fork position left right) = tips_of before left ++ tips_of position right

-- A node may have the entry of the tip, behind a fork at the tip's position: positions of columns are below 65,535.
abbrev pub MayBeTip : Tip → Type 0
MayBeTip one = IsEntry one.entry × (one.fork < 65535)

-- The tips are those of this piece, whose forks have rising positions along each path. `before` is the position of the fork before the
-- piece.
pub record AreTipsOf (tips : List Tip) (before : ℕ) (piece : Piece Entry) : Type 0 where
  pub are : tips ≡ tips_of before piece
  pub rises : RisesFrom 0 piece

-- the entries of tips, in order
abbrev pub entries_in_tips : List Tip → List Entry
entries_in_tips tips = map (λ one. one.entry) tips

-- the positions of the forks between the tips: all but that of the first tip, whose fork stands before them
abbrev pub forks_between : List Tip → List ℕ
forks_between tips = drop 1 (map (λ one. one.fork) tips)

-- The row of the entry behind a fork at this position, from the row of the entry before it. It has the same bits at the columns before the
-- fork's, a 1 at the fork's, and 0 behind.
abbrev pub next_row : (columns : List ℕ) → (row position : ℕ) → ℕ
next_row columns row position = let column = front_below position columns in (row / 2 ^ (32 - column) * 2 + 1) * 2 ^ (31 - column)

-- The rows of the entries behind the forks at these positions, one after another. `row` is that of the entry before the first fork.
abbrev pub rows_behind : (columns : List ℕ) → (row : ℕ) → (positions : List ℕ) → List ℕ
rows_behind columns row [] = []
rows_behind columns row (position ∷ positions) = next_row columns row position ∷ rows_behind columns (next_row columns row position) positions
