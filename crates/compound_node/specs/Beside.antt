-- The place beside one, told by rows.
use Rattle.std.specs.Int.{trailing_zeros, w32}
use Rattle.std.specs.Prelude.{ℕ, ◌≡◌, ◌+◌, ◌-◌, ◌%◌, ◌<◌, List, Option, None, Some, IfSome, length, slice_index, slice_index_or}
use Rattle.compound_node.specs.Nodes.{NodeView, piece}
use Rattle.node_tries.specs.Changes.{beside}

-- The column of the fork between an entry and the one before, counted from 1, told by the entry's row: it is that of the row's lowest 1. It
-- is 0 for the first row, which is 0, and for an unused one, which is all ones.
abbrev pub column_before : ℕ → ℕ
column_before row = (32 - trailing_zeros w32 row) % 32

-- The rows round slot `at`: the one before it, its own, the one after it, and the next. Before slot 0 row 0 is taken, and 4,294,967,295
-- stands past the last.
pub record AreRowsRound (rows : List ℕ) (at before own after second : ℕ) : Type 0 where
  pub before_is : before ≡ slice_index_or rows (at - 1) 4294967295
  pub own_is : own ≡ slice_index_or rows at 4294967295
  pub after_is : after ≡ slice_index_or rows (at + 1) 4294967295
  pub second_is : second ≡ slice_index_or rows (at + 2) 4294967295

-- a found slot with the index of a column, where that column's position takes the place of the index; none stays none
abbrev pub at_columns : List ℕ → Option (ℕ × ℕ) → Option (ℕ × ℕ)
at_columns columns None = None
at_columns columns (Some found) = Some (found.0, slice_index columns found.1)

-- Take the last fork on the path to slot `at`. The result is the one slot on the fork's other side, with the index of the fork's column. It
-- is none if that side has several slots.
pub record IsBesideIn (node : NodeView) (at : ℕ) (result : Option (ℕ × ℕ)) : Type 0 where
  pub is : at_columns node.columns result ≡ beside at (piece node)
  pub in_range : IfSome result (λ found. found.1 < length node.columns)
