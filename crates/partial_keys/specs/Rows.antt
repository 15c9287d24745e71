-- The rows (sparse partial keys) of a piece over columns, as numbers of 32 bits.
use Rattle.std.specs.Int.{bit_at}
use Rattle.std.specs.Prelude.{Bool, List, bit_and, eqb, false, length, map, replicate, slice_index, ℕ, ◌++◌, ◌-◌, ◌<◌, ◌≡◌}
use Rattle.key_bits.specs.Gather.{gathered}
use Rattle.node_tries.specs.Piece.{Piece, paths}
use Rattle.node_tries.specs.Positions.{has, front_below}

-- the dense key: the bits of a key at all columns, where column j is bit 31 - j
abbrev pub dense_of : List ℕ → (ℕ → Bool) → ℕ
dense_of columns bit = gathered bit columns

-- the row of an entry, by its path, which tells the positions where it takes the 1 side: a 1 exactly at these columns
abbrev pub row_of : (columns path : List ℕ) → ℕ
row_of columns path = gathered (has path) columns

-- the rows of the entries of a piece, in order
abbrev pub rows_of : {A : Type 0} → List ℕ → Piece A → List ℕ
rows_of columns piece = map (row_of columns) (paths piece)

-- whether the row has a 1 only where the dense key has one
abbrev pub complies : (dense row : ℕ) → Bool
complies dense row = eqb (bit_and dense row) row

-- The row of this number is the highest that complies with the dense key.
pub record IsHighest (rows : List ℕ) (dense row : ℕ) : Type 0 where
  pub in_range : row < length rows
  pub complying : bit_and dense (slice_index rows row) ≡ slice_index rows row
  pub none_above : (higher : ℕ) → row < higher → higher < length rows → complies dense (slice_index rows higher) ≡ false

-- the rows, filled up to 32 by words of all ones
abbrev pub with_unused : List ℕ → List ℕ
with_unused rows = rows ++ replicate (32 - length rows) 4294967295

-- the bit of the dense key at a position: for column j it is bit 31 - j, and for a position that is no column the bit of the next column
abbrev pub dense_bit : (columns : List ℕ) → (dense position : ℕ) → Bool
dense_bit columns dense position = eqb (bit_at dense (31 - front_below position columns)) 1
