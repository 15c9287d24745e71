-- Sparse partial keys, each told from the one before.
use Rattle.std.specs.Prelude.{ℕ, ◌≡◌, ◌+◌, ◌-◌, ◌^◌, ◌<◌, ◌≤◌, bit_and, List, length, slice_index}
use Rattle.partial_keys.specs.Squeezed.{or_all}

-- The row may stand straight after the row `before`: it is greater, and without its lowest 1 it is not. So above that 1 both have the same
-- bits, and `before` has 0 in its place. It is the bit of the fork between the two entries.
pub record IsNextRow (before row : ℕ) : Type 0 where
  pub takes_up : bit_and row (row - 1) ≤ before
  pub goes_on : before < row

-- the first row is 0, and each later one may follow the one before
pub record IsLadder (rows : List ℕ) : Type 0 where
  pub first : slice_index rows 0 ≡ 0
  pub steps : (row : ℕ) → row + 1 < length rows → IsNextRow (slice_index rows row) (slice_index rows (row + 1))

-- The rows are those of some piece over `count` columns that uses each of them: all rows together have the highest `count` bits and no
-- others.
pub record AreSparseKeys (count : ℕ) (rows : List ℕ) : Type 0 where
  pub ladder : IsLadder rows
  pub used : or_all rows ≡ 2 ^ 32 - 2 ^ (32 - count)
