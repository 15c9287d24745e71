-- The entries round one that agree with it in the columns below a position.
use Rattle.std.specs.Prelude.{Bool, List, false, length, nat_eq, slice_index, true, ℕ, ◌+◌, ◌-◌, ◌/◌, ◌<◌, ◌^◌, ◌≡◌, ◌≤◌}

-- whether the two rows agree in the first `columns` columns
abbrev pub agree_in : (columns row other : ℕ) → Bool
agree_in columns row other = nat_eq (row / 2 ^ (32 - columns)) (other / 2 ^ (32 - columns))

-- From row `first` on, all rows before the row `found` agree with it in the first `columns` columns. The row before `first`, if there is
-- one, doesn't.
pub record IsRunStart (rows : List ℕ) (columns found first : ℕ) : Type 0 where
  pub in_range : first ≤ found
  pub same : (row : ℕ) → first ≤ row → row < found → agree_in columns (slice_index rows row) (slice_index rows found) ≡ true
  pub before : 0 < first → agree_in columns (slice_index rows (first - 1)) (slice_index rows found) ≡ false

-- All rows behind the row `found`, up to row `last`, agree with it in the first `columns` columns. The row behind `last`, if there is one,
-- doesn't.
pub record IsRunEnd (rows : List ℕ) (columns found last : ℕ) : Type 0 where
  pub at_least : found ≤ last
  pub in_range : last < length rows
  pub same : (row : ℕ) → found < row → row ≤ last → agree_in columns (slice_index rows row) (slice_index rows found) ≡ true
  pub after : last + 1 < length rows → agree_in columns (slice_index rows (last + 1)) (slice_index rows found) ≡ false
