-- Rows without one, lane by lane.
use Rattle.std.specs.Prelude.{ℕ, ◌+◌, ◌-◌, List, bit_and, cond, nat_lt, slice_index}

-- The row of the number `row` once row `at` of the first `count` rows is taken out. The rows behind row `at` move down by one, and those of
-- them before row `end` lose the bit. Behind the `count - 1` rows left it is 4,294,967,295.
abbrev pub lowered_row : (count at end bit : ℕ) → (rows : List ℕ) → (row : ℕ) → ℕ
lowered_row count at end bit rows row =
    let next = slice_index rows (row + 1) in
    cond (nat_lt row at) (slice_index rows row) (cond (nat_lt row (count - 1)) (cond (nat_lt (row + 1) end) (next - bit_and next bit) next) 4294967295)
