-- What a place that is taken out does to the rows.
use Rattle.std.specs.Prelude.{ℕ, ◌+◌, ◌-◌, bit_and, cond, nat_eq, nat_lt, ◌&&◌, ◌||◌, List, [], ◌∷◌, ◌++◌, length, take, drop, slice_index}

-- the lowest 1 of a row, which is that of the fork between the row's entry and the one before
abbrev pub lowest : ℕ → ℕ
lowest row = row - bit_and row (row - 1)

-- The bit that rows behind a slot lose when the slot is taken out, or 0 for none. With the slot goes the last fork on its path. If the slot
-- is that fork's 0 side, the rows of the fork's 1 side lose its bit. Else no row loses a bit.
abbrev pub bit_after : (slot : ℕ) → (rows : List ℕ) → ℕ
bit_after slot rows =
    let next = slice_index rows (slot + 1) in
    cond (nat_lt (slot + 1) (length rows) && (nat_eq slot 0 || nat_lt (lowest next) (lowest (slice_index rows slot)))) (lowest next) 0

-- the rows, where those at the front that have the bit lose it, up to the first that hasn't
abbrev pub cleared_front : (bit : ℕ) → (rows : List ℕ) → List ℕ
cleared_front bit [] = []
cleared_front bit (row ∷ rows) = cond (nat_eq (bit_and row bit) 0) (row ∷ rows) ((row - bit_and row bit) ∷ cleared_front bit rows)

-- the rows without the row of this number; the last fork on its entry's path goes with it
abbrev pub removed_row : (row : ℕ) → (rows : List ℕ) → List ℕ
removed_row row rows = take row rows ++ cleared_front (bit_after row rows) (drop (row + 1) rows)
