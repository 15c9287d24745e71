-- Rows with a new column, and with a new fork.
use Rattle.std.specs.Prelude.{Bool, List, [], bit_or, cond, map, slice_index, ℕ, ◌%◌, ◌*◌, ◌++◌, ◌+◌, ◌-◌, ◌/◌, ◌^◌, ◌∷◌}

-- The row with 0 in a new column before the column of this number. The columns from there on move down by one bit, and the lowest bit is
-- lost.
abbrev pub spread_row : (column row : ℕ) → ℕ
spread_row column row = row / 2 ^ (32 - column) * 2 ^ (32 - column) + row % 2 ^ (32 - column) / 2

-- The rows of an affected part, and that of a new entry, under a new fork whose column has the bit `weight`. If `bit` is true, the new row
-- is last and has that bit. Else it is first, and the old rows have that bit. All else in the new row is as in the first old one.
abbrev pub forked_rows : (weight : ℕ) → (bit : Bool) → (rows : List ℕ) → List ℕ
forked_rows weight bit rows =
    let first = slice_index rows 0 in cond bit (rows ++ bit_or first weight ∷ []) (first ∷ map (λ row. bit_or row weight) rows)
