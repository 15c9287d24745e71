-- Rows and columns of which some are kept.
use Rattle.std.specs.Int.{bit_at}
use Rattle.std.specs.Prelude.{Bool, List, [], bit_or, eqb, length, suc, zero, ℕ, ◌%◌, ◌*◌, ◌+◌, ◌-◌, ◌/◌, ◌^◌, ◌∷◌, ◌≡◌}
use Rattle.key_bits.specs.Gather.{code}
use Rattle.node_tries.specs.Kept.{kept}

-- the `width` lowest bits of a number, the highest first
abbrev pub bits_of : (width number : ℕ) → List Bool
bits_of zero number = []
bits_of (suc width) number = eqb (bit_at number width) 1 ∷ bits_of width number

-- the 32 bits of a number, the highest first
unfoldable pub used_bits : ℕ → List Bool
used_bits used = bits_of 32 used

-- the row without the bits of those columns whose bit in `used` is 0; the bits left move up together
abbrev pub squeezed : (used row : ℕ) → ℕ
squeezed used row = code 32 (kept (bits_of 32 used) (bits_of 32 row))

-- the bits that at least one of the rows has
abbrev pub or_all : List ℕ → ℕ
or_all [] = 0
or_all (row ∷ rows) = bit_or row (or_all rows)

-- the row without the bit of the column of this number; the bits of later columns have moved up by one
abbrev pub closed_row : (column row : ℕ) → ℕ
closed_row column row = row / 2 ^ (32 - column) * 2 ^ (32 - column) + row % 2 ^ (31 - column) * 2

-- the row is one over so many columns: its bits behind them are 0
abbrev pub IsRowOver : (columns row : ℕ) → Type 0
IsRowOver columns row = (bits : List Bool) × (length bits ≡ columns) × (row ≡ code 32 bits)
