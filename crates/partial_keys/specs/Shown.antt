-- What rows over columns show, read column by column.
use Rattle.std.specs.Prelude.{List, [], cond, drop, length, map, nat_eq, slice_index_or, suc, take, zero, ℕ, ◌-◌, ◌^◌, ◌∷◌}
use Rattle.node_tries.specs.Piece.{Piece, Place, Fork}
use Rattle.node_tries.specs.Positions.{front_below}

-- The piece that rows and entries show, where the first of the remaining columns is bit `width` - 1 of each row. If no row has a 1 there,
-- the other columns alone decide. If some row has, the piece is a fork: the rows with 0 show its 0 side, and the others its 1 side. When no
-- column is left, the piece is the first entry, or `alone` without entries.
abbrev pub shown : {A : Type 0} → (alone : A) → (width : ℕ) → (columns rows : List ℕ) → (entries : List A) → Piece A
shown alone width [] rows entries = Place (slice_index_or entries 0 alone)
shown alone zero (column ∷ columns) rows entries = Place (slice_index_or entries 0 alone)
shown alone (suc width) (column ∷ columns) rows entries =
    let zeros = front_below (2 ^ width) rows in
    cond (nat_eq zeros (length rows)) (shown alone width columns rows entries)
    (Fork column (shown alone width columns (take zeros rows) (take zeros entries))
    (shown alone width columns (map (λ row. row - 2 ^ width) (drop zeros rows)) (drop zeros entries)))

-- the piece that rows over these columns and entries show; the entry `alone` if there are no entries
abbrev pub piece_of : {A : Type 0} → (alone : A) → (columns rows : List ℕ) → (entries : List A) → Piece A
piece_of alone columns rows entries = shown alone 32 columns rows entries
