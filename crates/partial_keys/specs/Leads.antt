-- What a search of sparse partial keys finds: the place to which the forks of a shown piece lead.
use Rattle.std.specs.Prelude.{Bool, List, ℕ, ◌%◌, ◌≡◌}
use Rattle.partial_keys.specs.Rows.{IsHighest, complies, dense_bit, dense_of, with_unused}
use Rattle.partial_keys.specs.Shows.{ShowsPiece}
use Rattle.node_tries.specs.Highest.{highest}
use Rattle.node_tries.specs.Piece.{Piece, leads_to}

-- The padded rows are those of a piece and unused ones behind them. In each piece with these rows the forks lead to this slot by the bits
-- of the dense key.
abbrev pub IsPlaceForDense : (padded_rows : List ℕ) → (dense slot : ℕ) → Type 0
IsPlaceForDense padded_rows dense slot =
    (columns rows entries : List ℕ) (piece : Piece ℕ) → ShowsPiece columns rows entries piece → padded_rows ≡ with_unused rows →
    slot ≡ leads_to (dense_bit columns dense) piece

-- The padded rows are those of a piece and unused ones behind them. In each piece with these rows the forks lead to this slot by a key's
-- bits. The dense key has these bits at the columns.
abbrev pub IsPlaceForKey : (padded_rows : List ℕ) → (dense slot : ℕ) → Type 0
IsPlaceForKey padded_rows dense slot =
    (columns rows entries : List ℕ) (piece : Piece ℕ) (bit : ℕ → Bool) → ShowsPiece columns rows entries piece → padded_rows ≡ with_unused rows →
    dense ≡ dense_of columns bit → slot ≡ leads_to bit piece

-- The slot is the highest whose row complies with the dense key. So it is where the forks lead by a key's bits, if the dense key was
-- gathered from these. By the dense key's own bits they lead there if its lowest bit is 0. Then no unused row, which is all ones, complies.
pub record IsFound (padded_rows : List ℕ) (dense slot : ℕ) : Type 0 where
  pub value : slot ≡ highest (complies dense) padded_rows
  pub highest : IsHighest padded_rows dense slot
  pub leads : dense % 2 ≡ 0 → IsPlaceForDense padded_rows dense slot
  pub leads_key : IsPlaceForKey padded_rows dense slot
