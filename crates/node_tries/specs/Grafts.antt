-- A piece in the place of an entry.
use Rattle.std.specs.Bool.{MatchBool}
use Rattle.std.specs.Prelude.{cond, nat_lt, ℕ, ◌-◌, ◌<◌}
use Rattle.node_tries.specs.Piece.{Piece, Place, Fork, size}

module _ {A : Type 0} where
  -- the piece with the piece `part` in place of what stands at this place
  abbrev pub grafted : (place : ℕ) → (part piece : Piece A) → Piece A
  grafted place part (Place element) = part
  grafted place part (Fork fork left right) =
      cond (nat_lt place (size left)) (Fork fork (grafted place part left) right) (Fork fork left (grafted (place - size left) part right))

  -- each fork on the path to the place has a lower position than this one
  abbrev pub IsAbovePath : (position place : ℕ) → (piece : Piece A) → Type 0
  IsAbovePath position place (Place element) = Unit {0}
  IsAbovePath position place (Fork fork left right) = (fork < position) ×
      MatchBool (nat_lt place (size left)) (IsAbovePath position place left) (IsAbovePath position (place - size left) right)
