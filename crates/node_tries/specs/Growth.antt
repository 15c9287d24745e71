-- A new fork in a piece.
use Rattle.std.specs.Bool.{MatchBool}
use Rattle.std.specs.Prelude.{Bool, List, [], cond, drop, nat_lt, take, ℕ, ◌++◌, ◌+◌, ◌-◌, ◌∷◌, ◌≡◌, ◌≢◌}
use Rattle.node_tries.specs.Piece.{Piece, Place, Fork, size}

module _ {A : Type 0} where
  -- The first place of the part of a piece that a new fork at this position affects. The part is what is left on the path to the place
  -- behind all forks with a lower position.
  abbrev pub affected_first : (position place : ℕ) → (piece : Piece A) → ℕ
  affected_first position place (Place element) = 0
  affected_first position place (Fork fork left right) =
      cond (nat_lt fork position)
      (cond (nat_lt place (size left)) (affected_first position place left) (size left + affected_first position (place - size left) right)) 0

  -- How many places the part of a piece has that a new fork at this position affects. The part is what is left on the path to the place
  -- behind all forks with a lower position.
  abbrev pub affected_count : (position place : ℕ) → (piece : Piece A) → ℕ
  affected_count position place (Place element) = 1
  affected_count position place (Fork fork left right) =
      cond (nat_lt fork position)
      (cond (nat_lt place (size left)) (affected_count position place left) (affected_count position (place - size left) right)) (size left + size right)

  -- the affected part does not begin with a fork at this position, so a new fork may stand there
  abbrev pub IsFresh : (position place : ℕ) → (piece : Piece A) → Type 0
  IsFresh position place (Place element) = Unit {0}
  IsFresh position place (Fork fork left right) =
      MatchBool (nat_lt fork position)
      (MatchBool (nat_lt place (size left)) (IsFresh position place left) (IsFresh position (place - size left) right)) (fork ≢ position)

  -- The places from `first` to `last` are those of the part of the piece that a new fork at this position affects. The part does not begin
  -- with a fork at this position.
  pub record IsAffected (piece : Piece A) (position first last : ℕ) : Type 0 where
    pub from : affected_first position first piece ≡ first
    pub upto : affected_count position first piece + first ≡ last + 1
    pub fresh : IsFresh position first piece

  -- a new fork over the affected part and a new element, which is its 1 side if the bit is 1, else its 0 side
  abbrev pub forked : (position : ℕ) → (bit : Bool) → (element : A) → (part : Piece A) → Piece A
  forked position bit element part = cond bit (Fork position part (Place element)) (Fork position (Place element) part)

  -- The piece with a new fork at this position over its affected part, on the path to the place. The new element stands on the fork's side
  -- of the bit.
  abbrev pub grown : (position : ℕ) → (bit : Bool) → (element : A) → (place : ℕ) → (piece : Piece A) → Piece A
  grown position bit element place (Place old) = forked position bit element (Place old)
  grown position bit element place (Fork fork left right) =
      cond (nat_lt fork position)
      (cond (nat_lt place (size left)) (Fork fork (grown position bit element place left) right) (Fork fork left (grown position bit element (place - size left) right)))
      (forked position bit element (Fork fork left right))

-- the list, where `change` is made of the `count` elements from index `from` on; it may make more or fewer of them
abbrev pub edited : {X : Type 0} → (from count : ℕ) → (change : List X → List X) → (list : List X) → List X
edited from count change list = take from list ++ (change (take count (drop from list)) ++ drop (from + count) list)

-- the entries of an affected part with a new one: behind them if the new one's bit is 1, and else before them
abbrev pub forked_places : {A : Type 0} → (bit : Bool) → (element : A) → (places : List A) → List A
forked_places bit element places = cond bit (places ++ element ∷ []) (element ∷ places)
