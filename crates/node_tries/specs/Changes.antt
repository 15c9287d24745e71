-- A place that gets another thing, a place that is taken out, and two sides of a fork that become one place.
use Rattle.std.specs.Prelude.{Bool, Option, None, Some, cond, false, nat_lt, true, ℕ, ◌+◌, ◌-◌}
use Rattle.node_tries.specs.Piece.{Piece, Place, Fork, size}

-- A found place moved `more` places on, with the position of a fork that was found with it; none stays none. So a place of a fork's right
-- side is told as one of the whole piece.
abbrev pub moved_by : (more : ℕ) → (found : Option (ℕ × ℕ)) → Option (ℕ × ℕ)
moved_by more None = None
moved_by more (Some place) = Some (more + place.0, place.1)

module _ {A : Type 0} where
  -- the piece with this element in place of what stands at this place
  abbrev pub replaced : (place : ℕ) → (element : A) → (piece : Piece A) → Piece A
  replaced place element (Place old) = Place element
  replaced place element (Fork fork left right) =
      cond (nat_lt place (size left)) (Fork fork (replaced place element left) right) (Fork fork left (replaced (place - size left) element right))

  -- whether the piece is one place, without a fork
  abbrev pub is_place : Piece A → Bool
  is_place (Place element) = true
  is_place (Fork fork left right) = false

  -- The piece without this place. The last fork on the place's path goes with the place, and that fork's other side stays. A piece of one
  -- place stays as it is.
  abbrev pub without : (place : ℕ) → (piece : Piece A) → Piece A
  without place (Place element) = Place element
  without place (Fork fork left right) =
      cond (nat_lt place (size left)) (cond (is_place left) right (Fork fork (without place left) right))
      (cond (is_place right) left (Fork fork left (without (place - size left) right)))

  -- The position and the other side of the last fork on the path to this place. There is none in a piece of one place.
  abbrev pub sibling : (place : ℕ) → (piece : Piece A) → Option (ℕ × Piece A)
  sibling place (Place element) = None
  sibling place (Fork fork left right) =
      cond (nat_lt place (size left)) (cond (is_place left) (Some (fork, right)) (sibling place left))
      (cond (is_place right) (Some (fork, left)) (sibling (place - size left) right))

  -- The piece with this element in place of the last fork on the path to a place, and of all below that fork. A piece of one place stays.
  abbrev pub collapsed : (place : ℕ) → (element : A) → (piece : Piece A) → Piece A
  collapsed place element (Place old) = Place old
  collapsed place element (Fork fork left right) =
      cond (nat_lt place (size left)) (cond (is_place left) (Place element) (Fork fork (collapsed place element left) right))
      (cond (is_place right) (Place element) (Fork fork left (collapsed (place - size left) element right)))

  -- The one place on the other side of the last fork on the path to this place, and that fork's position. There is none if that side has
  -- several places, or the piece has no fork.
  abbrev pub beside : (place : ℕ) → (piece : Piece A) → Option (ℕ × ℕ)
  beside place (Place element) = None
  beside place (Fork fork left right) =
      cond (nat_lt place (size left)) (cond (is_place left) (cond (is_place right) (Some (1, fork)) None) (beside place left))
      (cond (is_place right) (cond (is_place left) (Some (0, fork)) None) (moved_by (size left) (beside (place - size left) right)))

  -- F holds of the piece's root fork: of its position and its two sides. A piece of one place has no root fork.
  abbrev pub AtRootFork : (ℕ → Piece A → Piece A → Type 0) → Piece A → Type 0
  AtRootFork F (Place element) = ⊥
  AtRootFork F (Fork fork left right) = F fork left right
