-- A piece of a bit trie, a binary Patricia trie: a place, or a fork (BiNode) at a position.
use Rattle.std.specs.Prelude.{Bool, List, [], cond, eqb, false, map, true, ℕ, ◌++◌, ◌+◌, ◌<◌, ◌||◌, ◌∷◌, ◌≡◌}
use Rattle.node_tries.specs.Kept.{kept}
use Rattle.node_tries.specs.Positions.{has}

-- A bit trie without its keys. It is one place, at which something stands, or a fork: a position, the 0 side and the 1 side.
pub data Piece (A : Type 0) : Type 0 where
  Place : A → Piece A
  Fork : ℕ → Piece A → Piece A → Piece A

module _ {A : Type 0} where
  -- what stands at the places, from left to right
  abbrev pub places : Piece A → List A
  places (Place element) = element ∷ []
  places (Fork fork left right) = places left ++ places right

  -- how many places the piece has
  abbrev pub size : Piece A → ℕ
  size (Place element) = 1
  size (Fork fork left right) = size left + size right

  -- for each place, from left to right, the positions of those forks at which its path takes the 1 side
  abbrev pub paths : Piece A → List (List ℕ)
  paths (Place element) = [] ∷ []
  paths (Fork fork left right) = paths left ++ map (λ path. fork ∷ path) (paths right)

  -- the place to which the forks lead a key, each by the key's bit at the fork's position
  abbrev pub leads_to : (ℕ → Bool) → Piece A → ℕ
  leads_to bit (Place element) = 0
  leads_to bit (Fork fork left right) = cond (bit fork) (size left + leads_to bit right) (leads_to bit left)

  -- along each path the positions of the forks rise strictly, and the first is at least `low`
  abbrev pub RisesFrom : (low : ℕ) → (piece : Piece A) → Type 0
  RisesFrom low (Place element) = Unit {0}
  RisesFrom low (Fork fork left right) = (low < fork + 1) × RisesFrom (fork + 1) left × RisesFrom (fork + 1) right

  -- each fork of the piece has one of these positions
  abbrev pub UsesOnly : List ℕ → Piece A → Type 0
  UsesOnly positions (Place element) = Unit {0}
  UsesOnly positions (Fork fork left right) = (has positions fork ≡ true) × UsesOnly positions left × UsesOnly positions right

  -- whether some fork of the piece has this position
  abbrev pub uses : (piece : Piece A) → (position : ℕ) → Bool
  uses (Place element) position = false
  uses (Fork fork left right) position = eqb fork position || (uses left position || uses right position)

  -- those of the columns that are positions of forks of the piece
  abbrev pub used_columns : Piece A → List ℕ → List ℕ
  used_columns piece columns = kept (map (uses piece) columns) columns
