-- Lists of positions: tests on them, their order, and where one stands or is put.
use Rattle.std.specs.Prelude.{Bool, List, [], cond, eqb, false, nat_lt, suc, true, ℕ, ◌&&◌, ◌+◌, ◌<◌, ◌||◌, ◌∷◌}

-- whether the position is one of the list
abbrev pub has : (positions : List ℕ) → (position : ℕ) → Bool
has [] position = false
has (first ∷ others) position = eqb first position || has others position

-- whether each element of the list passes the test
abbrev pub all : {X : Type 0} → (X → Bool) → List X → Bool
all test [] = true
all test (element ∷ elements) = test element && all test elements

-- whether some element of the list passes the test
abbrev pub any : {X : Type 0} → (X → Bool) → List X → Bool
any test [] = false
any test (element ∷ elements) = test element || any test elements

-- the positions rise strictly, and the first is at least `low`
abbrev pub Ascends : (low : ℕ) → (positions : List ℕ) → Type 0
Ascends low [] = Unit {0}
Ascends low (position ∷ positions) = (low < position + 1) × Ascends (position + 1) positions

-- each position is below the bound
abbrev pub AllBelow : (bound : ℕ) → (positions : List ℕ) → Type 0
AllBelow bound [] = Unit {0}
AllBelow bound (position ∷ positions) = (position < bound) × AllBelow bound positions

-- How many numbers stand at the front of the list before one that is not below the bound. In a node's columns it is the number of the first
-- column that is not before a position.
abbrev pub front_below : (bound : ℕ) → (numbers : List ℕ) → ℕ
front_below bound [] = 0
front_below bound (number ∷ numbers) = cond (nat_lt number bound) (suc (front_below bound numbers)) 0

-- a rising list of positions with one position more, in order
abbrev pub with_position : (position : ℕ) → (positions : List ℕ) → List ℕ
with_position position [] = position ∷ []
with_position position (first ∷ others) =
    cond (nat_lt first position) (first ∷ with_position position others) (position ∷ first ∷ others)
