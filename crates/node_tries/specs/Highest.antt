-- The place of the last element of a list that passes a test.
use Rattle.std.specs.Prelude.{Bool, List, [], cond, suc, ℕ, ◌∷◌}
use Rattle.node_tries.specs.Positions.{any}

-- the highest index of an element that passes the test; 0 if none does
abbrev pub highest : {X : Type 0} → (X → Bool) → List X → ℕ
highest test [] = 0
highest test (element ∷ elements) = cond (any test elements) (suc (highest test elements)) 0
