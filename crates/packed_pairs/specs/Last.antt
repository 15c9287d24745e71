-- The last of some pairs.
use Rattle.std.specs.Prelude.{◌≡◌, ℕ, List, [], ◌∷◌, ◌++◌}

-- the last of these pairs has this key
abbrev pub IsLastKey : List (List ℕ × ℕ) → List ℕ → Type 0
IsLastKey pairs key = (front : List (List ℕ × ℕ)) × (value : ℕ) × (pairs ≡ front ++ (key, value) ∷ [])
