-- The calls of passes in the order of time, as far as it is known.
use Rattle.std.specs.Prelude.{◌≡◌, ℕ, ◌≤◌, AllPairs, Bool, Contains, List, false, map, true}
use Rattle.finite_map.specs.declared.Note.{Note}
use Rattle.finite_map.specs.Calls.{place_after}

-- the notes of these calls, without the labels by which calls that look alike are told apart
abbrev pub noted : List (ℕ × Note) → List Note
noted calls = map (λ labelled. labelled.1) calls

-- Let one call have returned when another began, as `before` tells by their labels. The place of the other is no lower than that of the
-- one, and is behind the change that the one made.
abbrev pub FitsPlaces : (ℕ → ℕ → Bool) → List (ℕ × Note) → Type 0
FitsPlaces before calls =
    (first second : ℕ × Note) → Contains calls first → Contains calls second → before first.0 second.0 ≡ true → place_after first.1 ≤ second.1.place

-- No call of the list stands before one that had returned when it began. `before` tells by two labels whether the first call had returned
-- when the second began.
abbrev pub IsInTime : (ℕ → ℕ → Bool) → List (ℕ × Note) → Type 0
IsInTime before calls = AllPairs (λ first second. before second.0 first.0 ≡ false) calls
