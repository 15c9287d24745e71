-- What flags keep of a list.
use Rattle.std.specs.Prelude.{Bool, List, [], cond, ◌∷◌}

-- the elements of the list whose flags are true, in order; an element without a flag is left out
abbrev pub kept : {X : Type 0} → List Bool → List X → List X
kept [] elements = []
kept (flag ∷ flags) [] = []
kept (flag ∷ flags) (element ∷ elements) = cond flag (element ∷ kept flags elements) (kept flags elements)
