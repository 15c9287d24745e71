-- Fronts: lists of changes, each of which fits the map that those before it lead to.
use Rattle.std.specs.Prelude.{◌≡◌, ◌≢◌, ℕ, List, [], ◌∷◌, ◌++◌, fold, All, Option, Some, None, IsSome}
use Rattle.finite_map.specs.declared.Change.{Change}
use Rattle.finite_map.specs.declared.Kind.{Kind}
use Rattle.finite_map.specs.declared.Kind.TheVariants.{Added, Replaced, Removed}
use Rattle.finite_map.specs.Maps.{Map, value_at, with_value, without}

-- what a change of this kind makes of a map: the key has the value, or is absent after a removal
abbrev pub changed_by : (kind : Kind) → (pairs : Map) → (key : List ℕ) → (value : ℕ) → Map
changed_by Added pairs key value = with_value pairs key value
changed_by Replaced pairs key value = with_value pairs key value
changed_by Removed pairs key value = without pairs key

-- the map after a change
abbrev pub changed : Map → Change → Map
changed pairs change = changed_by change.kind pairs change.key change.value

-- the map that a front leads to, from the empty map
abbrev pub map_of : List Change → Map
map_of front = fold changed [] front

-- A change of this kind is legal on a map that holds the value `held` for the key, or none. A key is added only if it is absent, and
-- replaced only if it is held. A removal tells the value that the key held.
abbrev pub FitsKind : (kind : Kind) → (held : Option ℕ) → (value : ℕ) → Type 0
FitsKind Added held value = held ≡ None
FitsKind Replaced held value = IsSome held
FitsKind Removed held value = held ≡ Some value

-- the change is legal on this map
abbrev pub Fits : Map → Change → Type 0
Fits pairs change = FitsKind change.kind (value_at pairs change.key) change.value

-- the first change is legal on the map `pairs`, and each later one on the map that those before it make of `pairs`
abbrev pub LegalFrom : Map → List Change → Type 0
LegalFrom pairs [] = Unit {0}
LegalFrom pairs (change ∷ changes) = Fits pairs change × LegalFrom (changed pairs change) changes

-- each change is legal on the map of the changes before it
abbrev pub LegalFront : List Change → Type 0
LegalFront front = LegalFrom [] front

-- the later front begins with the earlier one
abbrev pub BeginsWith : (later earlier : List Change) → Type 0
BeginsWith later earlier = (more : List Change) × (later ≡ earlier ++ more)

-- the later front is the earlier one with further changes behind it, none of which the pass has made
abbrev pub OthersGoOn : (pass : ℕ) → (earlier later : List Change) → Type 0
OthersGoOn pass earlier later = (more : List Change) × (later ≡ earlier ++ more) × All (λ change. change.pass ≢ pass) more
