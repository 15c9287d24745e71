-- What a walk keeps of the pairs that it takes: all of them, or a part.
use Rattle.std.specs.Prelude.{◌≡◌, ℕ, ◌+◌, List, [], ◌∷◌, ◌++◌, length}
use Rattle.tries.specs.Keys.{Key}
use Rattle.versions.specs.State.{Past}
use Rattle.version_laws.specs.Scan.{Pair, Range, Frame as Stage, in_order_taken}
use Rattle.version_laws.specs.Directions.{IsScanBy}
use Rattle.packed_pairs.specs.declared.direction.Direction.{Direction}

-- How many pairs a scan has taken, and what is said of them. `says` is asked of a list of pairs, in which the newest stands first.
pub record Tally : Type 1 where
  pub size : ℕ
  pub says : List Pair → Type 0

-- the tally tells of these pairs: it has their number, and what it says holds of them
abbrev pub AreTallied : Tally → List Pair → Type 0
AreTallied tally taken = (tally.size ≡ length taken) × tally.says taken

-- the tally is one of no pair: its number is 0, and what it says holds of the empty list
abbrev pub IsNone : Tally → Type 0
IsNone tally = (tally.size ≡ 0) × tally.says []

-- the second tally has the same number of pairs, and tells whatever pairs the first one tells
abbrev pub IsKept : (old new : Tally) → Type 0
IsKept old new = (new.size ≡ old.size) × ((taken : List Pair) → old.says taken → new.says taken)

-- The second tally has one more in number. Of whatever pairs the first one tells, the second tells with one more, of this key and value, as
-- the newest.
abbrev pub IsOneMore : (old : Tally) → (key : Key) → (value : ℕ) → (new : Tally) → Type 0
IsOneMore old key value new =
    (new.size ≡ old.size + 1) × ((taken : List Pair) → old.says taken → new.says (record { key = key; value = value } ∷ taken))

-- the tally that tells nothing of its pairs but their number
abbrev pub tally_of_number : (count : ℕ) → Tally
tally_of_number count = record { size = count; says = λ taken. Unit {0} }

-- the tally that tells exactly these pairs, in the order in which they were taken
abbrev pub tally_of_pairs : List (Key × ℕ) → Tally
tally_of_pairs pairs = record { size = length pairs; says = λ taken. pairs ≡ in_order_taken taken }

-- the values of pairs, in the order in which these were taken; in the given list the newest pair stands first
abbrev pub values_taken : List Pair → List ℕ
values_taken [] = []
values_taken (pair ∷ pairs) = values_taken pairs ++ pair.value ∷ []

-- the tally that tells the values of its pairs, in the order in which they were taken, and nothing of their keys
abbrev pub tally_of_values : (values : List ℕ) → Tally
tally_of_values values = record { size = length values; says = λ taken. values ≡ values_taken taken }

-- a scan from this version on has taken pairs that the tally tells, and stands at these stages (`IsScanBy`)
abbrev pub IsTalliedScan : (direction : Direction) → (past : Past) → (version : ℕ) → (range : Range) → (stages : List Stage) →
    (tally : Tally) → Type 0
IsTalliedScan direction past version range stages tally = (taken : List Pair) × AreTallied tally taken × IsScanBy direction past version range stages taken
