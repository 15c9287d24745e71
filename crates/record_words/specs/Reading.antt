-- What reading words returns.
use Rattle.std.specs.Prelude.{◌≡◌, Result, Ok, IfOk}

-- `words` encode some value of the sort `IsValue`, where `spelled` gives the words of a value
abbrev pub IsSpelling : {A W : Type 0} → (IsValue : A → Type 0) → (spelled : A → W) → (words : W) → Type 0
IsSpelling {A} IsValue spelled words = (value : A) × IsValue value × (spelled value ≡ words)

-- `words` encode just one value of the sort `IsValue`, which is this one. `spelled` gives the words of a value.
pub record IsSpelledBy {A W : Type 0} (IsValue : A → Type 0) (spelled : A → W) (words : W) (value : A) : Type 0 where
  pub is_value : IsValue value
  pub spells : spelled value ≡ words
  pub only : (other : A) → IsValue other → spelled other ≡ words → value ≡ other

-- The result is the value that `words` encode, or an error if they encode none. `spelled` gives the words of a value. So reading undoes
-- writing, and no two values have the same words.
pub record IsReading {A W E : Type 0} (IsValue : A → Type 0) (spelled : A → W) (words : W) (result : Result A E) : Type 0 where
  pub read : (value : A) → IsValue value → spelled value ≡ words → result ≡ Ok value
  pub spelling : IfOk result (λ value. IsValue value × (spelled value ≡ words))
