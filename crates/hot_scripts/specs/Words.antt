-- A text that is cut at separators, part by part.
use Rattle.std.specs.Prelude.{◌≡◌, ◌≢◌, ℕ, ◌+◌, ◌==◌, List, [], ◌∷◌, length, Option, Some, None}
use Rattle.std.specs.List.{slice_split}
use Rattle.std.specs.Borrow.{Bor}
use Rattle.hot_scripts.specs.declared.line.Words.{Words}
use Rattle.hot_scripts.specs.declared.line.Words.TheVariants.{Two, Three, Four, Other}

-- the parts of the text that is left behind a separator; no part if no separator was met
abbrev pub parts_left : (separator : ℕ) (rest : Option (Bor (List ℕ))) → List (List ℕ)
parts_left separator None = []
parts_left separator (Some rest) = slice_split (λ byte. byte == separator) rest.now

-- The line has the words `words`. Two, three or four of them were found one by one. Of any other number only the number is known.
abbrev pub AreWords : (found : Words) (words : List (List ℕ)) → Type 0
AreWords (Two first second) words = words ≡ first.now ∷ second.now ∷ []
AreWords (Three first second third) words = words ≡ first.now ∷ second.now ∷ third.now ∷ []
AreWords (Four first second third fourth) words = words ≡ first.now ∷ second.now ∷ third.now ∷ fourth.now ∷ []
AreWords Other words = (length words ≢ 2) × (length words ≢ 3) × (length words ≢ 4)

-- how many bytes are left of a text, with one for the separator before them; 0 if no separator was met
abbrev pub bytes_left : Option (Bor (List ℕ)) → ℕ
bytes_left None = 0
bytes_left (Some text) = length text.now + 1
