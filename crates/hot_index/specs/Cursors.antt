-- Where a cursor goes on that has listed pairs, and what is left for it.
use Rattle.std.specs.Prelude.{◌≡◌, ◌⊎◌, ℕ, List, [], Bool, true, false, Option, Some, None}
use Rattle.hot_index.specs.declared.cursor.Rest.{Rest}
use Rattle.key_ranges.specs.Ranges.{IsNextKey, NoKeyAbove}
use Rattle.packed_pairs.specs.Last.{IsLastKey}
use Rattle.tries.specs.Keys.{Key}

-- what is left for a cursor: the keys from `from` to `upto`
abbrev pub rest_of : (from upto : Key) → Rest
rest_of from upto = record { from = from; upto = upto }

-- Where a cursor goes on that was at the key `from` and has listed these pairs. `next` is the key after the last listed one, or `from` if
-- none was listed.
abbrev pub GoesOnAt : (from : Key) (pairs : List (Key × ℕ)) (next : Key) → Type 0
GoesOnAt from pairs next = ((pairs ≡ []) × (next ≡ from)) ⊎ ((last : Key) × IsLastKey pairs last × IsNextKey last next)

-- the last of the listed pairs has the greatest key that there is
abbrev pub IsAtEnd : (pairs : List (Key × ℕ)) → Type 0
IsAtEnd pairs = (last : Key) × IsLastKey pairs last × NoKeyAbove last

-- What is left for a cursor that had `rest` and has listed these pairs, where `more` says whether there is a further key. If so, the keys
-- from where the cursor goes on to the end of `rest` are left. If not, or if the last listed key is the greatest of all, nothing is left.
abbrev pub IsLeft : (rest : Rest) (pairs : List (Key × ℕ)) (more : Bool) (left : Option Rest) → Type 0
IsLeft rest pairs true left =
    ((next : Key) × (left ≡ Some (rest_of next rest.upto)) × GoesOnAt rest.from pairs next) ⊎ ((left ≡ None) × IsAtEnd pairs)
IsLeft rest pairs false left = left ≡ None
