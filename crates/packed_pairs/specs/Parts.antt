-- The parts of packed pairs: their heads, and their keys one after another.
use Rattle.std.specs.Prelude.{ℕ, ◌-◌, List, [], ◌∷◌, ◌++◌, length, nat_le, if◌then◌else◌}
use Rattle.packed_pairs.specs.declared.head.PairHead.{PairHead}

-- the head of a pair: the length of its key, and its value
abbrev pub packed_head : List ℕ × ℕ → PairHead
packed_head (key, value) = record { count = length key; value = value }

-- the bytes of the pairs' keys, one after another
abbrev pub keys_in : List (List ℕ × ℕ) → List ℕ
keys_in [] = []
keys_in (pair ∷ pairs) = pair.0 ++ keys_in pairs

-- the first pairs, as many as have keys of at most `room` bytes together
abbrev pub fitting : ℕ → List (List ℕ × ℕ) → List (List ℕ × ℕ)
fitting room [] = []
fitting room (pair ∷ pairs) = if nat_le (length pair.0) room then pair ∷ fitting (room - length pair.0) pairs else []
