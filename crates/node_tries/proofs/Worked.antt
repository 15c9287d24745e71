-- The piece of the keys a, b, c (97, 98, 99), d that comes in behind and the byte 96 before, b that is taken out, and
-- b and c that become one place, by computation.
use Rattle.std.proofs.Common.{◌≡◌, ℕ, None, Some, true, false, [], ◌∷◌, refl}
use Rattle.node_tries.specs.Piece.{Piece, Place, Fork, places, paths}
use Rattle.node_tries.specs.Growth.{grown, affected_first, affected_count}
use Rattle.node_tries.specs.Changes.{beside, collapsed, replaced, sibling, without}

abbrev pub three : Piece ℕ
three = Fork 7 (Place 97) (Fork 8 (Place 98) (Place 99))

paths_of_three : paths three ≡ [] ∷ (7 ∷ []) ∷ (7 ∷ 8 ∷ []) ∷ []
paths_of_three = refl

whole_affected : affected_count 6 0 three ≡ 3
whole_affected = refl

last_two_affected : affected_first 8 2 three ≡ 1
last_two_affected = refl

with_d : grown 6 true 100 0 three ≡ Fork 6 three (Place 100)
with_d = refl

before_a : places (grown 6 false 96 0 three) ≡ 96 ∷ 97 ∷ 98 ∷ 99 ∷ []
before_a = refl

without_b : without 1 three ≡ Fork 7 (Place 97) (Place 99)
without_b = refl

without_a : without 0 three ≡ Fork 8 (Place 98) (Place 99)
without_a = refl

another_b : replaced 1 5 three ≡ Fork 7 (Place 97) (Fork 8 (Place 5) (Place 99))
another_b = refl

c_beside_b : beside 1 three ≡ Some (2, 8)
c_beside_b = refl

b_beside_c : beside 2 three ≡ Some (1, 8)
b_beside_c = refl

two_beside_a : beside 0 three ≡ None
two_beside_a = refl

a_and_its_sibling : sibling 0 three ≡ Some (7, Fork 8 (Place 98) (Place 99))
a_and_its_sibling = refl

b_and_c_closed : collapsed 1 5 three ≡ Fork 7 (Place 97) (Place 5)
b_and_c_closed = refl
