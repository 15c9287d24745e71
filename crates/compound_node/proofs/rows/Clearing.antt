-- Rows that lose a bit.
use Rattle.compound_node.proofs.Common.{List, [], arith, cond, length, refl, ℕ, ◌-◌, ◌∷◌, ◌≡◌, true, false, bit_and, nat_eq}
use Rattle.compound_node.specs.Removal.{cleared_front}

pub length-cleared_front : (bit : ℕ) (rows : List ℕ) → length (cleared_front bit rows) ≡ length rows
length-cleared_front bit [] = refl
length-cleared_front bit (row ∷ rows) =
    elim (nat_eq (bit_and row bit) 0) as (λ b. length (cond b (row ∷ rows) ((row - bit_and row bit) ∷ cleared_front bit rows)) ≡ length (row ∷ rows)) [
      | true ↦ refl
      | false ↦ omega (arith, length-cleared_front bit rows)
    ]
