-- The rows of the keys a, b, c (97, 98, 99), of d behind them and of the byte 96 before them, by computation.
use Rattle.partial_keys.proofs.Common.{◌≡◌, true, false, [], ◌∷◌, refl, grown, without}
use Rattle.node_tries.proofs.Worked.{three}
use Rattle.partial_keys.specs.Rows.{rows_of}
use Rattle.partial_keys.specs.Shown.{piece_of}

rows_of_three : rows_of (7 ∷ 8 ∷ []) three ≡ 0x0000_0000 ∷ 0x8000_0000 ∷ 0xc000_0000 ∷ []
rows_of_three = refl

read_back : piece_of 0 (7 ∷ 8 ∷ []) (0x0000_0000 ∷ 0x8000_0000 ∷ 0xc000_0000 ∷ []) (97 ∷ 98 ∷ 99 ∷ []) ≡ three
read_back = refl

rows_with_d : rows_of (6 ∷ 7 ∷ 8 ∷ []) (grown 6 true 100 0 three) ≡ 0x0000_0000 ∷ 0x4000_0000 ∷ 0x6000_0000 ∷ 0x8000_0000 ∷ []
rows_with_d = refl

rows_with_one_before : rows_of (6 ∷ 7 ∷ 8 ∷ []) (grown 6 false 96 0 three) ≡ 0x0000_0000 ∷ 0x8000_0000 ∷ 0xc000_0000 ∷ 0xe000_0000 ∷ []
rows_with_one_before = refl

rows_without_b : rows_of (7 ∷ 8 ∷ []) (without 1 three) ≡ 0x0000_0000 ∷ 0x8000_0000 ∷ []
rows_without_b = refl
