-- The words of the head of the keys a, b and c (97, 98, 99) in each kind, by computation. Its columns are near, so it is narrow.
use Rattle.std.proofs.Common.{◌≡◌, List, ℕ, [], ◌∷◌, refl, replicate}
use Rattle.record_words.specs.Kinds.{kind_of, lane_words}
use Rattle.record_words.specs.Packed.{kind_words, position_word, row_word}
use Rattle.record_words.specs.declared.kind.HeadKind.TheVariants.{Middle, Narrow}

abbrev columns : List ℕ
columns = 7 ∷ 8 ∷ []

abbrev rows : List ℕ
rows = 0x0000_0000 ∷ 0x8000_0000 ∷ 0xc000_0000 ∷ []

abbrev ones : ℕ
ones = 0xffff_ffff_ffff_ffff

kind_of_three : kind_of columns ≡ Narrow
kind_of_three = refl

narrow_head : kind_words Narrow 3 1 columns rows ≡
    0x0000_0100_0001_0203 ∷ 0 ∷ 0x0201_0000_0000_0000 ∷ 0xffff_ffff_ffc0_8000 ∷ ones ∷ ones ∷ ones ∷ replicate 18 ones
unfolding lane_words
narrow_head = refl

middle_head : kind_words Middle 3 1 columns rows ≡
    0x0000_0200_0001_0203 ∷ 0 ∷ 0 ∷ 0 ∷ 0x0201_0000_0000_0000 ∷ 0xffff_c000_8000_0000 ∷ replicate 19 ones
unfolding lane_words
middle_head = refl

wide_columns : position_word columns 0 ≡ 0xffff_ffff_0008_0007
unfolding position_word
wide_columns = refl

wide_rows : (row_word rows 0 ≡ 0x8000_0000_0000_0000) × (row_word rows 1 ≡ 0xffff_ffff_c000_0000)
unfolding row_word
wide_rows = (refl, refl)
