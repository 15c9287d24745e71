-- What stands in the fixed words of a node: all but its state and its entries.
use Rattle.std.specs.Prelude.{ℕ, ◌+◌, ◌-◌, ◌*◌, ◌/◌, ◌^◌, ◌++◌, List, ◌∷◌, drop, length, map, replicate, slice_index_or}
use Rattle.std.specs.List.{range_with_len}
use Rattle.record_words.specs.Kinds.{head_size, index_lanes, kind_of, kind_part, lane_words, mask_lanes}
use Rattle.record_words.specs.declared.kind.HeadKind.{HeadKind}
use Rattle.record_words.specs.declared.kind.HeadKind.TheVariants.{Wide, Narrow, Middle}
use Rattle.partial_keys.specs.declared.TheConstants.{MAX_ENTRIES}
use Rattle.record_words.specs.declared.TheConstants.{HEAD_WORDS}

-- The numbers of a head in one word, from its lowest bits up: of entries and of columns in a byte each, then the height.
abbrev pub meta_word : (count columns height : ℕ) → ℕ
meta_word count columns height = count + 256 * columns + 65536 * height

-- the position of the column of this number; 65,535, which is no position, past the last column
abbrev pub position_at : (columns : List ℕ) → (column : ℕ) → ℕ
position_at columns column = slice_index_or columns column 65535

-- The word of this index among the words of positions in a wide head. It has four of them, from the lowest bits up.
unfoldable pub position_word : List ℕ → ℕ → ℕ
position_word columns index =
    position_at columns (4 * index) + 2 ^ 16 * position_at columns (4 * index + 1) +
    2 ^ 32 * position_at columns (4 * index + 2) + 2 ^ 48 * position_at columns (4 * index + 3)

-- the row of this number; 4,294,967,295 past the last row
abbrev pub row_at : (rows : List ℕ) → (row : ℕ) → ℕ
row_at rows row = slice_index_or rows row 4294967295

-- The word of this index among the words of rows in a wide head. It has two of them, the first in the low half.
unfoldable pub row_word : List ℕ → ℕ → ℕ
row_word rows index = row_at rows (2 * index) + 2 ^ 32 * row_at rows (2 * index + 1)

-- The words of a head's columns, by its kind. The first eight lanes of a narrow head are 0, and have no words.
abbrev pub column_words : HeadKind → List ℕ → List ℕ
column_words Wide columns = map (position_word columns) (range_with_len 0 8)
column_words Narrow columns = lane_words 8 1 (drop 8 (index_lanes columns)) ++ lane_words 8 1 (drop 8 (mask_lanes columns))
column_words Middle columns = lane_words 8 2 (index_lanes columns) ++ lane_words 8 2 (mask_lanes columns)

-- the rows as lanes of words, each without its lowest `low` bits
abbrev pub row_lanes : (low : ℕ) → (rows : List ℕ) → List ℕ
row_lanes low rows = map (λ row. row_at rows row / 2 ^ low) (range_with_len 0 MAX_ENTRIES)

-- the words of a head's rows, by its kind: all 32 bits of a row in a wide head, the highest 8 in a narrow one, and the highest 16 in a
-- middle one
abbrev pub row_words : HeadKind → List ℕ → List ℕ
row_words Wide rows = map (row_word rows) (range_with_len 0 16)
row_words Narrow rows = lane_words 8 4 (row_lanes 24 rows)
row_words Middle rows = lane_words 16 8 (row_lanes 16 rows)

-- the first word of a head of this kind: its numbers, its kind, and the first byte unless it is wide
abbrev pub numbers_word : HeadKind → (count height : ℕ) → List ℕ → ℕ
numbers_word kind count height columns = meta_word count (length columns) height + kind_part kind columns

-- words of all ones, as many as a head of this kind leaves unused
abbrev pub unused_words : HeadKind → List ℕ
unused_words kind = replicate (HEAD_WORDS - head_size kind) (2 ^ 64 - 1)

-- the words of a head of this kind, by its numbers, columns and rows
abbrev pub kind_words : (kind : HeadKind) → (count height : ℕ) → (columns rows : List ℕ) → List ℕ
kind_words kind count height columns rows =
    numbers_word kind count height columns ∷ (column_words kind columns ++ (row_words kind rows ++ unused_words kind))

-- The words of the head with these numbers, columns and rows, in the kind that its columns ask for.
unfoldable pub fixed_words : (count height : ℕ) → (columns rows : List ℕ) → List ℕ
fixed_words count height columns rows = kind_words (kind_of columns) count height columns rows
