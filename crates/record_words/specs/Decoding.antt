-- What words say, whatever they are; of words that spell a value these are its parts. The words of a record are those from offset 1 on.
use Rattle.std.specs.Prelude.{ℕ, ◌+◌, ◌-◌, ◌*◌, ◌/◌, ◌%◌, ◌^◌, List, drop, get_or, map, nat_eq, take, Option, Some, None, if◌then◌else◌}
use Rattle.std.specs.Int.{to_be_bytes, w64}
use Rattle.std.specs.Int.Count.{count_leading_zeros}
use Rattle.std.specs.List.{range_with_len}
use Rattle.std.specs.Option.{unwrap_or}
use Rattle.compound_node.specs.declared.entries.Entry.{Entry}
use Rattle.compound_node.specs.declared.entries.Entry.TheVariants.{Leaf, Node}
use Rattle.key_bits.specs.declared.TheConstants.{MAX_BYTES}
use Rattle.record_words.specs.Entry.{entry_word}
use Rattle.record_words.specs.Kinds.{kind_in, mask_index, position_index}
use Rattle.record_words.specs.declared.kind.HeadKind.{HeadKind}
use Rattle.record_words.specs.declared.kind.HeadKind.TheVariants.{Wide, Narrow, Middle}
use Rattle.record_words.specs.declared.TheConstants.{FIRST_KEY_WORD, FIRST_MIDDLE_ROWS, FIRST_NARROW_ROWS, FIRST_POSITIONS, FIRST_ROWS, HEIGHT_BIT, LENGTH_INDEX, NUMBERS_INDEX, VALUE_INDEX}

-- ---- an entry word

-- The entry that a word encodes; none for 0, the word of no entry. A word that encodes nothing gives some entry, too: a leaf if its
-- remainder by 4 is 1, else a node.
unfoldable pub entry_of : ℕ → Option Entry
entry_of word =
    if nat_eq word (entry_word None) then None else
    (if nat_eq (word % 4) 1 then Some (Leaf (word / 4)) else Some (Node (word / 4 % 2 ^ 32) (word / 2 ^ HEIGHT_BIT)))

-- ---- the words of a head

-- the number of entries that the first word of a head tells
abbrev pub count_in : ℕ → ℕ
count_in word = word % 256

-- the number of columns that the first word of a head tells
abbrev pub column_count_in : ℕ → ℕ
column_count_in word = word / 256 % 256

-- the height that the first word of a head tells
abbrev pub height_in : ℕ → ℕ
height_in word = word / 65536 % 65536

-- the index of the byte from which a narrow or middle head counts, as its first word tells
abbrev pub first_byte_in : ℕ → ℕ
first_byte_in word = word / 2 ^ 32 % 2 ^ 8

-- the word of a head that tells its numbers
abbrev pub numbers_in : List ℕ → ℕ
numbers_in head = get_or head NUMBERS_INDEX 0

-- the byte for the column of this number in a word of a narrow or middle head
abbrev pub column_byte : (column word : ℕ) → ℕ
column_byte column word = word / 2 ^ (8 * (7 - column % 8)) % 2 ^ 8

-- The position of the column of this number in a narrow or middle head. Its byte is counted from the head's first byte, and the mask tells
-- which of the eight bits there.
abbrev pub near_column_in : (kind : HeadKind) → (head : List ℕ) → (column : ℕ) → ℕ
near_column_in kind head column =
    9 * (first_byte_in (numbers_in head) + column_byte column (get_or head (position_index kind column) 0)) +
    1 + count_leading_zeros 8 (column_byte column (get_or head (mask_index kind column) 0))

-- the position of the column of this number in the words of a head of this kind; a wide head has it in 16 bits
abbrev pub column_in : (kind : HeadKind) → (head : List ℕ) → (column : ℕ) → ℕ
column_in Wide head column = get_or head (FIRST_POSITIONS + column / 4) 0 / 2 ^ (16 * (column % 4)) % 2 ^ 16
column_in Narrow head column = near_column_in Narrow head column
column_in Middle head column = near_column_in Middle head column

-- The row of this number in the words of a head of this kind. A wide head has all its 32 bits, a narrow one the highest 8, and a middle one
-- the highest 16.
abbrev pub row_in : (kind : HeadKind) → (head : List ℕ) → (row : ℕ) → ℕ
row_in Wide head row = get_or head (FIRST_ROWS + row / 2) 0 / 2 ^ (32 * (row % 2)) % 2 ^ 32
row_in Narrow head row = get_or head (FIRST_NARROW_ROWS + row / 8) 0 / 2 ^ (8 * (row % 8)) % 2 ^ 8 * 2 ^ 24
row_in Middle head row = get_or head (FIRST_MIDDLE_ROWS + row / 4) 0 / 2 ^ (16 * (row % 4)) % 2 ^ 16 * 2 ^ 16

-- the positions of all columns in the words of a head
abbrev pub columns_in : List ℕ → List ℕ
columns_in head = map (column_in (kind_in (numbers_in head)) head) (range_with_len 0 (column_count_in (numbers_in head)))

-- the rows of all entries in the words of a head
abbrev pub rows_in : List ℕ → List ℕ
rows_in head = map (row_in (kind_in (numbers_in head)) head) (range_with_len 0 (count_in (numbers_in head)))

-- ---- the words of entries

-- The first `count` entries that the words of a node's entries encode. A word of no entry counts as leaf 0.
abbrev pub entries_of : (count : ℕ) → (tail : List ℕ) → List Entry
entries_of count tail = take count (map (λ word. unwrap_or (entry_of word) (Leaf 0)) tail)

-- ---- the words of a leaf

-- MAX_BYTES bytes from the words of a key: eight from each word, the first from its highest bits, and 0 where there is no word
abbrev pub bytes_in : List ℕ → List ℕ
bytes_in words = map (λ index. get_or (to_be_bytes w64 (get_or words (index / 8) 0)) (index % 8) 0) (range_with_len 0 MAX_BYTES)

-- the value in the words of a leaf
abbrev pub leaf_value_in : List ℕ → ℕ
leaf_value_in words = get_or words VALUE_INDEX 0

-- the length of the key in the words of a leaf, in bytes
abbrev pub key_length_in : List ℕ → ℕ
key_length_in words = get_or words LENGTH_INDEX 0

-- the key in the words of a leaf: as many of its bytes as its length says
abbrev pub leaf_key_in : List ℕ → List ℕ
leaf_key_in words = take (key_length_in words) (bytes_in (drop FIRST_KEY_WORD words))
