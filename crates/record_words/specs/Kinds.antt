-- The kinds of a node's head: which one its columns take, and the lanes of bytes in which a near one spells them.
use Rattle.std.specs.Prelude.{ℕ, ◌≡◌, ◌≤◌, ◌++◌, ◌+◌, ◌-◌, ◌*◌, ◌/◌, ◌%◌, ◌^◌, ◌&&◌, Bool, cond, eqb, nat_le, nat_lt, not, true, List, length, map, replicate, slice_index, slice_index_or}
use Rattle.std.specs.List.{range_with_len}
use lib.Lanes.{digits_l, number_l}
use Rattle.key_bits.specs.declared.TheConstants.{MAX_BYTES}
use Rattle.partial_keys.specs.Columns.{IsColumns}
use Rattle.node_tries.specs.Positions.{all}
use Rattle.record_words.specs.declared.kind.HeadKind.{HeadKind}
use Rattle.record_words.specs.declared.kind.HeadKind.TheVariants.{Wide, Narrow, Middle}
use Rattle.record_words.specs.declared.TheConstants.{FIRST_MIDDLE_ROWS, FIRST_NARROW_ROWS, FIRST_POSITIONS, FIRST_ROWS, HEAD_WORDS, MIDDLE_COLUMNS, MIDDLE_HEAD_WORDS, NARROW_COLUMNS, NARROW_HEAD_WORDS, WINDOW_BYTES}

-- the index of that byte of a key which has the bit at the first column
abbrev pub first_byte : List ℕ → ℕ
first_byte columns = slice_index columns 0 / 9

-- Whether the position is before the end of the sixteen bytes from `first_byte` on, and not that of the 1 before a byte. It has no lower
-- bound, since columns rise from the first one, which is in byte `first_byte`.
abbrev pub is_near : (first_byte position : ℕ) → Bool
is_near first position = not (eqb (position % 9) 0) && nat_lt (position / 9) (first + WINDOW_BYTES)

-- Whether the bits at all columns are in sixteen bytes, which lie within the first MAX_BYTES bytes of a key. None may be the 1 before a
-- byte.
abbrev pub are_near : List ℕ → Bool
are_near columns = nat_le (first_byte columns + WINDOW_BYTES) MAX_BYTES && all (is_near (first_byte columns)) columns

-- the smallest kind of head that can encode the columns: for near ones narrow up to 8 and middle up to 16, and else wide
abbrev pub kind_of : List ℕ → HeadKind
kind_of columns = cond (are_near columns && nat_le (length columns) MIDDLE_COLUMNS) (cond (nat_le (length columns) NARROW_COLUMNS) Narrow Middle) Wide

-- how many words of a head of this kind are used
abbrev pub head_size : HeadKind → ℕ
head_size Wide = HEAD_WORDS
head_size Narrow = NARROW_HEAD_WORDS
head_size Middle = MIDDLE_HEAD_WORDS

-- the index of the first word with rows, in a head of this kind
abbrev pub rows_from : HeadKind → ℕ
rows_from Wide = FIRST_ROWS
rows_from Narrow = FIRST_NARROW_ROWS
rows_from Middle = FIRST_MIDDLE_ROWS

-- how many rows a word of a head has, by its kind
abbrev pub rows_a_word : HeadKind → ℕ
rows_a_word Wide = 2
rows_a_word Narrow = 8
rows_a_word Middle = 4

-- What the first word of a head tells of its kind, and of the byte from which a narrow or middle head counts. A wide head has 0 there.
abbrev pub kind_part : HeadKind → List ℕ → ℕ
kind_part Wide columns = 0
kind_part Narrow columns = 2 ^ 40 + 2 ^ 32 * first_byte columns
kind_part Middle columns = 2 ^ 41 + 2 ^ 32 * first_byte columns

-- the kind of head that its first word tells
abbrev pub kind_in : ℕ → HeadKind
kind_in word = cond (eqb (word / 2 ^ 40) 1) Narrow (cond (eqb (word / 2 ^ 40) 2) Middle Wide)

-- The index of the word that tells a column. That word has the column's position in a wide head, and the index of the column's byte in the
-- others.
abbrev pub position_index : (kind : HeadKind) → (column : ℕ) → ℕ
position_index Wide column = FIRST_POSITIONS + column / 4
position_index Narrow column = FIRST_POSITIONS
position_index Middle column = cond (nat_lt column 8) (FIRST_POSITIONS + 1) FIRST_POSITIONS

-- The index of the word that has the mask of a column's bit. A wide head has no masks: there it is the index of the position's word.
abbrev pub mask_index : (kind : HeadKind) → (column : ℕ) → ℕ
mask_index Wide column = position_index Wide column
mask_index Narrow column = position_index Narrow column + 1
mask_index Middle column = position_index Middle column + 2

-- these lanes, of `width` bits each, packed into `count` words; the first lane is in the lowest bits of the first word
unfoldable pub lane_words : (width count : ℕ) → (lanes : List ℕ) → List ℕ
lane_words width count lanes = digits_l (2 ^ 64) count (number_l (2 ^ width) lanes)

-- the mask of the bit at a position in its byte; 0 for the 1 before a byte
abbrev pub bit_mask : ℕ → ℕ
bit_mask position = cond (eqb (position % 9) 0) 0 (2 ^ (8 - position % 9))

-- The position that a lane of a narrow or middle head has. Lane i has that of column 15 - i. So a comparison of all lanes gives the highest
-- bits of a dense key. A lane without a column has the first position of the first byte.
abbrev pub near_position : (columns : List ℕ) → (lane : ℕ) → ℕ
near_position columns lane = slice_index_or columns (15 - lane) (9 * first_byte columns)

-- for each lane of a narrow or middle head, how many bytes behind the first one its byte is
abbrev pub index_lanes : List ℕ → List ℕ
index_lanes columns = map (λ lane. near_position columns lane / 9 - first_byte columns) (range_with_len 0 16)

-- for each lane of a narrow or middle head, the mask of its bit in its byte; 0 for a lane without a column
abbrev pub mask_lanes : List ℕ → List ℕ
mask_lanes columns = map (λ lane. bit_mask (near_position columns lane)) (range_with_len 0 16)

-- How far a position is behind the first position of the byte `first_byte`, modulo 2 ^ 16. It is 0 for 65,535, which is no position.
abbrev pub distance_from : (first_byte position : ℕ) → ℕ
distance_from first position = cond (eqb position 65535) 0 ((position + (2 ^ 16 - 9 * first % 2 ^ 16)) % 2 ^ 16)

-- The columns can be encoded by the lanes of a narrow or middle head: they are lawful, at most 16, and all near.
pub record HasNearLanes (columns : List ℕ) : Type 0 where
  pub positions : IsColumns columns
  pub few : length columns ≤ MIDDLE_COLUMNS
  pub near : are_near columns ≡ true

-- The lanes of a narrow or middle head encode the columns: by the indexes of their bytes, counted from the byte `first` on, and their
-- masks.
pub record AreNearLanes (columns indexes masks : List ℕ) (first : ℕ) : Type 0 where
  pub has : HasNearLanes columns
  pub indexes_are : indexes ≡ index_lanes columns
  pub masks_are : masks ≡ mask_lanes columns
  pub first_is : first ≡ first_byte columns

-- the positions of the columns, and then 65,535, which is no position, up to sixteen numbers
abbrev pub with_free_to_16 : List ℕ → List ℕ
with_free_to_16 columns = columns ++ replicate (16 - length columns) 65535
