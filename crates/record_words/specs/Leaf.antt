-- The words of a leaf record.
use Rattle.std.specs.Prelude.{ℕ, ◌≡◌, ◌+◌, ◌-◌, ◌*◌, ◌/◌, ◌^◌, ◌<◌, cond, nat_eq, nat_lt, if◌then◌else◌, List, length, map, drop, get_or, slice_index}
use Rattle.std.specs.List.{range_with_len}
use Rattle.std.specs.Int.{from_be_bytes, w64}
use Rattle.record_words.specs.Decoding.{key_length_in}
use Rattle.record_words.specs.declared.TheConstants.{FIELDS_OFFSET, FIRST_KEY_WORD, KEY_OFFSET, KEY_WORDS, LEAF_FIELDS, LENGTH_OFFSET, VALUE_OFFSET}
use Rattle.key_bits.specs.Key.{IsKey}
use Rattle.key_bits.specs.declared.TheConstants.{MAX_BYTES}

-- The word of this index among the words of a key. It has eight bytes of the key, the first in the highest bits, and 0 past the key's end.
unfoldable pub key_word : List ℕ → ℕ → ℕ
key_word key index = from_be_bytes w64 (drop (8 * index) key)

-- how many words a key of so many bytes takes
abbrev pub words_of_key : ℕ → ℕ
words_of_key bytes = (bytes + 7) / 8

-- How many words a leaf record needs for a key of so many bytes: for its state, its value, the length, and the key.
abbrev pub words_for : ℕ → ℕ
words_for bytes = KEY_OFFSET + words_of_key bytes

-- the word at an offset of a leaf record with this key and value; the state, at offset 0, is left out
abbrev pub leaf_word : (leaf : List ℕ × ℕ) → (offset : ℕ) → ℕ
leaf_word (key, value) offset =
    cond (nat_eq offset VALUE_OFFSET) value (cond (nat_eq offset LENGTH_OFFSET) (length key) (key_word key (offset - KEY_OFFSET)))

-- the words of a leaf record without its state, at offsets 1 to LEAF_FIELDS
unfoldable pub leaf_words : List ℕ × ℕ → List ℕ
leaf_words leaf = map (leaf_word leaf) (range_with_len FIELDS_OFFSET LEAF_FIELDS)

-- The words of a leaf record without its state, where all words behind the end of the key count as 0. A record that was used before may
-- have others there.
unfoldable pub up_to_key : List ℕ → List ℕ
up_to_key words =
    map (λ index. if nat_lt index (FIRST_KEY_WORD + words_of_key (key_length_in words)) then get_or words index 0 else 0)
    (range_with_len 0 LEAF_FIELDS)

-- The leaf can be encoded: its key is lawful, and its value has 64 bits.
pub record HasLeafWords (leaf : List ℕ × ℕ) : Type 0 where
  pub key : IsKey leaf.0
  pub value : leaf.1 < 2 ^ 64

-- The bytes are MAX_BYTES in number, and the words of a key, eight bytes each, spell them.
pub record IsBytesOf (bytes words : List ℕ) : Type 0 where
  pub count : length bytes ≡ MAX_BYTES
  pub words_are : (index : ℕ) → index < KEY_WORDS → key_word bytes index ≡ slice_index words index
