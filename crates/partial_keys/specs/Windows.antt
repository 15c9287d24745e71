-- The lanes of a gathering by vectors.
use Rattle.std.specs.Prelude.{ℕ, List, Bool, min, bit_and, bit_or, nat_le, nat_lt, slice_index, ◌+◌, ◌-◌, ◌*◌, ◌/◌, ◌%◌, ◌&&◌}
use Rattle.key_bits.specs.Bits.{bit_of}
use Rattle.partial_keys.specs.declared.gathering.TheConstants.{MASKS}

-- the index of the byte that has the position; for a position of no key, a number that is no byte's index in a key
abbrev pub byte_lane : ℕ → ℕ
byte_lane position = min (position * 7282 / 65536) 255

-- the mask of the position in its byte; 0 for the first of the nine positions of a byte
abbrev pub mask_lane : ℕ → ℕ
mask_lane position = slice_index MASKS (position * 7282 % 65536 / 4096)

-- What a lane misses: its mask if the byte in the window lacks that bit, and some bits if its byte is behind byte `last`. The window has
-- sixteen bytes of a key from byte `first` on, once for each half of the lanes.
abbrev pub missed_lane : (window : List ℕ) → (first last lane byte mask : ℕ) → ℕ
missed_lane window first last lane byte mask =
    bit_or (bit_and mask (255 - slice_index window (16 * (lane / 16) + (byte + 256 - first) % 16))) (byte - last)

-- the key's bit at the position, if its byte is one of the sixteen from byte `first` on; else 0
abbrev pub bit_within : (first : ℕ) → List ℕ → (position : ℕ) → Bool
bit_within first key position = bit_of key position && (nat_le first (position / 9) && nat_lt (position / 9) (first + 16))
