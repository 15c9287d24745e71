-- The bits of a key, and where two keys differ first.
use Rattle.std.specs.Prelude.{ℕ, ◌-◌, ◌/◌, ◌%◌, ◌<◌, ◌≡◌, ◌≢◌, Bool, ◌&&◌, ◌||◌, nat_lt, List, length, slice_index, eqb}
use Rattle.std.specs.Int.{bit_at}

-- The bit of the key at this position. Byte i has nine positions, from 9i to 9i + 8: for a 1, and then for the bits of the byte, the
-- highest first. Past the key's end all bits are 0.
abbrev pub bit_of : (key : List ℕ) → (position : ℕ) → Bool
bit_of key position =
    nat_lt (position / 9) (length key) && (eqb (position % 9) 0 || eqb (bit_at (slice_index key (position / 9)) (8 - position % 9)) 1)

-- The two keys differ at this position, and agree at each position before it.
pub record IsFirstDifference (key other : List ℕ) (position : ℕ) : Type 0 where
  pub differ : bit_of key position ≢ bit_of other position
  pub agree : (before : ℕ) → before < position → bit_of key before ≡ bit_of other before

-- The two bytes agree in their highest `bits` bits, and differ in the next one. The smaller byte has 0 there.
pub record BytesDifferAt (byte other bits : ℕ) : Type 0 where
  pub differ : bit_at byte (7 - bits) ≢ bit_at other (7 - bits)
  pub agree : (bit : ℕ) → bit < bits → bit_at byte (7 - bit) ≡ bit_at other (7 - bit)
  pub less : byte < other → bit_at byte (7 - bits) ≡ 0
  pub more : other < byte → bit_at byte (7 - bits) ≡ 1
