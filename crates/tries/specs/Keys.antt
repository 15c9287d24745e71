-- The bits of keys: where two keys agree, where they differ first, and which comes first.
use Rattle.key_bits.specs.Bits.{bit_of}
use Rattle.std.specs.Prelude.{◌≡◌, ◌⊎◌, ℕ, ◌<◌, List, Bool, true, false}

-- A key is its bytes.
abbrev pub Key : Type 0
Key = List ℕ

-- The key's bit at a position, as `bit_of` says. It is not unfolded by itself, since few proofs look into it.
unfoldable pub bit : Key → ℕ → Bool
bit key position = bit_of key position

-- The two keys have the same bits at all positions before this one.
abbrev pub AgreeBelow : (position : ℕ) → (key other : Key) → Type 0
AgreeBelow position key other = (earlier : ℕ) → earlier < position → bit key earlier ≡ bit other earlier

-- The two keys first differ at this position, where `key` has a 0 and `other` a 1.
abbrev pub IsParted : (position : ℕ) → (key other : Key) → Type 0
IsParted position key other = AgreeBelow position key other × (bit key position ≡ false) × (bit other position ≡ true)

-- The key `key` comes before `other`: at the first position where they differ, it has a 0.
abbrev pub IsBefore : (key other : Key) → Type 0
IsBefore key other = (position : ℕ) × IsParted position key other

-- the key `key` is `other`, or comes before it
abbrev pub IsAtMost : (key other : Key) → Type 0
IsAtMost key other = (key ≡ other) ⊎ IsBefore key other
