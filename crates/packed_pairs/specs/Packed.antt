-- Pairs as heads and the bytes of their keys.
use Rattle.std.specs.Prelude.{ℕ, ◌≡◌, ◌≤◌, List, [], ◌∷◌, length, take, drop}
use denote.Ref.{Bor}
use Rattle.key_bits.specs.Key.{IsKey}
use Rattle.packed_pairs.specs.declared.head.PairHead.{PairHead}

-- the pairs that these heads and bytes stand for; the keys stand in the bytes one after another, and the heads tell their lengths
abbrev pub unpacked : List PairHead → List ℕ → List (List ℕ × ℕ)
unpacked [] bytes = []
unpacked (head ∷ heads) bytes = (take head.count bytes, head.value) ∷ unpacked heads (drop head.count bytes)

-- the bytes are just those of lawful keys with the lengths that these heads tell, one after another
abbrev pub ArePacked : List PairHead → List ℕ → Type 0
ArePacked [] bytes = bytes ≡ []
ArePacked (head ∷ heads) bytes = (head.count ≤ length bytes) × IsKey (take head.count bytes) × ArePacked heads (drop head.count bytes)

-- the pair that an item of an iterator shows
abbrev pub pair_of : Bor (List ℕ) × ℕ → List ℕ × ℕ
pair_of (key, value) = (key.now, value)
