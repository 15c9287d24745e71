-- Bytes in places, with zeros behind them.
use Rattle.std.proofs.Common.{arith, length-append, ◌-◌, List, ℕ, ◌≡◌, ◌<◌, ◌≤◌, get_or, length, take, drop, replicate, ◌++◌, ◌∙◌, refl, ap}
use Rattle.std.proofs.lemmas.List.{take_at, drop-replicate, length-replicate}
use Rattle.std.proofs.lemmas.List.Elements.{All-from_get_or}
use Rattle.key_bits.specs.Key.{HoldsKey, IsKey, with_zeros}
use Rattle.key_bits.specs.declared.TheConstants.{MAX_BYTES}

-- bytes, of which there are not too many, are a key
pub key_of : (bytes : List ℕ) → length bytes ≤ MAX_BYTES → ((i : ℕ) → get_or bytes i 0 < 256) → IsKey bytes
key_of bytes short small = record { short = short; are_bytes = All-from_get_or (λ byte. byte < 256) bytes 0 (λ i inside. small i) }

pub length-with_zeros : (bytes : List ℕ) → length bytes ≤ MAX_BYTES → length (with_zeros bytes) ≡ MAX_BYTES
length-with_zeros bytes short = length-append bytes _ ∙ omega (arith, length-replicate {A = ℕ} (MAX_BYTES - length bytes) 0)

-- the bytes of a key are at the front of its places
pub front_of : (key : List ℕ) → take (length key) (with_zeros key) ≡ key
front_of key = take_at key _ (length key) refl

pub holds : (key places : List ℕ) → IsKey key → places ≡ with_zeros key → HoldsKey places (length key)
holds key places is same =
    let front : take (length key) places ≡ key = rw same (front_of key) in
    record { key = rw front is; counted = ap length front; zeros = rw front same }

-- bytes in front of zeros
pub written : (bytes : List ℕ) → bytes ++ drop (length bytes) (replicate MAX_BYTES 0) ≡ with_zeros bytes
written bytes = ap (λ rest. bytes ++ rest) (drop-replicate {X = ℕ} (length bytes) MAX_BYTES 0)
