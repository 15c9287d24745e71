-- Which lists of numbers are keys.
use Rattle.std.specs.Prelude.{ℕ, ◌≡◌, ◌-◌, ◌<◌, ◌≤◌, ◌++◌, List, length, take, replicate, All}
use Rattle.key_bits.specs.declared.TheConstants.{MAX_BYTES}

-- The list is a key: at most MAX_BYTES numbers, each of them a byte, so below 256.
pub record IsKey (key : List ℕ) : Type 0 where
  pub short : length key ≤ MAX_BYTES
  pub are_bytes : All (λ byte. byte < 256) key

-- the bytes of the key, and behind them zeros up to MAX_BYTES bytes
abbrev pub with_zeros : List ℕ → List ℕ
with_zeros key = key ++ replicate (MAX_BYTES - length key) 0

-- The first `count` numbers of the array are a key, and behind them it has zeros up to MAX_BYTES numbers.
pub record HoldsKey (places : List ℕ) (count : ℕ) : Type 0 where
  pub key : IsKey (take count places)
  pub counted : length (take count places) ≡ count
  pub zeros : places ≡ with_zeros (take count places)
