-- The next key, and keys with a prefix.
use Rattle.std.specs.Prelude.{◌≡◌, ◌≢◌, ℕ, ◌-◌, ◌++◌, List, length, replicate}
use Rattle.std.specs.declared.cmp.Ordering.TheVariants.{Less, Greater}
use Rattle.key_bits.specs.Key.{IsKey}
use Rattle.key_bits.specs.declared.TheConstants.{MAX_BYTES}
use Rattle.finite_map.specs.Maps.{key_order}

-- `next` is the least of the keys above `key`.
pub record IsNextKey (key next : List ℕ) : Type 0 where
  pub is_key : IsKey next
  pub above : key_order key next ≡ Less
  pub least : (other : List ℕ) → IsKey other → key_order key other ≡ Less → key_order next other ≢ Greater

-- no key is above this one
abbrev pub NoKeyAbove : List ℕ → Type 0
NoKeyAbove key = (other : List ℕ) → IsKey other → key_order key other ≢ Less

-- `previous` is the greatest of the keys below `key`.
pub record IsPreviousKey (key previous : List ℕ) : Type 0 where
  pub is_key : IsKey previous
  pub below : key_order previous key ≡ Less
  pub greatest : (other : List ℕ) → IsKey other → key_order other key ≡ Less → key_order other previous ≢ Greater

-- the key begins with the prefix
abbrev pub HasPrefix : (prefix key : List ℕ) → Type 0
HasPrefix prefix key = (rest : List ℕ) × (key ≡ prefix ++ rest)

-- the last of the keys that begin with the prefix: behind it are bytes of 255, up to MAX_BYTES bytes in all
abbrev pub last_with : List ℕ → List ℕ
last_with prefix = prefix ++ replicate (MAX_BYTES - length prefix) 255
