-- The laws of ranges of keys.
use Rattle.std.specs.Prelude.{◌↔◌, ℕ, List, IsTrue}
use Rattle.key_bits.specs.Key.{IsKey}
use Rattle.finite_map.specs.Scans.{is_within}
use Rattle.key_ranges.specs.Ranges.{HasPrefix, last_with}

-- The keys that begin with a prefix are those of a range: from the prefix itself to the last key that begins with it.
abbrev pub PrefixIsRange : Type 0
PrefixIsRange = (prefix key : List ℕ) → IsKey key → HasPrefix prefix key ↔ IsTrue (is_within prefix (last_with prefix) key)
