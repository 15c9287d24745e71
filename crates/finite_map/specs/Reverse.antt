-- Scans of a range from its end downwards: of one map outright, and lawful ones while the map changes. They say what `Scans` says of
-- scans in rising order.
use Rattle.std.specs.Prelude.{◌≡◌, ◌≢◌, ℕ, ◌<◌, ◌↔◌, List, length, take, reverse, All, Any, IsTrue}
use Rattle.std.specs.declared.cmp.Ordering.{Ordering}
use Rattle.std.specs.declared.cmp.Ordering.TheVariants.{Less}
use Rattle.std.specs.List.Sorted.{IsStrictlySortedBy}
use Rattle.std.specs.Map.{keys_of}
use Rattle.finite_map.specs.declared.Change.{Change}
use Rattle.finite_map.specs.declared.Scan.{Scan}
use Rattle.finite_map.specs.Maps.{Map, key_order}
use Rattle.finite_map.specs.Scans.{range_of, IsLawfulScanWith, ScanOrder}

-- the order of keys, turned round
abbrev pub falling_order : (first second : List ℕ) → Ordering
falling_order first second = key_order second first

-- each key is above those after it
abbrev pub HasFallingKeys : Map → Type 0
HasFallingKeys pairs = IsStrictlySortedBy falling_order (keys_of pairs)

-- The scan gives the last `limit` pairs of the map `whole` in the range, the last one first. `more` is true exactly if the map has further
-- pairs in the range.
pub record IsReverseScanOf (whole : Map) (from upto : List ℕ) (limit : ℕ) (scan : Scan) : Type 0 where
  pub pairs : scan.pairs.items ≡ take limit (reverse (range_of whole from upto))
  pub more : IsTrue scan.more ↔ (limit < length (range_of whole from upto))

-- Of pairs with falling keys: this key is at least the last pair's. Without pairs no key is.
abbrev pub IsDownToLast : Map → List ℕ → Type 0
IsDownToLast pairs key = Any (λ pair. key_order key pair.0 ≢ Less) pairs

-- Of pairs with falling keys: this key is below the last pair's. Without pairs each key is.
abbrev pub IsBelowLast : Map → List ℕ → Type 0
IsBelowLast pairs key = All (λ pair. key_order key pair.0 ≡ Less) pairs

-- the order of a scan's pairs from `upto` down to `from`
abbrev pub falling_scan : ScanOrder
falling_scan = record { ordered = HasFallingKeys; reached = IsDownToLast; beyond = IsBelowLast }

-- a lawful scan of the keys from `upto` down to `from`, while the front grew from `before` to `after`
abbrev pub IsLawfulReverseScan : (before after : List Change) → (from upto : List ℕ) → (limit : ℕ) → (scan : Scan) → Type 0
IsLawfulReverseScan = IsLawfulScanWith falling_scan
