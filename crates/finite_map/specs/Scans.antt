-- Scans of a range: of one map outright, and lawful ones while the map changes.
use Rattle.std.specs.Prelude.{◌≡◌, ◌≢◌, ℕ, ◌≤◌, ◌<◌, ◌↔◌, List, length, take, drop, filter, All, Any, Contains, Bool, true, false, IsTrue, IsSome, Some}
use Rattle.std.specs.declared.cmp.Ordering.TheVariants.{Less, Greater}
use Rattle.std.specs.Map.{keys_of}
use Rattle.std.specs.BTreeMap.Range.{range_contains}
use Rattle.std.specs.declared.ops.Bound.TheVariants.{Included}
use Rattle.finite_map.specs.declared.Change.{Change}
use Rattle.finite_map.specs.declared.Kind.TheVariants.{Removed}
use Rattle.finite_map.specs.declared.Scan.{Scan}
use Rattle.finite_map.specs.Maps.{Map, key_order, IsRising, value_at}
use Rattle.finite_map.specs.Fronts.{map_of, BeginsWith}

-- whether the key is in the range from `from` to `upto`, both included
abbrev pub is_within : (from upto key : List ℕ) → Bool
is_within from upto key = range_contains key_order (Included from) (Included upto) key

-- the pairs of the map whose keys are in the range
abbrev pub range_of : (pairs : Map) → (from upto : List ℕ) → Map
range_of pairs from upto = filter (λ pair. is_within from upto pair.0) pairs

-- The scan gives the first `limit` pairs of the map `whole` in the range. `more` is true exactly if the map has further pairs in the range.
pub record IsScanOf (whole : Map) (from upto : List ℕ) (limit : ℕ) (scan : Scan) : Type 0 where
  pub pairs : scan.pairs.items ≡ take limit (range_of whole from upto)
  pub more : IsTrue scan.more ↔ (limit < length (range_of whole from upto))

-- At some moment between the two fronts the key had the value. That is after the first `count` changes of `after`, where `count` is at
-- least the length of `before` and at most that of `after`.
abbrev pub IsHeldBetween : (before after : List Change) → (key : List ℕ) → (value : ℕ) → Type 0
IsHeldBetween before after key value =
    (count : ℕ) × (length before ≤ count) × (count ≤ length after) × (value_at (map_of (take count after)) key ≡ Some value)

-- The map of the front `before` has the key, and no later change of the front `after` removes it.
abbrev pub IsHeldThroughout : (before after : List Change) → (key : List ℕ) → Type 0
IsHeldThroughout before after key =
    IsSome (value_at (map_of before) key) × All (λ change. change.kind ≡ Removed → change.key ≢ key) (drop (length before) after)

-- Of pairs with rising keys: this key is at most the last pair's. Without pairs no key is.
abbrev pub IsUpToLast : Map → List ℕ → Type 0
IsUpToLast pairs key = Any (λ pair. key_order key pair.0 ≢ Greater) pairs

-- Of pairs with rising keys: this key is above the last pair's. Without pairs each key is.
abbrev pub IsPastLast : Map → List ℕ → Type 0
IsPastLast pairs key = All (λ pair. key_order pair.0 key ≡ Less) pairs

-- What a scan's direction decides of its pairs. `ordered`: their keys are in order. `reached`: a key is no further than the last pair's.
-- `beyond`: a key is further than the last pair's.
pub record ScanOrder : Type 1 where
  pub ordered : Map → Type 0
  pub reached : Map → List ℕ → Type 0
  pub beyond : Map → List ℕ → Type 0

-- A lawful scan, in this order, of the keys from `from` to `upto`, while the front `before` grew to `after`. It gives at most `limit` pairs
-- of the range, in order. Each was in the map at some moment meanwhile.
pub record IsLawfulScanWith (order : ScanOrder) (before after : List Change) (from upto : List ℕ) (limit : ℕ) (scan : Scan) : Type 0 where
  pub begins : BeginsWith after before
  pub ordered : order.ordered scan.pairs.items
  pub within : All (λ pair. IsTrue (is_within from upto pair.0)) scan.pairs.items
  pub short : length scan.pairs.items ≤ limit
  pub held : All (λ pair. IsHeldBetween before after pair.0 pair.1) scan.pairs.items
  -- without `more`, each key of the range that was there all along is listed
  pub whole : scan.more ≡ false → (key : List ℕ) → IsTrue (is_within from upto key) → IsHeldThroughout before after key →
      Contains (keys_of scan.pairs.items) key
  -- with `more`, each such key as far as the last pair's is listed
  pub part : scan.more ≡ true → (key : List ℕ) → IsTrue (is_within from upto key) → IsHeldThroughout before after key → order.reached scan.pairs.items key →
      Contains (keys_of scan.pairs.items) key
  -- with `more`, the scan is full, and some key of the range beyond the last pair's was there meanwhile
  pub full : scan.more ≡ true → length scan.pairs.items ≡ limit
  pub further : scan.more ≡ true → (key : List ℕ) × (value : ℕ) × IsTrue (is_within from upto key) × IsHeldBetween before after key value ×
      order.beyond scan.pairs.items key

-- the order of a scan's pairs from `from` up to `upto`
abbrev pub rising_scan : ScanOrder
rising_scan = record { ordered = IsRising; reached = IsUpToLast; beyond = IsPastLast }

-- a lawful scan of the keys from `from` up to `upto`, while the front grew from `before` to `after`
abbrev pub IsLawfulScan : (before after : List Change) → (from upto : List ℕ) → (limit : ℕ) → (scan : Scan) → Type 0
IsLawfulScan = IsLawfulScanWith rising_scan
