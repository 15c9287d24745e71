-- What a scan of a program in C says that packs its pairs.
use Rattle.std.specs.Prelude.{◌≡◌, ◌||◌, ℕ, ◌<◌, ◌≤◌, List, ◌++◌, length, take, drop, map, Bool, true, nat_lt, Option}
use Rattle.std.specs.Int.{from_bool}
use Rattle.packed_pairs.specs.Parts.{fitting, packed_head, keys_in}
use Rattle.packed_pairs.specs.declared.head.PairHead.{PairHead}
use Rattle.record_words.specs.declared.layout.Layout.{Layout}
use Rattle.rowex_scanning.specs.Scanning.{limited}
use Rattle.version_laws.specs.Scan.{Range}
use Rattle.hot_index_calls.specs.Answers.{IsListed, range_from}
use Rattle.hot_index_calls.specs.Passes.{PassView}
use Rattle.hot_index_calls.specs.Reverse.{IsReverseListed}
use Rattle.hot_c.specs.Orders.{ScanClaim}
use Rattle.hot_c.specs.Scans.{ListsInto}
use Rattle.hot_c.specs.declared.opened.Opened.{Opened}

-- What C sees of a scan that packs its pairs. It is an array of bytes, one of heads, the count of pairs, and whether there is a further
-- pair.
pub record Packing : Type 0 where
  pub bytes : List ℕ
  pub heads : List PairHead
  pub count : ℕ
  pub more : ℕ

-- these values as what C sees of a scan that packs its pairs
abbrev pub packing : List ℕ → List PairHead → (count more : ℕ) → Packing
packing bytes heads count more = record { bytes = bytes; heads = heads; count = count; more = more }

-- C's arrays begin with the keys and the heads of the first pairs: as many pairs as have keys that fit into the bytes. Behind these the
-- arrays are as they were. `count` is the number of the pairs that were written. There is a further pair if the scan found one, or if one
-- didn't fit. The scan has found no more pairs than C has room for heads.
pub record IsPackListed (pairs : List (List ℕ × ℕ)) (is_more : Bool) (before after : Packing) : Type 0 where
  pub written : List (List ℕ × ℕ)
  pub fit : written ≡ fitting (length before.bytes) pairs
  pub short : length pairs ≤ length before.heads
  pub bytes : after.bytes ≡ keys_in written ++ drop (length (keys_in written)) before.bytes
  pub heads : after.heads ≡ map packed_head written ++ drop (length written) before.heads
  pub count : after.count ≡ length written
  pub more : after.more ≡ from_bool (is_more || nat_lt (length written) (length pairs))

-- A scan was answered with these pairs. Take any number of the first ones, fewer than all. A scan with this number as its limit is answered
-- with these, and has a further pair. So the scan may be cut where C has no room.
pub record IsListedByParts (IsMade : ScanClaim) (layout : Layout) (old new : PassView) (range : Range) (pairs : List (List ℕ × ℕ)) (is_more : Bool) : Type 0 where
  pub whole : IsMade layout old new range pairs is_more
  pub parts : (count : ℕ) → count < length pairs → IsMade layout old new (limited range count) (take count pairs) true

-- a scan that packs its pairs, of at most as many pairs as C has room for heads
abbrev pub ListsPackedBy : ScanClaim → (from upto : List ℕ) → (old new : Option Opened) → (before after : Packing) → (status : ℕ) → Type 0
ListsPackedBy IsMade from upto old new before after status =
    ListsInto IsPackListed (IsListedByParts IsMade) (range_from from upto (length before.heads)) old new before after status

-- a scan upwards that packs its pairs, from the first key of the range on
abbrev pub ListsPacked : (from upto : List ℕ) → (old new : Option Opened) → (before after : Packing) → (status : ℕ) → Type 0
ListsPacked = ListsPackedBy IsListed

-- a scan downwards that packs its pairs, from the last key of the range on
abbrev pub ListsPackedReverse : (from upto : List ℕ) → (old new : Option Opened) → (before after : Packing) → (status : ℕ) → Type 0
ListsPackedReverse = ListsPackedBy IsReverseListed
