-- The orders in which a scan lists its pairs, and what is said of its answer in each.
use Rattle.std.specs.Prelude.{ℕ, List, reverse, Bool}
use Rattle.record_words.specs.declared.layout.Layout.{Layout}
use Rattle.version_laws.specs.Scan.{Range}
use Rattle.hot_index_calls.specs.Answers.{IsListed}
use Rattle.hot_index_calls.specs.Passes.{PassView}
use Rattle.hot_index_calls.specs.Reverse.{IsReverseListed}
use Rattle.packed_pairs.specs.declared.direction.Direction.{Direction}
use Rattle.packed_pairs.specs.declared.direction.Direction.TheVariants.{Upwards as Rising, Downwards as Falling}
use Rattle.hot_c.specs.declared.pairs.Order.{Order}
use Rattle.hot_c.specs.declared.pairs.Order.TheVariants.{Upwards, Downwards, LastUpwards}

-- What may be said of a scan of a range, from its pairs and from whether there is a further pair.
abbrev pub ScanClaim : Type 1
ScanClaim = (layout : Layout) (old new : PassView) (range : Range) (pairs : List (List ℕ × ℕ)) (is_more : Bool) → Type 0

-- A scan of the last pairs of a range was answered with these pairs, in rising order. A scan downwards would list them from the last on.
abbrev pub IsLastListed : ScanClaim
IsLastListed layout old new range pairs is_more = IsReverseListed layout old new range (reverse pairs) is_more

-- a scan for this order was answered with these pairs, which stand as the order lists them
abbrev pub IsListedIn : Order → ScanClaim
IsListedIn Upwards = IsListed
IsListedIn Downwards = IsReverseListed
IsListedIn LastUpwards = IsLastListed

-- The pairs as this order lists them, where `pairs` has them as the scan finds them. For `LastUpwards` they are turned round, since a scan
-- finds the last pairs downwards.
abbrev pub in_order : (order : Order) (pairs : List (List ℕ × ℕ)) → List (List ℕ × ℕ)
in_order Upwards pairs = pairs
in_order Downwards pairs = pairs
in_order LastUpwards pairs = reverse pairs

-- the direction in which a scan in this order finds its pairs
abbrev pub direction_of : Order → Direction
direction_of Upwards = Rising
direction_of Downwards = Falling
direction_of LastUpwards = Falling

-- A scan for this order was answered. Its pairs stand in the order in which it found them.
abbrev pub IsFilledIn : Order → ScanClaim
IsFilledIn Upwards = IsListed
IsFilledIn Downwards = IsReverseListed
IsFilledIn LastUpwards = IsReverseListed
