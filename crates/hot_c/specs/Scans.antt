-- What the scans of a program in C say.
use Rattle.std.specs.Prelude.{◌≡◌, ◌⊎◌, ℕ, ◌≤◌, List, length, drop, Bool, Option, Some, None, IsSome}
use Rattle.std.specs.Int.{from_bool}
use Rattle.version_laws.specs.Scan.{Range}
use Rattle.hot_index_calls.specs.Answers.{HasFoundPair, IsListed, IsUnnoted, range_from}
use Rattle.hot_index_calls.specs.Reverse.{IsReverseListed}
use Rattle.hot_index_calls.specs.Traces.{HasMadeScanSteps, untold}
use Rattle.hot_c.specs.Calls.{FitsInKey, StaysOpen}
use Rattle.hot_c.specs.Orders.{ScanClaim, IsLastListed}
use Rattle.hot_c.specs.Pairs.{HoldPairs}
use Rattle.hot_c.specs.declared.opened.Opened.{Opened}
use Rattle.hot_c.specs.declared.pairs.Pair.{Pair}
use Rattle.hot_c.specs.declared.status.TheConstants.{DONE, KEY_TOO_LONG, CLOSED, NO_MEMORY}

-- A scan through a handle has filled the handle's list with `count` pairs, at most as many as the range's limit. The range's ends aren't
-- too long. `is_more` says whether there is a further pair, and `IsMade` what the pairs are. The steps are those of a scan with this limit.
-- The handle stays open, at the same index, and keeps the closed handles that it kept.
pub record HasFilledList (IsMade : ScanClaim) (range : Range) (old new : Option Opened) (count : ℕ) (is_more : Bool) : Type 0 where
  pub before : Opened
  pub after : Opened
  pub was : old ≡ Some before
  pub is : new ≡ Some after
  pub index : after.handle.index ≡ before.handle.index
  pub keeps : after.kept.items ≡ before.kept.items
  pub fit : FitsInKey range.from × FitsInKey range.upto
  pub count_is : count ≡ length after.list
  pub few : count ≤ range.limit
  pub made : IsMade before.handle.index.layout before.handle.pass after.handle.pass range after.list is_more
  pub read : HasMadeScanSteps before.handle.index untold range.limit (before.handle.pass, tt) (after.handle.pass, tt)

-- A scan through a handle lists nothing. If the handle is closed or a key too long, the status says so, and nothing has changed. Else
-- memory was refused for a pair that the scan had found, and the number of its steps is bounded.
pub record ListsNothing (range : Range) (old new : Option Opened) (status : ℕ) : Type 0 where
  pub closed : old ≡ None → (status ≡ CLOSED) × (new ≡ old)
  pub long : IsSome old → ¬ (FitsInKey range.from × FitsInKey range.upto) → (status ≡ KEY_TOO_LONG) × (new ≡ old)
  pub full : IsSome old → FitsInKey range.from → FitsInKey range.upto →
      (status ≡ NO_MEMORY) × StaysOpen (λ index was now. IsUnnoted index.layout was now × HasFoundPair index.layout was now range) old new
  pub read : IsSome old → FitsInKey range.from → FitsInKey range.upto → StaysOpen (λ index was now. HasMadeScanSteps index untold range.limit (was, tt) (now, tt)) old new

-- A scan through a handle. If the handle is closed or a key too long, the status says so, and nothing has changed. Else the scan is made
-- (`IsMade`), and its pairs are written where C has room for them (`IsWritten`). Or memory was refused for a pair that it had found, and
-- nothing is written. Either way the handle stays open, and the number of steps is bounded.
pub record ListsInto {Room : Type 0} (IsWritten : List (List ℕ × ℕ) → Bool → Room → Room → Type 0)
    (IsMade : ScanClaim) (range : Range) (old new : Option Opened) (before after : Room) (status : ℕ) : Type 0 where
  pub closed : old ≡ None → (status ≡ CLOSED) × (new ≡ old) × (after ≡ before)
  pub long : IsSome old → ¬ (FitsInKey range.from × FitsInKey range.upto) → (status ≡ KEY_TOO_LONG) × (new ≡ old) × (after ≡ before)
  pub made : IsSome old → FitsInKey range.from → FitsInKey range.upto →
      ((status ≡ DONE) × (pairs : List (List ℕ × ℕ)) × (is_more : Bool) ×
      StaysOpen (λ index was now. IsMade index.layout was now range pairs is_more) old new × IsWritten pairs is_more before after)
      ⊎ ((status ≡ NO_MEMORY) × StaysOpen (λ index was now. IsUnnoted index.layout was now × HasFoundPair index.layout was now range) old new
      × (after ≡ before))
  pub read : IsSome old → FitsInKey range.from → FitsInKey range.upto → StaysOpen (λ index was now. HasMadeScanSteps index untold range.limit (was, tt) (now, tt)) old new

-- What C sees of a scan: its array, the count of pairs, and whether there is a further pair.
pub record Listing : Type 0 where
  pub room : List Pair
  pub count : ℕ
  pub more : ℕ

-- these values as what C sees of a scan
abbrev pub listing : (room : List Pair) (count more : ℕ) → Listing
listing room count more = record { room = room; count = count; more = more }

-- C's array has room for the scan's pairs and begins with them. Behind them, and behind the key of each, it is as it was. `count` is the
-- number of pairs, and `more` is 1 if there is a further pair, else 0.
pub record IsArrayListed (pairs : List (List ℕ × ℕ)) (is_more : Bool) (before after : Listing) : Type 0 where
  pub short : length pairs ≤ length before.room
  pub written : HoldPairs pairs before.room after.room
  pub others : drop (length pairs) after.room ≡ drop (length pairs) before.room
  pub count : after.count ≡ length pairs
  pub more : after.more ≡ from_bool is_more

-- a scan through a handle, of at most as many pairs as C's array has room for
abbrev pub ListsBy : (IsMade : ScanClaim) (from upto : List ℕ) (old new : Option Opened) (before after : Listing) (status : ℕ) → Type 0
ListsBy IsMade from upto old new before after status =
    ListsInto IsArrayListed IsMade (range_from from upto (length before.room)) old new before after status

-- a scan upwards, from the first key of the range on
abbrev pub ListsUpwards : (from upto : List ℕ) (old new : Option Opened) (before after : Listing) (status : ℕ) → Type 0
ListsUpwards = ListsBy IsListed

-- a scan downwards: the last pairs of the range, in falling order
abbrev pub ListsReverse : (from upto : List ℕ) (old new : Option Opened) (before after : Listing) (status : ℕ) → Type 0
ListsReverse = ListsBy IsReverseListed

-- a scan of the last pairs of the range, in rising order
abbrev pub ListsLast : (from upto : List ℕ) (old new : Option Opened) (before after : Listing) (status : ℕ) → Type 0
ListsLast = ListsBy IsLastListed
