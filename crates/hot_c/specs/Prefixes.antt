-- What a scan of a prefix that goes on from a key tells a program in C.
use Rattle.std.specs.Prelude.{◌≡◌, ◌↔◌, ℕ, List, IsTrue, Option, None, IsSome}
use Rattle.std.specs.declared.cmp.Ordering.TheVariants.{Less}
use Rattle.key_bits.specs.Key.{IsKey}
use Rattle.finite_map.specs.Maps.{key_order}
use Rattle.finite_map.specs.Scans.{is_within}
use Rattle.key_ranges.specs.Ranges.{HasPrefix}
use Rattle.hot_index_calls.specs.Answers.{IsListed}
use Rattle.hot_index_calls.specs.Reverse.{IsReverseListed}
use Rattle.hot_c.specs.Calls.{FitsInKey}
use Rattle.hot_c.specs.Orders.{ScanClaim}
use Rattle.hot_c.specs.Scans.{Listing, ListsBy}
use Rattle.hot_c.specs.declared.opened.Opened.{Opened}
use Rattle.hot_c.specs.declared.status.TheConstants.{CLOSED, KEY_TOO_LONG}

-- the keys of the range are just those of which `IsInside` holds
abbrev pub IsRangeOf : (IsInside : List ℕ → Type 0) (from upto : List ℕ) → Type 0
IsRangeOf IsInside from upto = (key : List ℕ) → IsKey key → IsTrue (is_within from upto key) ↔ IsInside key

-- the key begins with the prefix, and is above the key `other`
abbrev pub HasPrefixAbove : (prefix other key : List ℕ) → Type 0
HasPrefixAbove prefix other key = HasPrefix prefix key × (key_order other key ≡ Less)

-- the key begins with the prefix, and is below the key `other`
abbrev pub HasPrefixBelow : (prefix other key : List ℕ) → Type 0
HasPrefixBelow prefix other key = HasPrefix prefix key × (key_order key other ≡ Less)

-- A scan through a handle of the keys that have the prefix and are on one side of the key `other`, of which `IsInside` holds. If the handle
-- is closed, or the prefix or the key `other` too long, the status says so, and nothing has changed. Else it is a scan of the range of just
-- those keys.
pub record ListsRest (IsMade : ScanClaim) (IsInside : List ℕ → Type 0) (prefix other : List ℕ)
    (old new : Option Opened) (before after : Listing) (status : ℕ) : Type 0 where
  pub closed : old ≡ None → (status ≡ CLOSED) × (new ≡ old) × (after ≡ before)
  pub long : IsSome old → ¬ (FitsInKey prefix × FitsInKey other) → (status ≡ KEY_TOO_LONG) × (new ≡ old) × (after ≡ before)
  pub made : IsSome old → FitsInKey prefix → FitsInKey other →
      (from upto : List ℕ) × IsRangeOf IsInside from upto × FitsInKey from × FitsInKey upto ×
      ListsBy IsMade from upto old new before after status

-- a scan upwards of the keys that begin with the prefix and are above the key `other`
abbrev pub ListsAfter : (prefix other : List ℕ) (old new : Option Opened) (before after : Listing) (status : ℕ) → Type 0
ListsAfter prefix other = ListsRest IsListed (HasPrefixAbove prefix other) prefix other

-- a scan downwards of the keys that begin with the prefix and are below the key `other`
abbrev pub ListsBefore : (prefix other : List ℕ) (old new : Option Opened) (before after : Listing) (status : ℕ) → Type 0
ListsBefore prefix other = ListsRest IsReverseListed (HasPrefixBelow prefix other) prefix other
