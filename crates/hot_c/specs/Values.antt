-- What a scan of values tells a program in C.
use Rattle.std.specs.Prelude.{◌≡◌, ◌⊎◌, ◌++◌, ℕ, ◌≤◌, List, length, drop, Bool, Option, None, IsSome}
use Rattle.std.specs.Int.{from_bool}
use Rattle.hot_index_calls.specs.Answers.{AreValuesListed, HasFoundPair, IsUnnoted, range_from}
use Rattle.hot_index_calls.specs.Traces.{HasMadeScanSteps, untold}
use Rattle.hot_c.specs.Calls.{FitsInKey, StaysOpen}
use Rattle.hot_c.specs.declared.opened.Opened.{Opened}
use Rattle.hot_c.specs.declared.status.TheConstants.{CLOSED, DONE, KEY_TOO_LONG, NO_MEMORY}

-- What C sees of a scan of values: its array, the count of values, and whether there is a further one.
pub record ValueListing : Type 0 where
  pub room : List ℕ
  pub count : ℕ
  pub more : ℕ

-- these values as what C sees of a scan of values
abbrev pub value_listing : (room : List ℕ) (count more : ℕ) → ValueListing
value_listing room count more = record { room = room; count = count; more = more }

-- C's array has room for these values and begins with them. Behind them it is as it was. `count` is the number of values, and `more` is 1
-- if there is a further one, else 0.
pub record AreWritten (values : List ℕ) (is_more : Bool) (before after : ValueListing) : Type 0 where
  pub short : length values ≤ length before.room
  pub written : after.room ≡ values ++ drop (length values) before.room
  pub count : after.count ≡ length values
  pub more : after.more ≡ from_bool is_more

-- A scan of values through a handle, of at most as many as C's array has room for. If the handle is closed or a key too long, the status
-- says so, and nothing has changed. Else the values are written. Or memory for a pair was refused, and nothing is written. The number of
-- steps is bounded.
pub record ListsValues (from upto : List ℕ) (old new : Option Opened) (before after : ValueListing) (status : ℕ) : Type 0 where
  pub closed : old ≡ None → (status ≡ CLOSED) × (new ≡ old) × (after ≡ before)
  pub long : IsSome old → ¬ (FitsInKey from × FitsInKey upto) → (status ≡ KEY_TOO_LONG) × (new ≡ old) × (after ≡ before)
  pub made : IsSome old → FitsInKey from → FitsInKey upto →
      ((status ≡ DONE) × (values : List ℕ) × (is_more : Bool) ×
      StaysOpen (λ index was now. AreValuesListed index.layout was now (range_from from upto (length before.room)) values is_more) old new
      × AreWritten values is_more before after)
      ⊎ ((status ≡ NO_MEMORY)
      × StaysOpen (λ index was now. IsUnnoted index.layout was now
      × HasFoundPair index.layout was now (range_from from upto (length before.room))) old new
      × (after ≡ before))
  pub read : IsSome old → FitsInKey from → FitsInKey upto →
      StaysOpen (λ index was now. HasMadeScanSteps index untold (length before.room) (was, tt) (now, tt)) old new
