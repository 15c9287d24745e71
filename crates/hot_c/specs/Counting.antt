-- What the count of a range tells a program in C.
use Rattle.std.specs.Prelude.{◌≡◌, ℕ, ◌-◌, ◌^◌, List, Option, None, IsSome}
use Rattle.hot_index_calls.specs.Answers.{range_from}
use Rattle.hot_index_calls.specs.Calls.{IsCountRead}
use Rattle.hot_c.specs.Calls.{FitsInKey, StaysOpen}
use Rattle.hot_c.specs.declared.opened.Opened.{Opened}
use Rattle.hot_c.specs.declared.status.TheConstants.{CLOSED, DONE, KEY_TOO_LONG}

-- A range is counted through a handle. C's word for the number was `before` and is `after`. If the handle is closed or a key too long, the
-- status says so, and nothing has changed. Else the handle stays open, and the word is the number, of at most 2^63 - 1 keys.
pub record CountsRange (from upto : List ℕ) (old new : Option Opened) (before after status : ℕ) : Type 0 where
  pub closed : old ≡ None → (status ≡ CLOSED) × (new ≡ old) × (after ≡ before)
  pub long : IsSome old → ¬ (FitsInKey from × FitsInKey upto) → (status ≡ KEY_TOO_LONG) × (new ≡ old) × (after ≡ before)
  pub made : IsSome old → FitsInKey from → FitsInKey upto →
      (status ≡ DONE) × StaysOpen (IsCountRead (range_from from upto (2 ^ 63 - 1)) after) old new
