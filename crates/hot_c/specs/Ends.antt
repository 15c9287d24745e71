-- What searches for the first or the last pair of a range tell a program in C.
use Rattle.std.specs.Prelude.{◌≡◌, ◌⊎◌, ℕ, List, [], Bool, Option, None, IsSome}
use Rattle.std.specs.Option.{option_to_list}
use Rattle.record_words.specs.declared.layout.Layout.{Layout}
use Rattle.hot_index_calls.specs.Answers.{HasFoundPair, IsUnnoted, range_from}
use Rattle.hot_index_calls.specs.Passes.{PassView}
use Rattle.hot_index.specs.Ranges.{IsFirstFound}
use Rattle.hot_index_calls.specs.Reverse.{IsLastFound}
use Rattle.key_ranges.specs.Ranges.{last_with}
use Rattle.hot_index_calls.specs.Traces.{HasMadeScanSteps, untold}
use Rattle.hot_c.specs.Calls.{FitsInKey, StaysOpen}
use Rattle.hot_c.specs.Orders.{IsFilledIn}
use Rattle.hot_c.specs.Pairs.{IsPairTold}
use Rattle.hot_c.specs.declared.opened.Opened.{Opened}
use Rattle.hot_c.specs.declared.pairs.Order.{Order}
use Rattle.hot_c.specs.declared.pairs.Pair.{Pair}
use Rattle.hot_c.specs.declared.status.TheConstants.{CLOSED, KEY_TOO_LONG, NO_MEMORY}

-- A search for one pair through a handle. If the handle is closed, or a key that the search takes is too long (not `Fits`), the status says
-- so, and nothing has changed. Else the search is made (`IsFound`). C's pair holds what it found, or the status says that there is none. Or
-- memory was refused for a pair that was there (`HasPair`), and C's pair is as it was. Its steps are those of a scan with limit 1.
pub record FindsBy (Fits : Type 0) (IsFound : Layout → PassView → PassView → Option (List ℕ × ℕ) → Type 0)
    (HasPair : Layout → PassView → PassView → Type 0) (old new : Option Opened) (before after : Pair) (status : ℕ) : Type 0 where
  pub closed : old ≡ None → (status ≡ CLOSED) × (new ≡ old) × (after ≡ before)
  pub long : IsSome old → ¬ Fits → (status ≡ KEY_TOO_LONG) × (new ≡ old) × (after ≡ before)
  pub made : IsSome old → Fits →
      ((found : Option (List ℕ × ℕ)) × StaysOpen (λ index was now. IsFound index.layout was now found) old new × IsPairTold found before after status)
      ⊎ ((status ≡ NO_MEMORY) × StaysOpen (λ index was now. IsUnnoted index.layout was now × HasPair index.layout was now) old new × (after ≡ before))
  pub read : IsSome old → Fits → StaysOpen (λ index was now. HasMadeScanSteps index untold 1 (was, tt) (now, tt)) old new

-- the search tells the first pair whose key is `from` or above, or that there is none
abbrev pub FindsFirst : (from : List ℕ) (old new : Option Opened) (before after : Pair) (status : ℕ) → Type 0
FindsFirst from = FindsBy (FitsInKey from) (λ layout was now. IsFirstFound layout was now from)
    (λ layout was now. HasFoundPair layout was now (range_from from (last_with []) 1))

-- the search tells the last pair whose key is `upto` or below, or that there is none
abbrev pub FindsLast : (upto : List ℕ) (old new : Option Opened) (before after : Pair) (status : ℕ) → Type 0
FindsLast upto = FindsBy (FitsInKey upto) (λ layout was now. IsLastFound layout was now upto)
    (λ layout was now. HasFoundPair layout was now (range_from [] upto 1))

-- the search tells the pair that a scan of the range in this order finds first, or that there is none
abbrev pub FindsFirstIn : (order : Order) (from upto : List ℕ) (old new : Option Opened) (before after : Pair) (status : ℕ) → Type 0
FindsFirstIn order from upto = FindsBy (FitsInKey from × FitsInKey upto)
    (λ layout was now found. (is_more : Bool) × IsFilledIn order layout was now (range_from from upto 1) (option_to_list found) is_more)
    (λ layout was now. HasFoundPair layout was now (range_from from upto 1))
