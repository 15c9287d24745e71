-- What is true of a pass between two calls.
use Rattle.std.specs.Prelude.{◌≡◌, All, List, [], ◌∷◌}
use Rattle.hot_index.specs.KeyCounts.{IsCountOf}
use Rattle.hot_index.specs.declared.key_counts.KeyCount.{KeyCount}
use Rattle.rowex_core.specs.declared.known.Known.{Known}
use Rattle.rowex_table.specs.Seats.{SeatView}
use Rattle.hot_index_calls.specs.Passes.{IsSettled}

-- A pass that knows `known` is between two calls, and `count` is the count of keys of its answered calls.
pub record IsSettledWith (known : Known) (count : KeyCount) : Type 0 where
  pub settled : IsSettled known
  pub counts : IsCountOf known.pass known.notes count

-- the pass of the seat is between two calls, and has no answered call
abbrev pub HasNoCall : SeatView → Type 0
HasNoCall seat = IsSettled seat.known × (seat.known.notes ≡ [])

-- The passes of these seats are between two calls. `count` is that of the first pass's calls. No other pass has an answered call. So it is
-- once an index is made, empty or by a load.
abbrev pub AreSettled : (count : KeyCount) (seats : List SeatView) → Type 0
AreSettled count [] = Unit {0}
AreSettled count (seat ∷ seats) = IsSettledWith seat.known count × All HasNoCall seats
