-- Gaps and ranges, for both directions.
use Rattle.rowex_scanning.proofs.Common.{◌≡◌, ◌⊎◌, inl, inr, ℕ, suc, ◌+◌, ◌-◌, ◌%◌, ◌^◌, ◌<◌, ◌≤◌, List, length, refl, arith, Past, IsEarlier, IsNoLater, IsScanBy, first_gap, first_key, gap_after, gap_before, gap_behind, last_key, place_ahead, to_come, Pair, Range, IsInRange, Stage, Direction, Upwards, Downwards, Key, IsBefore}
use Rattle.rowex_scanning.specs.Ahead.{slot_step}
use Rattle.rowex_scanning.specs.Scanning.{limited}

-- ---- slots
-- a step leads to the slot behind
pub slot_next : (d : Direction) (count gap i next step : ℕ) → count < 2 ^ 8 → gap ≤ count → next ≡ place_ahead d gap i → step ≡ slot_step d → i + 1 < to_come d count gap →
    (next + step) % 2 ^ 8 ≡ place_ahead d gap (i + 1)
slot_next Upwards count gap i next step small fits there is come = omega (arith, small, fits, there, is, come)
slot_next Downwards count gap i next step small fits there is come = omega (arith, small, fits, there, is, come)

-- ---- gaps
pub before_fits : (d : Direction) (place count : ℕ) → place < count → gap_before d place ≤ count
before_fits Upwards place count low = omega (arith, low)
before_fits Downwards place count low = low

pub behind_fits : (d : Direction) (place count : ℕ) → place < count → gap_behind d place ≤ count
behind_fits Upwards place count low = low
behind_fits Downwards place count low = omega (arith, low)

-- an entry less is to come behind one
pub come_behind : (d : Direction) (place count : ℕ) → place < count → to_come d count (gap_before d place) ≡ suc (to_come d count (gap_behind d place))
come_behind Upwards place count low = omega (arith, low)
come_behind Downwards place count low = omega arith

pub come_first : (d : Direction) (count : ℕ) → to_come d count (first_gap d count) ≡ count
come_first Upwards count = omega arith
come_first Downwards count = omega arith

pub come_most : (d : Direction) (count gap : ℕ) → gap ≤ count → to_come d count gap ≤ count
come_most Upwards count gap low = omega arith
come_most Downwards count gap low = low

pub first_fits : (d : Direction) (count : ℕ) → first_gap d count ≤ count
first_fits Upwards count = omega arith
first_fits Downwards count = omega arith

-- behind so many entries
pub gap_none : (d : Direction) (gap : ℕ) → gap_after d gap 0 ≡ gap
gap_none Upwards gap = omega arith
gap_none Downwards gap = omega arith

pub come_after : (d : Direction) (count gap i : ℕ) → to_come d count (gap_after d gap i) ≡ to_come d count gap - i
come_after Upwards count gap i = omega arith
come_after Downwards count gap i = refl

-- there is the place of the entry that comes then, which has this gap before it and the next one behind it
pub place_inside : (d : Direction) (count gap i : ℕ) → gap ≤ count → i < to_come d count gap → place_ahead d gap i < count
place_inside Upwards count gap i fits come = omega (arith, fits, come)
place_inside Downwards count gap i fits come = omega (arith, fits, come)

pub gap_before_place : (d : Direction) (count gap i : ℕ) → i < to_come d count gap → gap_after d gap i ≡ gap_before d (place_ahead d gap i)
gap_before_place Upwards count gap i come = refl
gap_before_place Downwards count gap i come = omega (arith, come)

pub gap_behind_place : (d : Direction) (gap i : ℕ) → gap_behind d (place_ahead d gap i) ≡ gap_after d gap (i + 1)
gap_behind_place Upwards gap i = omega arith
gap_behind_place Downwards gap i = omega arith

-- ---- keys
pub in_range : (d : Direction) (g : Range) (k : Key) → IsNoLater d (first_key d g) k → IsNoLater d k (last_key d g) → IsInRange g k
in_range Upwards g k first last = (first, last)
in_range Downwards g k first last = (last, first)

-- the limit of its pairs would do
pub scan_limited : (s : Past) (m : ℕ) (g : Range) (d : Direction) (n : ℕ) (fs : List Stage) (xs : List Pair) → length xs ≤ n → IsScanBy d s m g fs xs → IsScanBy d s m (limited g n) fs xs
scan_limited s m g d n fs xs few w = record { stack = w.stack; ordered = w.ordered; within = w.within; held = w.held; passed = w.passed; short = few; covered = w.covered }

-- a key before the first one of the range is out of it
pub out_first : (d : Direction) (g : Range) (k : Key) → IsEarlier d k (first_key d g) → IsBefore k g.from ⊎ IsBefore g.upto k
out_first Upwards g k low = inl low
out_first Downwards g k high = inr high

pub out_last : (d : Direction) (g : Range) (k : Key) → IsEarlier d (last_key d g) k → IsBefore k g.from ⊎ IsBefore g.upto k
out_last Upwards g k high = inr high
out_last Downwards g k low = inl low
