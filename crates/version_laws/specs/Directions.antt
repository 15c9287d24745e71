-- The two directions of a scan: in which order a scan passes slots and keys, what it knows of the past, and what it promises.
use Rattle.std.specs.Prelude.{◌≡◌, ◌⊎◌, ℕ, suc, ◌+◌, ◌-◌, ◌<◌, ◌≤◌, List, [], ◌∷◌, length, Bool, false, true}
use Rattle.finite_map.specs.declared.Change.{Change}
use Rattle.finite_map.specs.declared.Scan.{Scan}
use Rattle.finite_map.specs.Reverse.{IsLawfulReverseScan}
use Rattle.finite_map.specs.Scans.{IsLawfulScan}
use Rattle.tries.specs.Keys.{Key, IsAtMost, IsBefore}
use Rattle.tries.specs.Place.{spot}
use Rattle.versions.specs.Frames.{IsGrown}
use Rattle.versions.specs.State.{Past, IsHeldSince, IsKeptSince, KeepsFixedWordsSince}
use Rattle.record_words.specs.declared.records.Rec.TheVariants.{Node as a_node}
use Rattle.version_laws.specs.Scan.{MayStandAt, HadKeyBelow, Frame, IsStack, Pair, Every, IsKeyListed, Range, IsInRange}
use Rattle.packed_pairs.specs.declared.direction.Direction.{Direction}
use Rattle.packed_pairs.specs.declared.direction.Direction.TheVariants.{Upwards, Downwards}

-- Gaps. A scan stands at a gap in a node: before the first entry, between two, or behind the last. Gap i is just below slot i.

-- the gap at which a scan in this direction is just before it takes the entry in slot `place`
abbrev pub gap_before : (direction : Direction) → (place : ℕ) → ℕ
gap_before Upwards place = place
gap_before Downwards place = suc place

-- the gap at which a scan in this direction is just after it has taken the entry in slot `place`
abbrev pub gap_behind : (direction : Direction) → (place : ℕ) → ℕ
gap_behind Upwards place = suc place
gap_behind Downwards place = place

-- the gap at which a scan enters a node of `count` entries
abbrev pub first_gap : (direction : Direction) → (count : ℕ) → ℕ
first_gap Upwards count = 0
first_gap Downwards count = count

-- how many of a node's `count` entries a scan at this gap has still to take
abbrev pub to_come : Direction → (count gap : ℕ) → ℕ
to_come Upwards count gap = count - gap
to_come Downwards count gap = gap

-- the gap at which a scan is after it has taken the next `entries` entries
abbrev pub gap_after : Direction → (gap entries : ℕ) → ℕ
gap_after Upwards gap entries = gap + entries
gap_after Downwards gap entries = gap - entries

-- the slot of the entry that a scan takes after the next `entries` entries
abbrev pub place_ahead : Direction → (gap entries : ℕ) → ℕ
place_ahead Upwards gap entries = gap + entries
place_ahead Downwards gap entries = gap - suc entries

-- Keys

-- `key` is strictly before `other` in the order of the scan: less upwards, greater downwards
abbrev pub IsEarlier : (direction : Direction) → (key other : Key) → Type 0
IsEarlier Upwards key other = IsBefore key other
IsEarlier Downwards key other = IsBefore other key

-- `key` is before `other` in the order of the scan, or the two keys are equal
abbrev pub IsNoLater : (direction : Direction) → (key other : Key) → Type 0
IsNoLater Upwards key other = IsAtMost key other
IsNoLater Downwards key other = IsAtMost other key

-- the end of a range at which a scan begins: the least key upwards, the greatest downwards
abbrev pub first_key : Direction → Range → Key
first_key Upwards range = range.from
first_key Downwards range = range.upto

-- the end of a range at which a scan ends: the greatest key upwards, the least downwards
abbrev pub last_key : Direction → Range → Key
last_key Upwards range = range.upto
last_key Downwards range = range.from

-- Slots and gaps

-- a scan at this gap has still to take the entry in slot `place`
abbrev pub IsToCome : Direction → (gap place : ℕ) → Type 0
IsToCome Upwards gap place = gap ≤ place
IsToCome Downwards gap place = place < gap

-- a scan at this gap has passed slot `place`
abbrev pub WasPassed : Direction → (gap place : ℕ) → Type 0
WasPassed Upwards gap place = place < gap
WasPassed Downwards gap place = gap ≤ place

-- What a scan knows. The first frame is that of the lowest node, and has the gap where the scan is. Each other frame has the slot below
-- which the scan is.

-- in some slot of the node that a scan at this gap has passed, the key may stand (`MayStandAt`)
abbrev pub MayStandPassed : (direction : Direction) → (past : Past) → (since node gap : ℕ) → (key : Key) → Type 0
MayStandPassed direction past since number gap key = (slot : ℕ) × WasPassed direction gap slot × MayStandAt past since number slot key

-- For one of the frames, the key may stand in the frame's node, in a slot that the scan takes before the frame's slot.
abbrev pub MayStandBeforeFrames : (direction : Direction) → (past : Past) → (since : ℕ) → (key : Key) → (frames : List Frame) → Type 0
MayStandBeforeFrames direction past since key [] = ⊥
MayStandBeforeFrames direction past since key (frame ∷ others) =
    MayStandPassed direction past since frame.number (gap_before direction frame.place) key ⊎ MayStandBeforeFrames direction past since key others

-- In the node of one of its frames, the scan has passed a slot in which the key may stand. The first frame's place is a gap, and each other
-- frame's place is a slot.
abbrev pub HasPassed : (direction : Direction) → (past : Past) → (since : ℕ) → (key : Key) → (frames : List Frame) → Type 0
HasPassed direction past since key [] = ⊥
HasPassed direction past since key (lowest ∷ others) =
    MayStandPassed direction past since lowest.number lowest.place key ⊎ MayStandBeforeFrames direction past since key others

-- For one of the frames, the frame's node had the key below it in a version from `since` on. The slot to which the frame's forks lead the
-- key comes after the frame's slot in the scan.
abbrev pub ComesOnWay : (direction : Direction) → (past : Past) → (since : ℕ) → (key : Key) → (frames : List Frame) → Type 0
ComesOnWay direction past since key [] = ⊥
ComesOnWay direction past since key (frame ∷ others) =
    (HadKeyBelow past since key (a_node frame.number) × IsToCome direction (gap_behind direction frame.place) (spot key frame.shape)) ⊎
    ComesOnWay direction past since key others

-- For one of the frames, the frame's node had the key below it in a version from `since` on. The scan has still to take the slot to which
-- the frame's forks lead the key. The first frame's place is a gap, and each other frame's place is a slot.
abbrev pub Comes : (direction : Direction) → (past : Past) → (since : ℕ) → (key : Key) → (frames : List Frame) → Type 0
Comes direction past since key [] = ⊥
Comes direction past since key (lowest ∷ others) =
    (HadKeyBelow past since key (a_node lowest.number) × IsToCome direction lowest.place (spot key lowest.shape)) ⊎ ComesOnWay direction past since key others

-- The keys of the pairs are strictly in the order of the scan, so no key stands twice. The newest pair is the first of the list.
abbrev pub AreOrdered : Direction → List Pair → Type 0
AreOrdered direction [] = Unit {0}
AreOrdered direction (newest ∷ older) = Every (λ pair. IsEarlier direction pair.key newest.key) older × AreOrdered direction older

-- The invariant of a scan's loop. `frames` is the path to the gap where the scan is, and `taken` the pairs so far, the newest first.
-- The pairs are strictly in the scan's order, in the range, and no more than its limit. Each was held in a version from `since` on, and may
-- stand in a slot passed. Each key of the range that was held in all these versions is listed, or is still to come.
pub record IsScanBy (direction : Direction) (past : Past) (since : ℕ) (range : Range) (frames : List Frame) (taken : List Pair) : Type 0 where
  pub stack : IsStack past since frames
  pub ordered : AreOrdered direction taken
  pub within : Every (λ pair. IsInRange range pair.key) taken
  pub held : Every (λ pair. IsHeldSince past since pair.key pair.value) taken
  pub passed : Every (λ pair. HasPassed direction past since pair.key frames) taken
  pub short : length taken ≤ range.limit
  pub covered : (key : Key) → IsKeptSince past since key → IsInRange range key → IsKeyListed key taken ⊎ Comes direction past since key frames

-- What a scan that came to the end of its range promises. Its pairs, the newest first, are strictly in the scan's order, in the range, and
-- no more than its limit. Each was held in a version from `since` on. Each key of the range that was held in all these versions is listed.
pub record IsComplete (direction : Direction) (past : Past) (since : ℕ) (range : Range) (taken : List Pair) : Type 0 where
  pub ordered : AreOrdered direction taken
  pub within : Every (λ pair. IsInRange range pair.key) taken
  pub held : Every (λ pair. IsHeldSince past since pair.key pair.value) taken
  pub short : length taken ≤ range.limit
  pub covered : (key : Key) → IsKeptSince past since key → IsInRange range key → IsKeyListed key taken

-- The newest pair, the first of the list, has this key or one that comes later in the scan. A scan without pairs has reached no key.
abbrev pub IsReachedBy : (direction : Direction) → (key : Key) → (taken : List Pair) → Type 0
IsReachedBy direction key [] = ⊥
IsReachedBy direction key (newest ∷ older) = IsNoLater direction key newest.key

-- What a scan that was cut at its limit promises. Its pairs are in order, in the range and held as `IsComplete` says, and as many as the
-- limit. In a version from `since` on the range had a further key, which comes after all of them. Each key of the range that was held in
-- all these versions is listed, if it comes no later than the newest pair's key.
pub record IsCut (direction : Direction) (past : Past) (since : ℕ) (range : Range) (taken : List Pair) : Type 0 where
  pub ordered : AreOrdered direction taken
  pub within : Every (λ pair. IsInRange range pair.key) taken
  pub held : Every (λ pair. IsHeldSince past since pair.key pair.value) taken
  pub full : length taken ≡ range.limit
  pub further : (key : Key) × (value : ℕ) × IsInRange range key × IsHeldSince past since key value × Every (λ pair. IsEarlier direction pair.key key) taken
  pub covered : (key : Key) → IsKeptSince past since key → IsInRange range key → IsReachedBy direction key taken → IsKeyListed key taken

-- what a scan promises: if `more` is false it is complete, and if `more` is true it was cut at its limit
abbrev pub IsAnswer : (direction : Direction) → (past : Past) → (since : ℕ) → (range : Range) → (taken : List Pair) → (more : Bool) → Type 0
IsAnswer direction past since range taken false = IsComplete direction past since range taken
IsAnswer direction past since range taken true = IsCut direction past since range taken

-- Each key that may stand in a slot that a scan at this gap has still to take comes later than `key`. Since writers go on during the scan,
-- this holds for each past `new` that goes on from `old`. It need only keep fixed words and stems from version `since` on.
abbrev pub IsPastKey : (direction : Direction) → (past : Past) → (since : ℕ) → (key : Key) → (node gap : ℕ) → Type 0
IsPastKey direction old since key number gap =
    (new : Past) → IsGrown old new → KeepsFixedWordsSince new since → (slot : ℕ) (other : Key) → IsToCome direction gap slot → MayStandAt new since number slot other →
    IsEarlier direction key other

-- A statement on a scan that began at the front `before` and ended at `after`, by the range's least and greatest key and its limit.
abbrev pub ScanLaw : Type 1
ScanLaw = (before after : List Change) → (from upto : Key) → (limit : ℕ) → (scan : Scan) → Type 0

-- what a lawful scan in this direction is
abbrev pub IsLawfulBy : Direction → ScanLaw
IsLawfulBy Upwards = IsLawfulScan
IsLawfulBy Downwards = IsLawfulReverseScan
