-- What a scan knows on its way, and of what it returns.
use Rattle.std.specs.Prelude.{◌≡◌, ◌≢◌, ℕ, ◌<◌, ◌≤◌, List, [], ◌∷◌, ◌++◌, length, Bool, true}
use Rattle.compound_node.specs.declared.entries.Entry.TheVariants.{Leaf}
use Rattle.insert_cases.specs.declared.choice.PathNode.{PathNode}
use Rattle.node_tries.specs.Piece.{size}
use Rattle.tries.specs.Keys.{Key}
use Rattle.tries.specs.Tree.{Subtrie, first_position}
use Rattle.rowex_core.specs.declared.known.Known.{Known}
use Rattle.rowex_core.specs.Knowing.{IsPinnedSince}
use Rattle.record_words.specs.declared.layout.Layout.{Layout}
use Rattle.version_laws.specs.Scan.{Pair, Range, IsInRange, IsRead, HadShapeSince, in_order_taken, Frame as Stage}
use Rattle.rowex_table.specs.Made.{IsLater}
use Rattle.rowex_reading.specs.Possible.{IsPossible}
use Rattle.rowex_reading.specs.Seen.{IsLedTo, Sure, since}
use Rattle.version_laws.specs.Directions.{IsAnswer, IsPastKey, IsEarlier, IsNoLater, first_gap, first_key, gap_behind, last_key}
use Rattle.packed_pairs.specs.declared.direction.Direction.{Direction}
use Rattle.rowex_scanning.specs.Tallies.{AreTallied, IsKept, IsOneMore, IsTalliedScan, Tally}
use Rattle.rowex_scanning.specs.declared.scan.Range.{Range as Asked}
use Rattle.rowex_scanning.specs.declared.scan.Verdict.{Verdict}
use Rattle.rowex_scanning.specs.declared.scan.Verdict.TheVariants.{Further, Past as IsPast, Full}

-- the range and the limit that a scan asks for
abbrev pub asked_range : Asked → Range
asked_range asked = record { from = asked.from.now; upto = asked.upto.now; limit = asked.limit }

-- what is asked of a scan: a direction, and a range with its limit
abbrev pub Request : Type 0
Request = Direction × Range

-- the direction and the range that a scan asks for
abbrev pub request_of : Asked → Request
request_of asked = (asked.direction, asked_range asked)

-- the key of the range with which a scan begins: upwards its first, downwards its last
abbrev pub first_key_of : Asked → Key
first_key_of asked = first_key asked.direction (asked_range asked)

-- the key of the range with which a scan ends: upwards its last, downwards its first
abbrev pub last_key_of : Asked → Key
last_key_of asked = last_key asked.direction (asked_range asked)

-- The pass is sure of what a scan of the range gives, since its last load of the root: pairs that the tally tells. If `more` is true, the
-- scan was cut at its limit, and there was a further key. Else it is complete.
abbrev pub HasTaken : (direction : Direction) → (known : Known) → (range : Range) → (tally : Tally) → (more : Bool) → Type 0
HasTaken direction known range tally more =
    Sure known (λ past. (taken : List Pair) × AreTallied tally taken × IsAnswer direction past (since known) range taken more)

-- the range with another limit
abbrev pub limited : (range : Range) → (limit : ℕ) → Range
limited range limit = record range { limit = limit }

-- What a scan has when memory is refused: fewer pairs than its limit. The pass is sure of them as of a scan that was cut at their number,
-- with a further key behind.
abbrev pub HasTakenPart : (direction : Direction) → (known : Known) → (range : Range) → (tally : Tally) → Type 0
HasTakenPart direction known range tally = (tally.size < range.limit) × HasTaken direction known (limited range tally.size) tally true

-- The pass is sure that a scan of the range gives these pairs, in this order, since its last load of the root. If `more` is true, the scan
-- was cut at its limit, and there was a further key. Else it is complete.
pub record HasScanned (direction : Direction) (known : Known) (range : Range) (pairs : List (Key × ℕ)) (more : Bool) : Type 0 where
  pub taken : List Pair
  pub pairs_are : pairs ≡ in_order_taken taken
  pub answer : Sure known (λ past. IsAnswer direction past (since known) range taken more)

-- What a scan has listed when memory is refused: fewer pairs than its limit. The pass is sure of them as of a scan that was cut at their
-- number, with a further key behind.
abbrev pub HasScannedPart : (direction : Direction) → (known : Known) → (range : Range) → (pairs : List (Key × ℕ)) → Type 0
HasScannedPart direction known range pairs = (length pairs < range.limit) × HasScanned direction known (limited range (length pairs)) pairs true

-- The verdict on a pair that does not come before the range. Further: the pair is in the range, and the tally tells it now. Past: its key
-- is past the range. Full: the pair is in the range, but the limit is reached. But for `Further` the tally stays.
abbrev pub IsPairJudged : (request : Request) → (old : Tally) → (key : Key) → (value : ℕ) → (new : Tally) → (verdict : Verdict) → Type 0
IsPairJudged (direction, range) old key value new Further = IsInRange range key × (old.size ≢ range.limit) × IsOneMore old key value new
IsPairJudged (direction, range) old key value new IsPast = IsEarlier direction (last_key direction range) key × IsKept old new
IsPairJudged (direction, range) old key value new Full = IsInRange range key × (old.size ≡ range.limit) × IsKept old new

-- The leaf has been read: if the pass was led to it since some version, it is sure that the leaf had this key and value since then. The
-- pair was taken or not, as the verdict says (`IsPairJudged`).
pub record IsLeafJudged (old new : Known) (request : Request) (number : ℕ) (before later : Tally) (verdict : Verdict) : Type 0 where
  pub key : Key
  pub value : ℕ
  pub read : (version : ℕ) → IsLedTo old version (Leaf number) → Sure new (λ past. IsRead past version number key value)
  pub taken : IsPairJudged request before key value later verdict

-- Memory was refused for a pair with this key, which belongs to the range. By the limit there was room for it. The tally stays.
abbrev pub IsPairRefused : (range : Range) → (old : Tally) → (key : Key) → (new : Tally) → Type 0
IsPairRefused range old key new = IsInRange range key × (old.size ≢ range.limit) × IsKept old new

-- The leaf has been read: if the pass was led to it since some version, it is sure that the leaf had this key and value since then. Memory
-- was refused for its pair, which belongs to the range (`IsPairRefused`).
pub record IsLeafRefused (old new : Known) (range : Range) (number : ℕ) (before later : Tally) : Type 0 where
  pub key : Key
  pub value : ℕ
  pub read : (version : ℕ) → IsLedTo old version (Leaf number) → Sure new (λ past. IsRead past version number key value)
  pub refused : IsPairRefused range before key later

-- Whatever key the pass reads in this leaf, later or now, does not come before `first` in this direction.
abbrev pub IsReached : (direction : Direction) → (layout : Layout) → (old : Known) → (version : ℕ) → (first : Key) → (number : ℕ) → Type 0
IsReached direction layout old version first number =
    (new : Known) → IsLater old new → IsPossible layout new → (key : Key) (value : ℕ) → Sure new (λ past. IsRead past version number key value) →
    IsNoLater direction first key

-- A stage of a walk, which is a node with its forks and the walk's slot, as a node of a path. Of the forks this has the first position, and
-- how many entries there are.
abbrev pub frame : Stage → PathNode
frame f = record { number = f.number; height = f.height; first_position = first_position f.shape; count = size f.shape; slot = f.place }

-- the stages of a walk, whose lowest stands first, as the nodes of its path from the root on
abbrev pub frames_of : List Stage → List PathNode
frames_of [] = []
frames_of (f ∷ fs) = frames_of fs ++ frame f ∷ []

-- The pass has entered the node of this number and height. It has read the node's forks since this version, and stands at the gap at which
-- all entries are to come. These are 32 at most.
pub record IsEntered (direction : Direction) (known : Known) (version : ℕ) (number height : ℕ) (top : PathNode) : Type 0 where
  pub forks : Subtrie
  pub top_is : top ≡ frame (record { number = number; height = height; shape = forks; place = first_gap direction (size forks) })
  pub room : size forks ≤ 32
  pub shaped : Sure known (λ past. HadShapeSince past version number forks)

-- each node of the path has at most 32 entries, and the slot at which the walk is in it is one of theirs
abbrev pub AreInside : List Stage → Type 0
AreInside [] = Unit {0}
AreInside (f ∷ fs) = (f.place < size f.shape) × (size f.shape ≤ 32) × AreInside fs

-- A walk is at a gap of the node `top`, to which this path leads, since this version. The pass is sure that a scan that stands there has
-- taken pairs that the tally tells. `top` has at most 32 entries, and the nodes above are each at an entry.
pub record IsWalk (known : Known) (version : ℕ) (request : Request) (top : PathNode) (frames : List PathNode) (tally : Tally) : Type 0 where
  pub lowest : Stage
  pub others : List Stage
  pub top_is : top ≡ frame lowest
  pub frames_are : frames ≡ frames_of others
  pub room : size lowest.shape ≤ 32
  pub fits : lowest.place ≤ size lowest.shape
  pub inside : AreInside others
  pub pinned : IsPinnedSince known version
  pub scan : Sure known (λ past. IsTalliedScan request.0 past version request.1 (lowest ∷ others) tally)

-- The pass is sure that all keys behind the slots of these nodes, in this direction, come later than this key.
abbrev pub ArePastKey : (direction : Direction) → (known : Known) → (version : ℕ) → (key : Key) → (frames : List PathNode) → Type 0
ArePastKey direction known version key [] = Unit {0}
ArePastKey direction known version key (node ∷ frames) =
    Sure known (λ past. IsPastKey direction past version key node.number (gap_behind direction node.slot)) × ArePastKey direction known version key frames

-- The pass is sure that all keys behind the gap of `top`, and behind the slots of the nodes above, come later than this key. So no pair
-- that comes is before the range.
pub record IsBound (direction : Direction) (known : Known) (version : ℕ) (key : Key) (top : PathNode) (frames : List PathNode) : Type 0 where
  pub there : Sure known (λ past. IsPastKey direction past version key top.number top.slot)
  pub above : ArePastKey direction known version key frames

-- A walk is at a gap of the node `top`, to which this path leads, and the tally tells its pairs so far. All that is to come, there and in
-- the nodes above, comes later than the range's first key.
abbrev pub IsBoundWalk : (known : Known) → (version : ℕ) → (request : Request) → (top : PathNode) → (frames : List PathNode) →
    (tally : Tally) → Type 0
IsBoundWalk known version request top frames tally =
    IsWalk known version request top frames tally × IsBound request.0 known version (first_key request.0 request.1) top frames

-- The walk is at a gap of the last node of this path, which has one at least, as `IsBoundWalk` says.
pub record IsWalkAlong (known : Known) (version : ℕ) (request : Request) (way : List PathNode) (tally : Tally) : Type 0 where
  pub top : PathNode
  pub frames : List PathNode
  pub way_is : way ≡ frames ++ top ∷ []
  pub bound : IsBoundWalk known version request top frames tally
