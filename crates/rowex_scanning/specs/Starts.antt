-- Where a scan starts.
use Rattle.std.specs.Prelude.{◌≡◌, ◌⊎◌, ℕ, suc, ◌+◌, ◌<◌, List, length, take, slice_get, MatchBool, Some, false}
use Rattle.compound_node.specs.declared.entries.Entry.TheVariants.{Leaf}
use Rattle.insert_cases.specs.declared.choice.PathNode.{PathNode}
use Rattle.tries.specs.Keys.{Key, IsBefore}
use Rattle.rowex_core.specs.declared.known.Known.{Known}
use Rattle.version_laws.specs.Scan.{Range, IsPlaced, IsRead}
use Rattle.rowex_reading.specs.Seen.{Sure}
use Rattle.version_laws.specs.Directions.{IsNoLater, IsPastKey, first_key, gap_before, gap_behind}
use Rattle.rowex_scanning.specs.Scanning.{ArePastKey, IsBound, IsWalk}
use Rattle.rowex_scanning.specs.Tallies.{tally_of_number}
use Rattle.packed_pairs.specs.declared.direction.Direction.{Direction}
use Rattle.packed_pairs.specs.declared.direction.Direction.TheVariants.{Upwards, Downwards}
use Rattle.record_words.specs.declared.layout.Layout.{Layout}
use Rattle.rowex_reading.specs.Ways.{IsWayOf}
use Rattle.rowex_reading.specs.declared.descent.Found.TheVariants.{Leaf as FoundLeaf}
use Rattle.rowex_scanning.specs.declared.start.SearchEnd.{SearchEnd}
use Rattle.rowex_scanning.specs.declared.start.Start.{Start}

-- The search for the key, which loaded the root at this version, took this path, of one node at least. It ended at this leaf, whose key
-- first differs from the one sought where `found` says.
abbrev pub IsSearchEnd : (layout : Layout) → (known : Known) → (version : ℕ) → (key : Key) → (way : List PathNode) → (found : SearchEnd) →
    Type 0
IsSearchEnd layout known version key way found =
    (0 < length way) × (value : ℕ) × IsWayOf layout known version key way (FoundLeaf found.number value found.mismatch)

-- The leaf at which the search has ended stands in the slot of `top`, and has been read. Its key does not come before the key sought. All
-- that is behind that slot, there and in the nodes above, comes later than the key sought.
pub record IsFirst (direction : Direction) (known : Known) (since : ℕ) (key : Key) (number : ℕ) (top : PathNode)
    (frames : List PathNode) : Type 0 where
  pub found : Key
  pub value : ℕ
  pub inside : top.slot < top.count
  pub placed : Sure known (λ past. IsPlaced past since top.number top.slot (Leaf number))
  pub read : Sure known (λ past. IsRead past since number found value)
  pub reached : IsNoLater direction key found
  pub bound : IsBound direction known since key (record top { slot = gap_behind direction top.slot }) frames

-- the walk of a scan of any range that starts at the key stands at this gap, with no pairs so far
abbrev pub IsWalkFrom : (direction : Direction) → (known : Known) → (since : ℕ) → (key : Key) → (top : PathNode) →
    (frames : List PathNode) → Type 0
IsWalkFrom direction known since key top frames =
    (range : Range) → first_key direction range ≡ key → IsWalk known since (direction, range) top frames (tally_of_number 0)

-- The scan starts in the node `start.top`: before the leaf at which the search has ended, if `start.leaf` says so, else at a gap. In both
-- cases all that comes behind is later than the key, and no pair is taken yet.
abbrev pub IsBegun : (direction : Direction) → (known : Known) → (version : ℕ) → (key : Key) → (number : ℕ) → (frames : List PathNode) →
    (start : Start) → Type 0
IsBegun direction known version key number frames start = MatchBool start.leaf
    (IsFirst direction known version key number start.top frames ×
    IsWalkFrom direction known version key (record start.top { slot = gap_before direction start.top.slot }) frames)
    (IsBound direction known version key start.top frames × IsWalkFrom direction known version key start.top frames)

-- Where a scan from the key starts: in the node at `start.level` of the path of the key's search, which has ended at this leaf. The nodes
-- of the path above that level are those of the walk.
pub record IsStart (direction : Direction) (known : Known) (version : ℕ) (key : Key) (way : List PathNode) (number : ℕ) (start : Start) : Type 0 where
  pub within : start.level < length way
  pub begun : IsBegun direction known version key number (take start.level way) start

-- A scan upwards starts in the last node of the path, at the gap just behind the leaf at which the search has ended. That leaf's key is
-- below the key sought, and so are all keys left of it in that node.
pub record IsBehindLeaf (known : Known) (version : ℕ) (key : Key) (way : List PathNode) (number : ℕ) (start : Start) : Type 0 where
  pub apart : start.leaf ≡ false
  pub last : start.level + 1 ≡ length way
  pub step : PathNode
  pub there : slice_get way start.level ≡ Some step
  pub behind : start.top.slot ≡ suc step.slot
  pub found : Key
  pub value : ℕ
  pub read : Sure known (λ past. IsRead past version number found value)
  pub low : IsBefore found key
  pub beneath : Sure known (λ past. IsPastKey Downwards past version key step.number step.slot)

-- Where a scan upwards starts, and what stands left of there. In the nodes above, all of it is below the key. So it is in the node of the
-- start, too, unless the scan starts just behind the search's leaf (`IsBehindLeaf`). `start.top` is the path's node, but for its slot.
pub record IsParting (known : Known) (version : ℕ) (key : Key) (way : List PathNode) (number : ℕ) (start : Start) : Type 0 where
  pub upwards : IsStart Upwards known version key way number start
  pub of_way : (s : PathNode) → slice_get way start.level ≡ Some s → start.top ≡ record s { slot = start.top.slot }
  pub left : ArePastKey Downwards known version key (take start.level way)
  pub side : Sure known (λ s. IsPastKey Downwards s version key start.top.number start.top.slot) ⊎ IsBehindLeaf known version key way number start
