-- What a walk has seen at the places that come next.
use Rattle.std.specs.Prelude.{◌≡◌, ℕ, ◌+◌, ◌^◌, ◌<◌, ◌≤◌, List, length, slice_index, Bool, IfSome, option_to_list, false, true}
use Rattle.compound_node.specs.declared.entries.Entry.TheVariants.{Leaf, Node}
use Rattle.insert_cases.specs.declared.choice.PathNode.{PathNode}
use Rattle.record_words.specs.declared.layout.Layout.{Layout}
use Rattle.record_words.specs.declared.records.Rec.TheVariants.{Leaf as a_leaf}
use Rattle.rowex_core.specs.declared.known.Known.{Known}
use Rattle.tries.specs.Keys.{Key}
use Rattle.rowex_core.specs.Knowing.{IsPinnedSince}
use Rattle.rowex_table.specs.Rule.{IsStartOf}
use Rattle.version_laws.specs.Scan.{Range, IsInRange, IsPlaced, IsRead}
use Rattle.rowex_reading.specs.Seen.{HasPlace, Sure, since}
use Rattle.version_laws.specs.Directions.{IsEarlier, IsNoLater, IsPastKey, first_key, gap_after, last_key, place_ahead, to_come}
use Rattle.rowex_scanning.specs.Scanning.{HasTaken, IsBound, IsBoundWalk, IsWalk, Request}
use Rattle.rowex_scanning.specs.Tallies.{Tally}
use Rattle.rowex_scanning.specs.declared.ahead.Ahead.{Ahead}
use Rattle.packed_pairs.specs.declared.direction.Direction.{Direction}
use Rattle.packed_pairs.specs.declared.direction.Direction.TheVariants.{Upwards, Downwards}
use Rattle.rowex_scanning.specs.declared.direction.Slots.{Slots}
use Rattle.rowex_scanning.specs.declared.scan.Verdict.{Verdict}
use Rattle.rowex_scanning.specs.declared.scan.Verdict.TheVariants.{Further, Past as IsPast, Full}

-- The pass was led to the node since this version. It is sure that the node has entries in all slots that are still to come in this
-- direction.
abbrev pub HasPlaces : (direction : Direction) → (known : Known) → (version : ℕ) → (top : PathNode) → Type 0
HasPlaces direction known version top =
    (i : ℕ) → i < to_come direction top.count top.slot → HasPlace known version top.number top.height (place_ahead direction top.slot i)

-- what is added to a slot, modulo 256, to come to the next one in this direction: 255 goes one back
abbrev pub slot_step : Direction → ℕ
slot_step Upwards = 1
slot_step Downwards = 255

-- `slots` gives the slots of a node with `count` entries one by one, from this gap on in the direction. It has given `entries` of them so
-- far. If one is left, it is the next. All slots fit into a byte.
pub record AreSlots (direction : Direction) (count gap entries : ℕ) (slots : Slots) : Type 0 where
  pub small : (count < 2 ^ 8) × (gap ≤ count)
  pub step : slots.step ≡ slot_step direction
  pub next : entries < to_come direction count gap → slots.next ≡ place_ahead direction gap entries

-- how many entries a look ahead has loaded: those of leaves, and that of the node that follows
abbrev pub entries_ahead : Ahead → ℕ
entries_ahead ahead = ahead.count + length (option_to_list ahead.node)

-- the pass is sure that the first `count` of these leaves stood in the next slots of the node, in this order, since this version
abbrev pub AreAhead : (direction : Direction) → (known : Known) → (version : ℕ) → (top : PathNode) → (count : ℕ) → (leaves : List ℕ) →
    Type 0
AreAhead direction known version top count leaves =
    (i : ℕ) → i < count → Sure known (λ past. IsPlaced past version top.number (place_ahead direction top.slot i) (Leaf (slice_index leaves i)))

-- the pass is sure that this node, which is lower than `top`, stood in the slot behind the next `count`, since this version
abbrev pub IsNodeAhead : (direction : Direction) → (known : Known) → (version : ℕ) → (top : PathNode) → (count number : ℕ) → Type 0
IsNodeAhead direction known version top count number =
    (height : ℕ) × (height < top.height) ×
    Sure known (λ past. IsPlaced past version top.number (place_ahead direction top.slot count) (Node number height))

-- of the first `count` leaves, the table's records begin at these words
abbrev pub FirstLeavesBeginAt : (layout : Layout) → (count : ℕ) → (leaves starts : List ℕ) → Type 0
FirstLeavesBeginAt layout count leaves starts = (i : ℕ) → i < count → IsStartOf layout (a_leaf (slice_index leaves i)) (slice_index starts i)

-- of each of the leaves, the table's record begins at the word in the same place of `starts`, which is as long
abbrev pub LeavesBeginAt : (layout : Layout) → (leaves starts : List ℕ) → Type 0
LeavesBeginAt layout leaves starts = (length starts ≡ length leaves) × FirstLeavesBeginAt layout (length leaves) leaves starts

-- The pass is sure of the entries in the next slots, since this version: those of the first `ahead.count` of these leaves, and then of the
-- node, if there is one.
pub record HasSeenAhead (direction : Direction) (known : Known) (version : ℕ) (top : PathNode) (leaves : List ℕ) (ahead : Ahead) : Type 0 where
  pub first : AreAhead direction known version top ahead.count leaves
  pub node : IfSome ahead.node (IsNodeAhead direction known version top ahead.count)

-- From a gap of the node `top`, with `size` pairs so far, the walk has passed `count` leaves and taken their pairs. It stands at the gap
-- behind them, and what stands behind that comes later than the range's first key.
pub record HavePassed (known : Known) (version : ℕ) (request : Request) (frames : List PathNode) (top : PathNode) (size count : ℕ)
    (tally : Tally) : Type 0 where
  pub more : tally.size ≡ size + count
  pub walk : IsWalk known version request (record top { slot = gap_after request.0 top.slot count }) frames tally
  pub bound : IsBound request.0 known version (first_key request.0 request.1) (record top { slot = gap_after request.0 top.slot count }) frames

-- What became of a scan at some leaves, by its verdict. Further: it has passed all of them. Past: it has ended, and is complete. Full: it
-- has ended, cut at its limit, and there is a further key.
abbrev pub AreJudged : (Passed : Type 0) → (Ended : Bool → Type 0) → (verdict : Verdict) → Type 0
AreJudged Passed Ended Further = Passed
AreJudged Passed Ended IsPast = Ended false
AreJudged Passed Ended Full = Ended true

-- A walk is at a gap of the node `top`, to which this path leads, and the tally tells its pairs so far. The pass is sure that these leaves
-- come next in the node, since its last load of the root. They are no more than are still to come there.
pub record AreNext (known : Known) (request : Request) (top : PathNode) (frames : List PathNode) (tally : Tally) (leaves : List ℕ) : Type 0 where
  pub bound : IsBoundWalk known (since known) request top frames tally
  pub ahead : AreAhead request.0 known (since known) top (length leaves) leaves
  pub come : length leaves ≤ to_come request.0 top.count top.slot

-- What became of these leaves, on any path on which they came next (`AreNext`). The walk has passed all of them, or the scan has ended with
-- the pairs that `later` tells, as the verdict says.
abbrev pub AreTakenOnWays : (old new : Known) → (request : Request) → (before : Tally) → (leaves : List ℕ) → (later : Tally) →
    (verdict : Verdict) → Type 0
AreTakenOnWays old new request before leaves later verdict =
    (top : PathNode) (frames : List PathNode) → AreNext old request top frames before leaves →
    AreJudged (HavePassed new (since old) request frames top before.size (length leaves) later) (HasTaken request.0 new request.1 later) verdict

-- The pass is sure that these leaves come next at the gap `top.slot` of the node, since its last load of the root. All that stands behind
-- that gap comes later than the range's first key. The leaves are no more than are still to come there.
pub record AreBehindGap (known : Known) (request : Request) (top : PathNode) (leaves : List ℕ) : Type 0 where
  pub pinned : IsPinnedSince known (since known)
  pub there : Sure known (λ past. IsPastKey request.0 past (since known) (first_key request.0 request.1) top.number top.slot)
  pub ahead : AreAhead request.0 known (since known) top (length leaves) leaves
  pub come : length leaves ≤ to_come request.0 top.count top.slot

-- the pass is sure that each key that one of the first `count` leaves had since this version belongs to the range
abbrev pub AreWithin : (known : Known) → (version : ℕ) → (range : Range) → (leaves : List ℕ) → (count : ℕ) → Type 0
AreWithin known version range leaves count =
    (i : ℕ) → i < count → Sure known (λ past. (key : Key) (value : ℕ) → IsRead past version (slice_index leaves i) key value → IsInRange range key)

-- the pass is sure that since this version the leaf had a key that comes later than the range's last one, in the scan's direction
abbrev pub IsLeafPast : (known : Known) → (version : ℕ) → (request : Request) → (number : ℕ) → Type 0
IsLeafPast known version request number =
    Sure known (λ past. (key : Key) × (value : ℕ) × IsRead past version number key value × IsEarlier request.0 (last_key request.0 request.1) key)

-- the pass is sure that since this version the leaf had a key that comes no later than the range's last one in the scan's direction
abbrev pub IsLeafNotPast : (known : Known) → (version : ℕ) → (request : Request) → (number : ℕ) → Type 0
IsLeafNotPast known version request number =
    Sure known (λ past. (key : Key) × (value : ℕ) × IsRead past version number key value × IsNoLater request.0 key (last_key request.0 request.1))

-- The pass is sure that the first `count` of these leaves belong to the range. It is sure, too, that the next one, if there is one, is past
-- the range.
pub record AreParted (known : Known) (version : ℕ) (request : Request) (leaves : List ℕ) (count : ℕ) : Type 0 where
  pub within : AreWithin known version request.1 leaves count
  pub past : count < length leaves → IsLeafPast known version request (slice_index leaves count)
