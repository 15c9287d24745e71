-- What a count of all committed records says.
use Rattle.std.specs.Prelude.{◌≡◌, ℕ, suc, ◌+◌, ◌*◌, ◌-◌, ◌<◌, List, [], ◌∷◌, ◌++◌, get_or, length, Bool, true, false, count_by}
use Rattle.record_words.specs.Layout.{uncommitted_in, word_count}
use Rattle.record_words.specs.State.{HasStateWord, state_word}
use Rattle.record_words.specs.declared.TheConstants.{RECORD_KINDS, WORD_BYTES}
use Rattle.record_words.specs.declared.layout.Layout.{Layout}
use Rattle.record_words.specs.declared.state.Tag.{Tag}
use Rattle.record_words.specs.declared.state.Tag.TheVariants.{Free, Held, Live, Locked, Obsolete}
use Rattle.record_words.specs.declared.records.Rec.{Rec}
use Rattle.record_words.specs.declared.records.Rec.TheVariants.{Node as a_node, Leaf as a_leaf}
use Rattle.rowex_core.specs.declared.event.Act.{Act}
use Rattle.rowex_core.specs.declared.event.Act.TheVariants.{LoadState}
use Rattle.rowex_core.specs.declared.event.Event.{Event}
use Rattle.rowex_table.specs.Committed.{TakenAreCommitted}
use Rattle.rowex_table.specs.Runs.{Does, IsTold, Runs, events_of}
use Rattle.rowex_table.specs.Seats.{HasFoundBounds, SeatView, TableView}
use Rattle.epochs.specs.Runs.{collecting}
use Rattle.hot_index_calls.specs.Passes.{PassView, pass_of}
use Rattle.hot_index_calls.specs.declared.census.RecordCounts.{RecordCounts}
use Rattle.hot_index_calls.specs.declared.census.StateCounts.{StateCounts}

-- whether the state is that of a free record
abbrev pub is_free : Tag → Bool
is_free Free = true
is_free tag = false

-- whether the state is that of a record that a pass has claimed, and not yet made ready
abbrev pub is_held : Tag → Bool
is_held Held = true
is_held tag = false

-- Whether the state is live or locked. That is the state of a record in the tree. A record that is made ready and not yet linked has it,
-- too, and so has one that is unlinked and not yet marked.
abbrev pub is_live : Tag → Bool
is_live Live = true
is_live Locked = true
is_live tag = false

-- whether the state is that of a retired record, with any epoch
abbrev pub is_obsolete : Tag → Bool
is_obsolete (Obsolete epoch) = true
is_obsolete tag = false

-- How many of these states are those of free, claimed, live and retired records; a locked one counts as live. Beside them `uncommitted`
-- records are uncommitted.
abbrev pub counts_of : (uncommitted : ℕ) (tags : List Tag) → StateCounts
counts_of uncommitted tags = record {
  free = count_by is_free tags;
  held = count_by is_held tags;
  live = count_by is_live tags;
  obsolete = count_by is_obsolete tags;
  uncommitted = uncommitted;
}

-- the loads by which a count finds these states, in order, of the records of one kind from the number `first` on
abbrev pub loads_of : (kind : ℕ → Rec) (first : ℕ) (tags : List Tag) → List Act
loads_of kind first [] = []
loads_of kind first (tag ∷ tags) = LoadState (kind first) (state_word tag) ∷ loads_of kind (suc first) tags

-- The states that a count has found: of the nodes, and of the leaves of each class, the smallest first. Each list is in the order of the
-- records' numbers.
pub record FoundTags : Type 0 where
  pub nodes : List Tag
  pub short : List Tag
  pub medium : List Tag
  pub large : List Tag
  pub wide : List Tag
  pub long : List Tag

-- Of the nodes and of each class of leaves, as many states were found as records are committed, where the last `uncommitted` of a kind are
-- not. Node 0 is always counted. Records of a class have numbers one after the other, and begin where those of the class before end.
pub record OneForEach (layout : Layout) (uncommitted : ℕ → ℕ) (tags : FoundTags) : Type 0 where
  pub nodes : length tags.nodes ≡ suc (layout.nodes - 1 - uncommitted 0)
  pub short : length tags.short ≡ layout.medium_from - uncommitted 1
  pub medium : length tags.medium ≡ layout.large_from - layout.medium_from - uncommitted 2
  pub large : length tags.large ≡ layout.wide_from - layout.large_from - uncommitted 3
  pub wide : length tags.wide ≡ layout.long_from - layout.wide_from - uncommitted 4
  pub long : length tags.long ≡ layout.leaves - layout.long_from - uncommitted 5

-- the loads by which a count finds these states: first those of nodes, then those of leaves, class by class
abbrev pub loads_in : (layout : Layout) (tags : FoundTags) → List Act
loads_in layout tags =
    loads_of a_node 0 tags.nodes ++ loads_of a_leaf 0 tags.short ++ loads_of a_leaf layout.medium_from tags.medium ++
    loads_of a_leaf layout.large_from tags.large ++ loads_of a_leaf layout.wide_from tags.wide ++ loads_of a_leaf layout.long_from tags.long

-- How many of these states are of each sort, for the nodes and each class of leaves. All other records are uncommitted. The bytes are those
-- of a table of this layout.
abbrev pub counts_in : (layout : Layout) (tags : FoundTags) → RecordCounts
counts_in layout tags = record {
  nodes = counts_of (layout.nodes - length tags.nodes) tags.nodes;
  short = counts_of (layout.medium_from - length tags.short) tags.short;
  medium = counts_of (layout.large_from - layout.medium_from - length tags.medium) tags.medium;
  large = counts_of (layout.wide_from - layout.large_from - length tags.large) tags.large;
  wide = counts_of (layout.long_from - layout.wide_from - length tags.wide) tags.wide;
  long = counts_of (layout.leaves - layout.long_from - length tags.long) tags.long;
  bytes = WORD_BYTES * word_count layout;
}

-- by the counts, how many records of all kinds are uncommitted
abbrev pub all_uncommitted : RecordCounts → ℕ
all_uncommitted counts =
    counts.nodes.uncommitted + counts.short.uncommitted + counts.medium.uncommitted + counts.large.uncommitted + counts.wide.uncommitted +
    counts.long.uncommitted

-- No step that the seat's pass knows has taken a record that is uncommitted by the seat's bounds. So these are free, if no later step takes
-- one.
abbrev pub HasTakenCommitted : (layout : Layout) (seat : SeatView) → Type 0
HasTakenCommitted layout seat = (kind : ℕ) → kind < RECORD_KINDS → TakenAreCommitted layout seat.trace kind (uncommitted_in seat.bounds kind)

-- The pass makes these steps. After the first, at `middle`, it loads how many records of each kind are uncommitted. These are its bounds
-- there (`taken`).
pub record FindsUncommitted {G : Type 0} (table : TableView) (becomes : G → Event → G → Type 0) (acts : List Act) (old new : SeatView × G) : Type 0 where
  pub first : Act
  pub others : List Act
  pub acts_are : acts ≡ first ∷ others
  pub middle : SeatView × G
  pub begins : Runs table becomes (first ∷ []) old middle
  pub taken : HasTakenCommitted table.layout middle.0
  pub goes_on : Runs table becomes others middle new

-- All committed records were counted. The pass loads the state of each once, nodes first, in the order of their numbers, and makes no other
-- step: one step a record. The counts are of the states that these loads find, each at its own moment. All other records are uncommitted,
-- by what the pass loads after its first step (`found`). The gate is told each step. The front of the pass stays the same.
pub record HasCounted {G : Type 0} (index : TableView) (becomes : G → Event → G → Type 0) (old new : PassView × G) (counts : RecordCounts) : Type 0 where
  pub tags : FoundTags
  pub begins : old.0 ≡ pass_of old.0.seat
  pub ends : new.0 ≡ pass_of new.0.seat
  pub found : FindsUncommitted index becomes (loads_in index.layout tags) (old.0.seat, old.1) (new.0.seat, new.1)
  pub each : OneForEach index.layout (uncommitted_in found.middle.0.bounds) tags
  pub counts_are : counts ≡ counts_in index.layout tags
  pub steps : Runs index becomes (loads_in index.layout tags) (old.0.seat, old.1) (new.0.seat, new.1)
  pub told : IsTold becomes (events_of old.0.number (loads_in index.layout tags)) old.1 new.1
  pub front : new.0.front ≡ old.0.front
  pub many : new.0.steps + all_uncommitted counts ≡ old.0.steps + (index.layout.nodes + index.layout.leaves)

-- What a seat has counted

-- the counts with one record more, in this state; a locked one counts as live
abbrev pub with_tag : (tag : Tag) (counts : StateCounts) → StateCounts
with_tag Free counts = record counts { free = counts.free + 1 }
with_tag Held counts = record counts { held = counts.held + 1 }
with_tag Live counts = record counts { live = counts.live + 1 }
with_tag Locked counts = record counts { live = counts.live + 1 }
with_tag (Obsolete epoch) counts = record counts { obsolete = counts.obsolete + 1 }

-- The pass has loaded the states of the records of one kind, from the number `first` up to the one before `behind`. It has made no other
-- step. The counts are of these states and of those that it found `before`; `uncommitted` records more are uncommitted. Each state that is
-- not free has become one of the pass's failed steps.
pub record CountsFrom {G : Type 0} (table : TableView) (becomes : G → Event → G → Type 0) (kind : ℕ → Rec) (first behind : ℕ)
    (before : List Tag) (uncommitted : ℕ) (counts : StateCounts) (old new : SeatView × G) : Type 0 where
  pub tags : List Tag
  pub each : behind ≡ first + length tags
  pub counts_are : counts ≡ counts_of uncommitted (before ++ tags)
  pub does : Does table becomes collecting (loads_of kind first tags) old new

-- The pass has counted the nodes from the number 1 on. The counts are of these and of node 0, whose state word is `first`. Of the nodes but
-- node 0 the last `uncommitted` were left out.
abbrev pub CountsNodes : {G : Type 0} → (table : TableView) (becomes : G → Event → G → Type 0) (first uncommitted : ℕ)
    (counts : StateCounts) (old new : SeatView × G) → Type 0
CountsNodes table becomes first uncommitted counts old new =
    let behind : ℕ = suc (table.layout.nodes - 1 - uncommitted) in
    (tag : Tag) → HasStateWord tag → state_word tag ≡ first →
    CountsFrom table becomes a_node 1 behind (tag ∷ []) (table.layout.nodes - behind) counts old new

-- The pass has counted the leaves from the number `first` up to the one before `behind`. The last `uncommitted` of them were left out.
abbrev pub CountsLeaves : {G : Type 0} → (table : TableView) (becomes : G → Event → G → Type 0) (first behind uncommitted : ℕ)
    (counts : StateCounts) (old new : SeatView × G) → Type 0
CountsLeaves table becomes first behind uncommitted counts old new =
    let committed : ℕ = behind - first - uncommitted in
    CountsFrom table becomes a_leaf first (first + committed) [] (behind - first - committed) counts old new

-- The pass has loaded how many records of each kind are uncommitted, as `words` says. No other step was made.
pub record LoadsUncommitted (layout : Layout) (words : List ℕ) (old new : SeatView) : Type 0 where
  pub found : HasFoundBounds old new
  pub words_are : (kind : ℕ) → kind < RECORD_KINDS → get_or words kind 0 ≡ uncommitted_in new.bounds kind
  pub taken : HasTakenCommitted layout new

-- The pass has loaded the states of all committed records, nodes first, and made no other step. The counts are of these states. Each that
-- is not free has become one of its failed steps. All other records are uncommitted.
abbrev pub CountsAll : {G : Type 0} → (table : TableView) (becomes : G → Event → G → Type 0) (counts : RecordCounts) (old new : SeatView × G) → Type 0
CountsAll table becomes counts old new =
    (tags : FoundTags) × (found : FindsUncommitted table becomes (loads_in table.layout tags) old new) ×
    OneForEach table.layout (uncommitted_in found.middle.0.bounds) tags × (counts ≡ counts_in table.layout tags) ×
    Does table becomes collecting (loads_in table.layout tags) old new
