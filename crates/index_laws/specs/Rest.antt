-- An index whose passes are idle. Which records are free after a round of collection, which stand in the tree, and what a count finds.
use Rattle.std.specs.Prelude.{◌≡◌, ◌⊎◌, ℕ, ◌+◌, ◌-◌, ◌<◌, ◌≤◌, All, List, [], ◌++◌, length, Bool, true, false, if◌then◌else◌, nat_eq, nat_lt, None, count_by}
use Rattle.std.specs.List.{range_with_len}
use Rattle.finite_map.specs.Fronts.{map_of}
use Rattle.record_words.specs.declared.TheConstants.{EPOCHS}
use Rattle.record_words.specs.declared.layout.Layout.{Layout}
use Rattle.record_words.specs.declared.records.Rec.{Rec}
use Rattle.record_words.specs.declared.records.Rec.TheVariants.{Node as a_node, Leaf as a_leaf}
use Rattle.versions.specs.Core.{Fate, Free}
use Rattle.versions.specs.State.{IsLinked}
use Rattle.rowex_core.specs.declared.event.Event.{Event}
use Rattle.rowex_core.specs.Cores.{Core, HasRecord, holder_of}
use Rattle.rowex_core.specs.Opening.{opening}
use Rattle.rowex_core.specs.Runs.{EventsLead}
use Rattle.rowex_table.specs.Committed.{count_from}
use Rattle.rowex_table.specs.Seats.{HasAllCommitted, IsNewSeatOf, SeatView, TableView}
use Rattle.rowex_table.specs.Traces.{IsTableRun}
use Rattle.hot_index_calls.specs.Alone.{RunsAlone}
use Rattle.hot_index_calls.specs.Census.{HasCounted, all_uncommitted}
use Rattle.hot_index_calls.specs.Passes.{IsSettled, PassView}
use Rattle.hot_index_calls.specs.Traces.{HasCollected}
use Rattle.hot_index_calls.specs.declared.census.RecordCounts.{RecordCounts}
use Rattle.hot_index_calls.specs.declared.census.StateCounts.{StateCounts}
use Rattle.linearizability.specs.Configurations.{Happening}
use Rattle.index_laws.specs.Joined.{HasGoneThrough, HaveEndedInOneRun}

-- Who is at work

-- All passes are idle after this run: their traces have ended in it at the seats of `seat`, and each pass is between two calls
-- (`IsSettled`).
pub record AreAllIdle (table : TableView) (run : List Event) (seat : ℕ → SeatView) : Type 0 where
  pub done : ℕ → List Happening
  pub ended : HaveEndedInOneRun table run done seat
  pub settled : (pass : ℕ) → pass < table.layout.passes → IsSettled (seat pass).known

-- In this core no pass owns a record: none is claimed or made ready, and none is unlinked and not yet retired. No pass is pinned.
pub record HasNoneAtWork (core : Core) : Type 0 where
  pub unowned : (rec : Rec) → holder_of (core.fate rec) ≡ None
  pub unpinned : (pass : ℕ) → core.pins pass ≡ None

-- The later steps are the earlier ones, and then steps of the pass alone.
abbrev pub StepsAlone : (pass : ℕ) (earlier later : List Event) → Type 0
StepsAlone pass earlier later = (more : List Event) × (later ≡ earlier ++ more) × All (λ event. event.pass ≡ pass) more

-- What becomes of the records

-- whether a record of this fate is free
abbrev pub is_free_fate : Fate → Bool
is_free_fate Free = true
is_free_fate fate = false

-- how many of the first `count` records of one kind are free
abbrev pub free_below : (core : Core) (kind : ℕ → Rec) (count : ℕ) → ℕ
free_below core kind count = count_by (λ number. is_free_fate (core.fate (kind number))) (range_with_len 0 count)

-- how many keys the core's map has
abbrev pub number_of_keys : Core → ℕ
number_of_keys core = length (map_of core.changes)

-- No record of the core is lost: each is free, or stands in the tree of the newest version. All leaf records are free but one for each key.
-- The node records that aren't free are fewer than the keys, and none if there is no key.
pub record NoneIsLost (core : Core) : Type 0 where
  pub each : (rec : Rec) → HasRecord core.layout rec → (core.fate rec ≡ Free) ⊎ IsLinked (core.past.version core.past.now) rec
  pub leaves : free_below core a_leaf core.layout.leaves + number_of_keys core ≡ core.layout.leaves
  pub nodes : core.layout.nodes ≤ free_below core a_node core.layout.nodes + (number_of_keys core - 1)

-- What a count finds

-- the sum, over all classes of leaf records, of one of the counts of states, which `many` names
abbrev pub of_leaves : (many : StateCounts → ℕ) (counts : RecordCounts) → ℕ
of_leaves many counts = many counts.short + many counts.medium + many counts.large + many counts.wide + many counts.long

-- By the counts, there are as many live leaf records as keys. Live node records are fewer, and none if there is no key. No record is
-- claimed.
pub record CountsKeys (keys : ℕ) (counts : RecordCounts) : Type 0 where
  pub leaves : of_leaves (λ states. states.live) counts ≡ keys
  pub nodes : counts.nodes.live ≤ keys - 1
  pub leaves_held : of_leaves (λ states. states.held) counts ≡ 0
  pub nodes_held : counts.nodes.held ≡ 0

-- By the counts, the live records are those that the keys need (`CountsKeys`), and none is retired. All leaf records are free or uncommitted
-- but one for each key. The node records that are neither are fewer than the keys, and none if there is no key.
pub record CountsNoneLost (layout : Layout) (keys : ℕ) (counts : RecordCounts) : Type 0 where
  pub live : CountsKeys keys counts
  pub leaves_retired : of_leaves (λ states. states.obsolete) counts ≡ 0
  pub nodes_retired : counts.nodes.obsolete ≡ 0
  pub leaves : of_leaves (λ states. states.free) counts + of_leaves (λ states. states.uncommitted) counts + keys ≡ layout.leaves
  pub nodes : layout.nodes ≤ counts.nodes.free + counts.nodes.uncommitted + (keys - 1)

-- how many records these are, in whatever state or uncommitted
abbrev pub all_of : StateCounts → ℕ
all_of states = states.free + states.held + states.live + states.obsolete + states.uncommitted

-- By the counts, each node record, and each leaf record of each class, is in one state, or uncommitted.
pub record CountsEach (layout : Layout) (counts : RecordCounts) : Type 0 where
  pub nodes : all_of counts.nodes ≡ layout.nodes
  pub short : all_of counts.short ≡ layout.medium_from
  pub medium : layout.medium_from + all_of counts.medium ≡ layout.large_from
  pub large : layout.large_from + all_of counts.large ≡ layout.wide_from
  pub wide : layout.wide_from + all_of counts.wide ≡ layout.long_from
  pub long : layout.long_from + all_of counts.long ≡ layout.leaves

-- by the counts, how many records of this one's kind are uncommitted
abbrev pub uncommitted_like : (layout : Layout) (counts : RecordCounts) (rec : Rec) → ℕ
uncommitted_like layout counts (a_node number) = counts.nodes.uncommitted
uncommitted_like layout counts (a_leaf number) =
    if nat_lt number layout.medium_from then counts.short.uncommitted else (if nat_lt number layout.large_from then counts.medium.uncommitted else
    (if nat_lt number layout.wide_from then counts.large.uncommitted else (if nat_lt number layout.long_from then counts.wide.uncommitted else
    counts.long.uncommitted)))

-- Each record that the counts call uncommitted is free in the core. These are the last of each kind.
abbrev pub AreUncommittedFree : (layout : Layout) (counts : RecordCounts) (core : Core) → Type 0
AreUncommittedFree layout counts core =
    (rec : Rec) → HasRecord layout rec → count_from layout rec ≤ uncommitted_like layout counts rec → core.fate rec ≡ Free

-- The laws

-- All passes of the index are idle after the run, and one of them has the seat `start` then. From there this pass goes on alone, up to the
-- seat `end`: behind the run, all steps of its trace are its own.
pub record GoesOnAlone (index : TableView) (run : List Event) (start end : SeatView) : Type 0 where
  pub seat : ℕ → SeatView
  pub idle : AreAllIdle index run seat
  pub pass : start.known.pass < index.layout.passes
  pub seat_is : seat start.known.pass ≡ start
  pub alone : StepsAlone start.known.pass run end.trace

-- Let all passes of an index be idle, and let one go on alone. Its calls are alone, from the seat that it had to the seat that it comes to.
-- So a call is alone wherever it finds the others between two calls.
abbrev pub IdlePassesLeaveAlone : Type 0
IdlePassesLeaveAlone =
    (index : TableView) (run : List Event) (start end : SeatView) → GoesOnAlone index run start end →
    RunsAlone index.layout start.known.pass start end

-- the seats of all passes: `view` for the pass whose seat it is, and what `seat` gives for each other
abbrev pub with_seat : (seat : ℕ → SeatView) (view : SeatView) (pass : ℕ) → SeatView
with_seat seat view pass = if nat_eq pass view.known.pass then view else seat pass

-- `Holds` is true of each core to which the run leads from a new index. If a pass knows the run and has made a step, there is such a core
-- (`IsInOneRun`). A run that isn't legal leads to none.
abbrev pub LeadsTo : (index : TableView) (run : List Event) (Holds : Core → Type 0) → Type 0
LeadsTo index run Holds = (core : Core) → EventsLead (opening index.layout) run core → Holds core

-- An index in which all passes are idle loses no record, while one pass goes on alone. A round must not meet the last epoch, which no step
-- raises: then it might give nothing back. So the steps made are bounded by the number of epochs.
pub record NoRecordIsLost {G : Type 0} (becomes : G → Event → G → Type 0) : Type 0 where
  -- the passes of a new index are idle
  pub begins : (index : TableView) (seat : ℕ → SeatView) → ((pass : ℕ) → pass < index.layout.passes → IsNewSeatOf index pass (seat pass)) →
      AreAllIdle index [] seat
  -- all passes are idle again once one has gone on alone, and is between two calls
  pub goes_on : (index : TableView) (run : List Event) (start end : SeatView) (done : List Happening) (on : GoesOnAlone index run start end) →
      IsTableRun index.layout end.trace → HasGoneThrough index start.known.pass done end → IsSettled end.known →
      AreAllIdle index end.trace (with_seat on.seat end)
  -- after a round of collection no record is lost, if fewer steps have been made than there are epochs
  pub round : (index : TableView) (run : List Event) (old new : PassView × G) (nodes leaves : ℕ) → GoesOnAlone index run old.0.seat new.0.seat →
      length run + 2 < EPOCHS → HasCollected index becomes old new nodes leaves → LeadsTo index new.0.seat.trace NoneIsLost
  -- a count finds as many live records as the keys need
  pub count : (index : TableView) (run : List Event) (old new : PassView × G) (counts : RecordCounts) → GoesOnAlone index run old.0.seat new.0.seat →
      HasCounted index becomes old new counts → LeadsTo index new.0.seat.trace (λ core. CountsKeys (number_of_keys core) counts)
  -- what it calls uncommitted is free
  pub uncommitted : (index : TableView) (run : List Event) (old new : PassView × G) (counts : RecordCounts) →
      GoesOnAlone index run old.0.seat new.0.seat → HasCounted index becomes old new counts →
      LeadsTo index new.0.seat.trace (AreUncommittedFree index.layout counts)
  -- a count after a round finds that all other records are free or uncommitted
  pub both : (index : TableView) (run : List Event) (old middle new : PassView × G) (nodes leaves : ℕ) (counts : RecordCounts) →
      GoesOnAlone index run old.0.seat middle.0.seat → length run + 2 < EPOCHS → HasCollected index becomes old middle nodes leaves →
      StepsAlone middle.0.seat.known.pass middle.0.seat.trace new.0.seat.trace → HasCounted index becomes middle new counts →
      LeadsTo index new.0.seat.trace (λ core. CountsNoneLost index.layout (number_of_keys core) counts)

-- An index of one pass loses no record, between any two of its calls. Its pass has made all changes itself, so the keys are those of the
-- map of its front.
pub record OnePassLosesNone {G : Type 0} (becomes : G → Event → G → Type 0) : Type 0 where
  -- after a round of collection between two calls no record is lost, if fewer steps have been made than there are epochs
  pub round : (index : TableView) (old new : PassView × G) (nodes leaves : ℕ) → index.layout.passes ≡ 1 → IsSettled old.0.seat.known →
      length old.0.seat.trace + 2 < EPOCHS → HasCollected index becomes old new nodes leaves → LeadsTo index new.0.seat.trace NoneIsLost
  -- a count finds as many live records as the keys need
  pub count : (index : TableView) (old new : PassView × G) (counts : RecordCounts) → index.layout.passes ≡ 1 → IsSettled old.0.seat.known →
      0 < index.layout.nodes → HasCounted index becomes old new counts → CountsKeys (length (map_of new.0.front)) counts
  -- what it calls uncommitted is free
  pub uncommitted : (index : TableView) (old new : PassView × G) (counts : RecordCounts) → index.layout.passes ≡ 1 →
      HasCounted index becomes old new counts → LeadsTo index new.0.seat.trace (AreUncommittedFree index.layout counts)
  -- a count after a round finds that all other records are free or uncommitted
  pub both : (index : TableView) (old middle new : PassView × G) (nodes leaves : ℕ) (counts : RecordCounts) → index.layout.passes ≡ 1 →
      IsSettled old.0.seat.known → length old.0.seat.trace + 2 < EPOCHS → HasCollected index becomes old middle nodes leaves →
      HasCounted index becomes middle new counts →
      CountsNoneLost index.layout (length (map_of new.0.front)) counts

-- A count leaves no record out. Each is counted once, in one state or as uncommitted. If the pass knew that all records are committed, none
-- is uncommitted.
pub record CountLeavesNoneOut {G : Type 0} (becomes : G → Event → G → Type 0) : Type 0 where
  pub each : (index : TableView) (old new : PassView × G) (counts : RecordCounts) → HasCounted index becomes old new counts →
      CountsEach index.layout counts
  pub all_committed : (index : TableView) (old new : PassView × G) (counts : RecordCounts) → HasAllCommitted old.0.seat →
      HasCounted index becomes old new counts → all_uncommitted counts ≡ 0
