-- Which steps a call makes, one after the other, and what its gate is told.
use Rattle.std.specs.Prelude.{◌≡◌, ◌⊎◌, ◌+◌, ◌*◌, ◌<◌, ◌≤◌, ℕ, All, List, [], ◌∷◌, ◌++◌, length, count_by, Bool, true, false, Result, Ok, Err, IfOk, IfErr}
use Rattle.key_bits.specs.declared.TheConstants.{MAX_BYTES}
use Rattle.finite_map.specs.declared.Call.{Call}
use Rattle.finite_map.specs.declared.Note.{Note}
use Rattle.finite_map.specs.declared.Reply.{Reply}
use Rattle.record_words.specs.Layout.{uncommitted_in}
use Rattle.record_words.specs.declared.layout.Layout.{Layout}
use Rattle.record_words.specs.declared.records.Rec.{Rec}
use Rattle.record_words.specs.declared.records.Rec.TheVariants.{Node as a_node, Leaf as a_leaf}
use Rattle.rowex_core.specs.declared.event.Act.{Act}
use Rattle.rowex_core.specs.declared.event.Act.TheVariants.{LoadEpoch, SetPin, LoadRef, ClearPin}
use Rattle.rowex_core.specs.declared.event.Event.{Event}
use Rattle.rowex_core.specs.declared.event.Spot.TheVariants.{Root}
use Rattle.rowex_core.specs.declared.known.Known.{Known}
use Rattle.rowex_table.specs.Committed.{AtMost}
use Rattle.rowex_table.specs.Runs.{Ends, InTurn, IsTold, Runs, SeesAllOfRun, entry_touches, events_of, silent}
use Rattle.rowex_table.specs.Seats.{TableView, SeatView}
use Rattle.rowex_reading.specs.Lookups.{search_touches}
use Rattle.rowex_reading.specs.Reads.{IsBelowRoot, entries_in}
use Rattle.rowex_scanning.specs.Counts.{scan_entries}
use Rattle.epochs.specs.Rounds.{IsRound, IsSmallRound, IsSparedRound, LoadsPin, VisitEach, VisitsCommitted, advance_steps, committed_records, has_given}
use Rattle.rowex_writing.specs.attempts.Attempts.{AreAttemptSteps}
use Rattle.rowex_writing.specs.declared.attempts.TryFault.{TryFault}
use Rattle.rowex_writing.specs.declared.attempts.TryFault.TheVariants.{Busy, FullNodes, FullLeaves}
use Rattle.rowex_writing.specs.declared.plan.Full.{Full}
use Rattle.rowex_writing.specs.declared.plan.Full.TheVariants.{Nodes, Leaves}
use Rattle.hot_index_calls.specs.Answers.{IsNoted, IsRefusedFor, fault_of}
use Rattle.hot_index_calls.specs.Counts.{most_visited, try_steps, visiting_steps}
use Rattle.hot_index_calls.specs.Noting.{change_notes}
use Rattle.hot_index_calls.specs.Passes.{PassView, pass_of}

-- what becomes of the gate of a call that has none: nothing is said
abbrev pub untold : (before : Unit {0}) (event : Event) (after : Unit {0}) → Type 0
untold before event after = Unit {0}

-- The acts of a call that only reads, but for the last. It loads the epoch, sets its pin, loads the root, and makes these loads of words
-- below the root.
abbrev pub reading : (epoch root : ℕ) (loads : List Act) → List Act
reading epoch root loads = LoadEpoch epoch ∷ SetPin epoch ∷ LoadRef Root root ∷ loads

-- The steps of a call that only reads. It sets its pass's pin, loads the root and then words below the root, and clears the pin. The gate
-- is told each step, and with the last come the call's notes. The load of the root shows the pass all changes made by then.
pub record HasRead {G : Type 0} (index : TableView) (becomes : G → Event → G → Type 0) (old new : PassView × G) : Type 0 where
  pub epoch : ℕ
  pub root : ℕ
  pub loads : List Act
  pub said : Known → List Note
  pub begins : old.0 ≡ pass_of old.0.seat
  pub ends : new.0 ≡ pass_of new.0.seat
  pub below : All IsBelowRoot loads
  pub steps : Ends index becomes (reading epoch root loads) ClearPin said (old.0.seat, old.1) (new.0.seat, new.1)
  pub sees : SeesAllOfRun index.layout old.0.seat new.0.seat
  pub told : IsTold becomes (events_of old.0.number (reading epoch root loads ++ ClearPin ∷ [])) old.1 new.1

-- The steps of a get. It loads one entry in each node on its key's path, at most 2,160: nine for each byte of the longest key. It makes at
-- most 26 steps for each such load, and 36 others: 32 at the leaf, and four on pin and root. For each such load it touches at most four
-- words.
pub record HasMadeGetSteps {G : Type 0} (index : TableView) (becomes : G → Event → G → Type 0) (old new : PassView × G) : Type 0 where
  pub read : HasRead index becomes old new
  pub depth : entries_in read.loads ≤ 9 * MAX_BYTES
  pub few : new.0.steps ≤ old.0.steps + 36 + 26 * entries_in read.loads
  pub touched : new.0.touches ≤ old.0.touches + search_touches * entries_in read.loads

-- The steps of a scan. It loads one entry for each node that it visits, and one for each leaf; the limit bounds their number. It makes at
-- most 26 steps for each such entry, 8 for each pair of its limit, and 101 others. It touches at most eleven words for each such entry.
pub record HasMadeScanSteps {G : Type 0} (index : TableView) (becomes : G → Event → G → Type 0) (limit : ℕ) (old new : PassView × G) : Type 0 where
  pub read : HasRead index becomes old new
  pub most : entries_in read.loads ≤ scan_entries limit
  pub few : new.0.steps ≤ old.0.steps + 101 + 26 * entries_in read.loads + 8 * limit
  pub touched : new.0.touches ≤ old.0.touches + entry_touches * entries_in read.loads

-- The acts of an attempt at a change, but for the last, which clears the pin. The attempt loads the epoch and sets the pin, and tries each
-- lock once at most. The number of acts is bounded by the entries that its search loads, the locks that it tries, and the records of the
-- table.
pub record IsAttempt (layout : Layout) (acts : List Act) : Type 0 where
  pub epoch : ℕ
  pub rest : List Act
  pub acts_are : acts ≡ LoadEpoch epoch ∷ SetPin epoch ∷ rest
  pub steps : AreAttemptSteps layout rest

-- The acts of a round of collection. It loads the epoch, tries once to raise it, unless it is the last, loads it again, and loads each pin.
-- Then it visits each committed record, nodes first: for one that is marked below `bound`, an exchange is to give it back. That `bound` is
-- the least of what the round loaded is not said here. Of each kind no more are uncommitted than `most` says.
pub record AreRoundSteps (layout : Layout) (most : ℕ → ℕ) (acts : List Act) : Type 0 where
  pub epoch : ℕ
  pub found : ℕ
  pub next : ℕ
  pub bound : ℕ
  pub uncommitted : ℕ → ℕ
  pub pins : List Act
  pub nodes : List Act
  pub leaves : List Act
  pub acts_are : acts ≡ LoadEpoch epoch ∷ advance_steps epoch found ++ LoadEpoch next ∷ pins ++ nodes ++ leaves
  pub few : AtMost uncommitted most
  pub loads_pins : InTurn LoadsPin layout.passes pins
  pub visits_nodes : InTurn (λ number. VisitsCommitted layout uncommitted bound (a_node number)) layout.nodes nodes
  pub visits_leaves : InTurn (λ number. VisitsCommitted layout uncommitted bound (a_leaf number)) layout.leaves leaves

-- The acts of a small round of collection. It begins as a whole round does (`AreRoundSteps`), and then visits at most `most` records.
pub record AreSmallSteps (layout : Layout) (most : ℕ) (acts : List Act) : Type 0 where
  pub epoch : ℕ
  pub found : ℕ
  pub next : ℕ
  pub bound : ℕ
  pub pins : List Act
  pub recs : List Rec
  pub visits : List Act
  pub acts_are : acts ≡ LoadEpoch epoch ∷ advance_steps epoch found ++ LoadEpoch next ∷ pins ++ visits
  pub loads_pins : InTurn LoadsPin layout.passes pins
  pub visits_each : VisitEach bound recs visits
  pub few : length recs ≤ most

-- The acts between two attempts at a change: those of a round of collection. With several passes the round may be spared: it begins as one,
-- and visits no record. Of each kind no more are uncommitted than `most` says.
abbrev pub AreStepsBetween : (layout : Layout) (most : ℕ → ℕ) (acts : List Act) → Type 0
AreStepsBetween layout most acts = AreRoundSteps layout most acts ⊎ ((1 < layout.passes) × AreSmallSteps layout 0 acts)

-- the number of this kind: `nodes` for nodes, `leaves` for leaves
abbrev pub of_kind : Full → (nodes leaves : ℕ) → ℕ
of_kind Nodes nodes leaves = nodes
of_kind Leaves nodes leaves = leaves

-- The acts are those between two attempts, and give back no record of this kind. A spared round gives back none at all.
abbrev pub GiveNoneBetween : (layout : Layout) (most : ℕ → ℕ) (kind : Full) (acts : List Act) → Type 0
GiveNoneBetween layout most kind acts =
    ((round : AreRoundSteps layout most acts) × (of_kind kind (count_by has_given round.nodes) (count_by has_given round.leaves) ≡ 0)) ⊎
    ((1 < layout.passes) × AreSmallSteps layout 0 acts)

-- The call's result follows from what its pass did from the seat `old` to the seat `new`. If the call was answered, it is noted. If it was
-- refused, it has changed nothing, and the cause of its fault lies between these seats.
abbrev pub StandsSince : (layout : Layout) (call : Call) (result : Result Reply TryFault) (old new : SeatView) → Type 0
StandsSince layout call result old new =
    IfOk result (IsNoted layout (pass_of old) (pass_of new) call) × IfErr result (IsRefusedFor layout call (pass_of old) (pass_of new))

-- the acts are those of one attempt
abbrev pub IsOneAttempt : {G : Type 0} → (table : TableView) (old new : SeatView × G) (acts : List Act) → Type 0
IsOneAttempt table old new acts = IsAttempt table.layout acts

-- The acts of two attempts, with a whole or spared round of collection between them. The first attempt was refused as full. The call's
-- result is that of the second, and its note comes with the last step. But if the round gave back no record of the kind that the first
-- attempt lacked, the cause of a refusal may lie in both.
pub record AreTwoAttempts {G : Type 0} (table : TableView) (becomes : G → Event → G → Type 0) (call : Call) (result : Result Reply TryFault)
    (old new : SeatView × G) (acts : List Act) : Type 0 where
  pub first : List Act
  pub between : List Act
  pub second : List Act
  pub acts_are : acts ≡ first ++ (ClearPin ∷ between ++ second)
  pub refused : SeatView × G
  pub tries : IsAttempt table.layout first
  pub round : AreStepsBetween table.layout (uncommitted_in refused.0.bounds) between
  pub tries_again : IsAttempt table.layout second
  pub tried : Ends table becomes first ClearPin silent old refused
  pub full : Full
  pub lacked : IsRefusedFor table.layout call (pass_of old.0) (pass_of refused.0) (fault_of full)
  pub rounded : SeatView × G
  pub collected : Runs table becomes between refused rounded
  pub goes_on : Ends table becomes second ClearPin (change_notes call result) rounded new
  pub stands : StandsSince table.layout call result rounded.0 new.0 ⊎
      GiveNoneBetween table.layout (uncommitted_in refused.0.bounds) full between

-- whether the call was refused as full, for want of a node or of a leaf record
abbrev pub is_full : Result Reply TryFault → Bool
is_full (Ok reply) = false
is_full (Err Busy) = false
is_full (Err FullNodes) = true
is_full (Err FullLeaves) = true

-- The acts of one attempt, which was not refused as full. Or those of two, with a round of collection between them, if the first was.
abbrev pub AreTries : {G : Type 0} → (table : TableView) (becomes : G → Event → G → Type 0) (call : Call) (result : Result Reply TryFault)
    (old new : SeatView × G) (acts : List Act) → Type 0
AreTries table becomes call result old new acts =
    (IsAttempt table.layout acts × (is_full result ≡ false)) ⊎ AreTwoAttempts table becomes call result old new acts

-- The acts of a change but for the last, which clears the pin: a small round or none, and then its attempts (`AreTries`).
pub record AreAttempts {G : Type 0} (table : TableView) (becomes : G → Event → G → Type 0) (call : Call) (result : Result Reply TryFault)
    (old new : SeatView × G) (acts : List Act) : Type 0 where
  pub before : List Act
  pub rest : List Act
  pub acts_are : acts ≡ before ++ rest
  pub tidies : (before ≡ []) ⊎ AreSmallSteps table.layout most_visited before
  pub tidied : SeatView × G
  pub steps : Runs table becomes before old tidied
  pub tries : AreTries table becomes call result tidied new rest

-- the pass makes a small round of collection, which visits at most 128 records (`most_visited`), or no step
abbrev pub Tidies : {G : Type 0} → (table : TableView) (becomes : G → Event → G → Type 0) (old new : SeatView × G) → Type 0
Tidies table becomes old new = (new ≡ old) ⊎ IsSmallRound table becomes most_visited old new

-- the pass makes a whole round of collection or, with several passes, one that is spared and visits no record
abbrev pub Collects : {G : Type 0} → (table : TableView) (becomes : G → Event → G → Type 0) (old new : SeatView × G) → Type 0
Collects table becomes old new =
    ((nodes : ℕ) × (leaves : ℕ) × IsRound table becomes old new nodes leaves) ⊎ ((1 < table.layout.passes) × IsSparedRound table becomes old new)

-- The pass makes a whole round of collection that gives back no record of this kind. Or, with several passes, it makes a spared one, which
-- gives back none at all.
abbrev pub CollectsNone : {G : Type 0} → (table : TableView) (becomes : G → Event → G → Type 0) (kind : Full) (old new : SeatView × G) → Type 0
CollectsNone table becomes kind old new =
    ((nodes : ℕ) × (leaves : ℕ) × IsRound table becomes old new nodes leaves × (of_kind kind nodes leaves ≡ 0)) ⊎
    ((1 < table.layout.passes) × IsSparedRound table becomes old new)

-- The call makes steps of which `Are` holds, and then clears its pass's pin. With that last step come the notes that `said` gives.
abbrev pub HasEnded : {G : Type 0} → (table : TableView) (becomes : G → Event → G → Type 0) (Are : List Act → Type 0)
    (said : Known → List Note) (old new : SeatView × G) → Type 0
HasEnded table becomes Are said old new = (acts : List Act) × Are acts × Ends table becomes acts ClearPin said old new

-- The steps of a change: a small round or none, and then one attempt, or two with a round of collection between them. A second attempt
-- follows only a first that was full. The last step clears the pin, and the call's note comes with it, if the call was answered. The gate
-- is told each step. The number of steps is bounded, and that of touched words is at most eleven for each loaded entry. The last load of
-- the root shows the pass all changes made by then.
pub record HasMadeChangeSteps {G : Type 0} (index : TableView) (becomes : G → Event → G → Type 0) (call : Call) (result : Result Reply TryFault)
    (old new : PassView × G) : Type 0 where
  pub acts : List Act
  pub begins : old.0 ≡ pass_of old.0.seat
  pub ends : new.0 ≡ pass_of new.0.seat
  pub tries : AreAttempts index becomes call result (old.0.seat, old.1) (new.0.seat, new.1) acts
  pub steps : Ends index becomes acts ClearPin (change_notes call result) (old.0.seat, old.1) (new.0.seat, new.1)
  pub sees : SeesAllOfRun index.layout old.0.seat new.0.seat
  pub told : IsTold becomes (events_of old.0.number (acts ++ ClearPin ∷ [])) old.1 new.1
  pub few : new.0.steps ≤ old.0.steps + try_steps call index.layout
  pub touched : new.0.touches ≤ old.0.touches + entry_touches * entries_in acts

-- The pass makes steps, at least one, and the gate is told each. With the last come the notes that `said` gives.
abbrev pub HasStepped : {G : Type 0} → (table : TableView) (becomes : G → Event → G → Type 0) (said : Known → List Note)
    (old new : SeatView × G) → Type 0
HasStepped table becomes said old new = (acts : List Act) × (last : Act) × Ends table becomes acts last said old new

-- A call that loads the root makes the steps `acts` and then `last`, and no other. Its notes come with the last. The gate is told each
-- step, in order, and nothing else. The last load of the root shows the pass all changes made by then.
pub record HasMadeCallSteps {G : Type 0} (index : TableView) (becomes : G → Event → G → Type 0) (old new : PassView × G) : Type 0 where
  pub acts : List Act
  pub last : Act
  pub said : Known → List Note
  pub begins : old.0 ≡ pass_of old.0.seat
  pub ends : new.0 ≡ pass_of new.0.seat
  pub steps : Ends index becomes acts last said (old.0.seat, old.1) (new.0.seat, new.1)
  pub sees : SeesAllOfRun index.layout old.0.seat new.0.seat
  pub told : IsTold becomes (events_of old.0.number (acts ++ last ∷ [])) old.1 new.1

-- The pass makes one whole round of collection, which gives back `nodes` node records and `leaves` leaf records. The front stays the same.
-- The gate is told each step. Their number is bounded by that of the records that are committed by what the pass knows then.
pub record HasCollected {G : Type 0} (index : TableView) (becomes : G → Event → G → Type 0) (old new : PassView × G) (nodes leaves : ℕ) : Type 0 where
  pub begins : old.0 ≡ pass_of old.0.seat
  pub ends : new.0 ≡ pass_of new.0.seat
  pub round : IsRound index becomes (old.0.seat, old.1) (new.0.seat, new.1) nodes leaves
  pub front : new.0.front ≡ old.0.front
  pub few : new.0.steps ≤ old.0.steps + visiting_steps index.layout (committed_records index.layout (uncommitted_in new.0.seat.bounds))
