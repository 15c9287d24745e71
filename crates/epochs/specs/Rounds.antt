-- Rounds, which give retired records back: which steps they make.
use Rattle.std.specs.Prelude.{◌≡◌, ◌≢◌, ◌⊎◌, ℕ, ◌<◌, ◌≤◌, ◌+◌, List, [], ◌∷◌, ◌++◌, Bool, true, false, nat_eq, nat_lt, if◌then◌else◌, count_by, get_or, length, min}
use Rattle.std.specs.List.{range_with_len}
use Rattle.record_words.specs.Layout.{uncommitted_in}
use Rattle.record_words.specs.declared.TheConstants.{EPOCHS, LEAF_CLASSES, RECORD_KINDS}
use Rattle.record_words.specs.declared.layout.Layout.{Layout}
use Rattle.record_words.specs.declared.state.Tag.TheVariants.{Obsolete}
use Rattle.record_words.specs.State.{state_word}
use Rattle.versions.specs.Core.{Free, has_seen}
use Rattle.record_words.specs.declared.records.Rec.{Rec}
use Rattle.record_words.specs.declared.records.Rec.TheVariants.{Node as a_node, Leaf as a_leaf}
use Rattle.rowex_core.specs.declared.event.Act.{Act}
use Rattle.rowex_core.specs.declared.event.Event.{Event}
use Rattle.rowex_core.specs.declared.event.Act.TheVariants.{LoadEpoch, Advance, LoadPin, LoadState, GiveBack}
use Rattle.rowex_core.specs.declared.known.Known.{Known}
use Rattle.rowex_table.specs.Runs.{Does, InTurn}
use Rattle.rowex_table.specs.Committed.{AtMost, IsCommitted, TakenAreCommitted, count_from, record_kind}
use Rattle.rowex_table.specs.Seats.{HasFoundBounds, TableView, SeatView}
use Rattle.epochs.specs.Runs.{collecting, paced}
use Rattle.epochs.specs.declared.limbo.Visited.{Visited}
use Rattle.epochs.specs.declared.limbo.Visited.TheVariants.{Given}

-- The exchange that tries to raise `epoch` by one, and finds `found`. At the last epoch there is none. It raises nothing if another pass
-- has raised the epoch meanwhile.
abbrev pub advance_steps : (epoch found : ℕ) → List Act
advance_steps epoch found = if nat_lt (epoch + 1) EPOCHS then Advance epoch found ∷ [] else []

-- the acts are one load of this pass's pin
abbrev pub LoadsPin : (pass : ℕ) → (acts : List Act) → Type 0
LoadsPin pass acts = (word : ℕ) × (acts ≡ LoadPin pass word ∷ [])

-- The acts of a visit of a record. The record's state is loaded. If it is obsolete in an epoch below the bound, one exchange follows, to
-- give the record back (`tries`), which may find another state. Else nothing follows (`passes`).
pub data Visits (bound : ℕ) (rec : Rec) : List Act → Type 0 where
  passes : (word : ℕ) → ((epoch : ℕ) → 1 ≤ epoch → epoch < bound → word ≢ state_word (Obsolete epoch)) → Visits bound rec (LoadState rec word ∷ [])
  tries : (epoch found : ℕ) → 1 ≤ epoch → epoch < bound →
      Visits bound rec (LoadState rec (state_word (Obsolete epoch)) ∷ GiveBack rec epoch found ∷ [])

-- the acts are those of a visit of each of these records, one after the other, in this order
abbrev pub VisitEach : (bound : ℕ) → (recs : List Rec) → (acts : List Act) → Type 0
VisitEach bound [] acts = acts ≡ []
VisitEach bound (rec ∷ recs) acts = (first : List Act) × (rest : List Act) × Visits bound rec first × VisitEach bound recs rest × (acts ≡ first ++ rest)

-- the record is uncommitted: no fewer of its kind are than stand from this one on
abbrev pub IsUncommitted : Layout → (uncommitted : ℕ → ℕ) → Rec → Type 0
IsUncommitted layout uncommitted rec = count_from layout rec ≤ uncommitted (record_kind layout rec)

-- What a round does at a record, where so many of each kind are uncommitted: if the record is committed, the acts are those of a visit. Else
-- there is none.
abbrev pub VisitsCommitted : (layout : Layout) → (uncommitted : ℕ → ℕ) → (bound : ℕ) → (rec : Rec) → (acts : List Act) → Type 0
VisitsCommitted layout uncommitted bound rec acts =
    (IsCommitted layout uncommitted rec × Visits bound rec acts) ⊎ (IsUncommitted layout uncommitted rec × (acts ≡ []))

-- how many of the first `count` records of one kind are committed, where so many of each kind are uncommitted
abbrev pub committed_below : (layout : Layout) → (uncommitted : ℕ → ℕ) → (kind : ℕ → Rec) → (count : ℕ) → ℕ
committed_below layout uncommitted kind count =
    count_by (λ number. nat_lt (uncommitted (record_kind layout (kind number))) (count_from layout (kind number))) (range_with_len 0 count)

-- how many records of the table are committed, where so many of each kind are uncommitted
abbrev pub committed_records : (layout : Layout) → (uncommitted : ℕ → ℕ) → ℕ
committed_records layout uncommitted = committed_below layout uncommitted a_node layout.nodes + committed_below layout uncommitted a_leaf layout.leaves

-- whether the act gives a record back: it is an exchange to that end, and found the state that it expected
abbrev pub has_given : Act → Bool
has_given (GiveBack rec epoch found) = nat_eq found (state_word (Obsolete epoch))
has_given act = false

-- A round. The pass loads the epoch and, unless that is the last one, tries to raise it by one. Then it loads the epoch again, and each
-- pin. The bound is the least of the epoch loaded last and of the pins that are set. Then the pass visits each committed record of the table
-- once, nodes first. It gives `given_nodes` nodes and `given_leaves` leaves back. `uncommitted` says how many records of each kind it found
-- uncommitted: no more than it knew before, and no fewer than it knows then. Each of these was free at the round's first step (`rest`).
pub record IsRound {G : Type 0} (table : TableView) (becomes : G → Event → G → Type 0) (old new : SeatView × G)
    (given_nodes given_leaves : ℕ) : Type 0 where
  pub epoch : ℕ
  pub found : ℕ
  pub next : ℕ
  pub uncommitted : ℕ → ℕ
  pub pins : List Act
  pub nodes : List Act
  pub leaves : List Act
  pub does : Does table becomes collecting (LoadEpoch epoch ∷ advance_steps epoch found ++ LoadEpoch next ∷ pins ++ nodes ++ leaves) old new
  pub few : AtMost uncommitted (uncommitted_in old.0.bounds)
  pub least : AtMost (uncommitted_in new.0.bounds) uncommitted
  pub rest : (rec : Rec) → IsUncommitted table.layout uncommitted rec → does.steps.1.event.core.fate rec ≡ Free
  pub loads_pins : InTurn LoadsPin table.layout.passes pins
  pub visits_nodes : InTurn (λ number. VisitsCommitted table.layout uncommitted new.0.known.round.bound (a_node number)) table.layout.nodes nodes
  pub visits_leaves : InTurn (λ number. VisitsCommitted table.layout uncommitted new.0.known.round.bound (a_leaf number)) table.layout.leaves leaves
  pub nodes_given : given_nodes ≡ count_by has_given nodes
  pub leaves_given : given_leaves ≡ count_by has_given leaves

-- A small round. The pass loads the epoch and, unless that is the last one, tries to raise it by one. Then it loads the epoch again, and
-- each pin. Then it visits the records `recs`, at most `most`. Which they are, and how many it gives back, this doesn't say.
pub record IsSmallRound {G : Type 0} (table : TableView) (becomes : G → Event → G → Type 0) (most : ℕ) (old new : SeatView × G) : Type 0 where
  pub epoch : ℕ
  pub found : ℕ
  pub next : ℕ
  pub pins : List Act
  pub recs : List Rec
  pub visits : List Act
  pub does : Does table becomes collecting (LoadEpoch epoch ∷ advance_steps epoch found ++ LoadEpoch next ∷ pins ++ visits) old new
  pub loads_pins : InTurn LoadsPin table.layout.passes pins
  pub visits_each : VisitEach new.0.known.round.bound recs visits
  pub few : length recs ≤ most

-- A spared round, which begins as each round does, and visits no record.
abbrev pub IsSparedRound : {G : Type 0} → (table : TableView) → (becomes : G → Event → G → Type 0) → (old new : SeatView × G) → Type 0
IsSparedRound table becomes old new = IsSmallRound table becomes 0 old new

-- The parts of a round

-- The pass has loaded the first `count` pins since its last load of the epoch. The bound of its round is `bound`, so the least of that
-- epoch and of the pins that it found set since.
pub record HasBound (count bound : ℕ) (known : Known) : Type 0 where
  pub least : known.round.bound ≡ bound
  pub seen : (pass : ℕ) → pass < count → has_seen known.round.seen pass ≡ true

-- The pass loads the epoch and, unless that is the last one, tries to raise it by one. The epoch stays if another pass has raised it
-- meanwhile. Of what the pass knows only its pin and its round may change.
abbrev pub AdvancesEpoch : {G : Type 0} → (table : TableView) → (becomes : G → Event → G → Type 0) → (old new : SeatView × G) → Type 0
AdvancesEpoch table becomes old new = (epoch : ℕ) × (found : ℕ) × Does table becomes paced (LoadEpoch epoch ∷ advance_steps epoch found) old new

-- The pass loads the epoch, and then the first `count` pins, in the order of their numbers. The round's bound is the least of these. Of
-- what the pass knows only its pin and its round may change.
abbrev pub FindsBound : {G : Type 0} → (table : TableView) → (becomes : G → Event → G → Type 0) → (count : ℕ) → (old new : SeatView × G) →
    Type 0
FindsBound table becomes count old new =
    (next : ℕ) × (pins : List Act) × InTurn LoadsPin count pins × Does table becomes paced (LoadEpoch next ∷ pins) old new

-- So each round begins. The pass loads the epoch and, unless that is the last one, tries to raise it by one. Then it loads the epoch again,
-- and each pin.
abbrev pub BeginsRound : {G : Type 0} → (table : TableView) → (becomes : G → Event → G → Type 0) → (old new : SeatView × G) → Type 0
BeginsRound {G = G} table becomes old new =
    (middle : SeatView × G) × AdvancesEpoch table becomes old middle × FindsBound table becomes table.layout.passes middle new

-- whether a visit that came to this gave its record back
abbrev pub is_given : Visited → Bool
is_given Given = true
is_given seen = false

-- the pass visits this record, and gives it back exactly if `given` is true
abbrev pub VisitsOne : {G : Type 0} → (table : TableView) → (becomes : G → Event → G → Type 0) → (bound : ℕ) → (rec : Rec) →
    (given : Bool) → (old new : SeatView × G) → Type 0
VisitsOne table becomes bound rec given old new =
    (acts : List Act) × Visits bound rec acts × Does table becomes collecting acts old new × (count_by has_given acts ≡ if given then 1 else 0)

-- the count of a kind in a list of the counts of all kinds
abbrev pub count_of_kind : (counts : List ℕ) → (kind : ℕ) → ℕ
count_of_kind counts kind = get_or counts (min kind LEAF_CLASSES) 0

-- The pass has loaded how many records of each of the first `kinds` kinds are uncommitted, and found these counts. That is no step: of what
-- is seen of its seat only its bounds have changed. No step of which it knows has taken one of these records.
pub record LoadsUncommitted (layout : Layout) (kinds : ℕ) (counts : List ℕ) (old new : SeatView) : Type 0 where
  pub found : HasFoundBounds old new
  pub few : (kind : ℕ) → kind < kinds → count_of_kind counts kind ≤ uncommitted_in old.bounds kind
  pub least : (kind : ℕ) → kind < kinds → uncommitted_in new.bounds kind ≤ count_of_kind counts kind
  pub taken : (kind : ℕ) → kind < kinds → TakenAreCommitted layout old.trace kind (count_of_kind counts kind)

-- the pass visits those of the first `count` records of the kind that are committed, in the order of their numbers, and gives `given` back
abbrev pub VisitsFirst : {G : Type 0} → (table : TableView) → (becomes : G → Event → G → Type 0) → (uncommitted : ℕ → ℕ) → (bound : ℕ) →
    (kind : ℕ → Rec) → (count given : ℕ) → (old new : SeatView × G) → Type 0
VisitsFirst table becomes uncommitted bound kind count given old new =
    (acts : List Act) × InTurn (λ number. VisitsCommitted table.layout uncommitted bound (kind number)) count acts ×
    Does table becomes collecting acts old new × (given ≡ count_by has_given acts)

-- The pass loads how many records of each kind are uncommitted. Then it visits each committed record of the table, nodes first. It gives
-- `given_nodes` nodes and `given_leaves` leaves back.
pub record VisitsTable {G : Type 0} (table : TableView) (becomes : G → Event → G → Type 0) (bound given_nodes given_leaves : ℕ)
    (old new : SeatView × G) : Type 0 where
  pub counts : List ℕ
  pub begun : SeatView
  pub loads : LoadsUncommitted table.layout RECORD_KINDS counts old.0 begun
  pub middle : SeatView × G
  pub nodes : VisitsFirst table becomes (count_of_kind counts) bound a_node table.layout.nodes given_nodes (begun, old.1) middle
  pub leaves : VisitsFirst table becomes (count_of_kind counts) bound a_leaf table.layout.leaves given_leaves middle new

-- From `old` to `new` the pass goes on with its visits. Take any start from which it had visited the first `before.0` records of the kind
-- and given `before.1` of them back. From there it has now visited the first `after.0`, and given `after.1` of these back.
abbrev pub GoesOnVisiting : {G : Type 0} → (table : TableView) → (becomes : G → Event → G → Type 0) → (uncommitted : ℕ → ℕ) → (bound : ℕ) →
    (kind : ℕ → Rec) → (before after : ℕ × ℕ) → (old new : SeatView × G) → Type 0
GoesOnVisiting {G = G} table becomes uncommitted bound kind before after old new =
    (first : SeatView × G) → VisitsFirst table becomes uncommitted bound kind before.0 before.1 first old →
    VisitsFirst table becomes uncommitted bound kind after.0 after.1 first new

-- the pass visits some records, at most `most`; which they are, this doesn't say
abbrev pub VisitsSome : {G : Type 0} → (table : TableView) → (becomes : G → Event → G → Type 0) → (bound most : ℕ) →
    (old new : SeatView × G) → Type 0
VisitsSome table becomes bound most old new =
    (recs : List Rec) × (acts : List Act) × VisitEach bound recs acts × Does table becomes collecting acts old new × (length recs ≤ most)
