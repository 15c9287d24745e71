-- Tables and the seats of their passes, as contracts see them.
use Rattle.std.specs.Prelude.{◌≡◌, ◌<◌, ◌≤◌, ◌+◌, ℕ, suc, List, [], get_or, set}
use Rattle.atomic_table.specs.Seated.{TableId}
use Rattle.finite_map.specs.declared.Change.{Change}
use Rattle.record_words.specs.declared.TheConstants.{RECORD_KINDS}
use Rattle.record_words.specs.declared.layout.Layout.{Layout}
use Rattle.rowex_core.specs.declared.event.Event.{Event}
use Rattle.rowex_core.specs.declared.known.Known.{Known}
use Rattle.rowex_table.specs.declared.traces.TracedView.{TracedView}
use Rattle.rowex_table.specs.Rule.{opening_of, loader_of, load_trace, dealt_at, known_of, trace_of}
use Rattle.record_words.specs.Layout.{uncommitted_in, uncommitted_word}
use Rattle.rowex_table.specs.Committed.{AtMost}
use Rattle.rowex_table.specs.Traces.{IsShownRun}

-- What contracts see of a table: which one it is, and its layout.
pub record TableView : Type 0 where
  pub id : TableId
  pub layout : Layout

-- What contracts see of a seat: its table, which one it is there, and what its pass knows. `trace` is the list of steps of all passes, up
-- to the last that this pass knows. `asides` counts the stamps that the pass has made or followed, and its meetings. `touches` counts the
-- words that it has touched. None of these is a step.
pub record SeatView : Type 0 where
  pub table : TableId
  pub id : ℕ
  pub known : Known
  pub trace : List Event
  pub asides : ℕ
  pub touches : ℕ
  pub bounds : List ℕ

-- What contracts see of a stamp: its table, and the changes and the steps that it tells of.
pub record StampView : Type 0 where
  pub table : TableId
  pub front : List Change
  pub trace : List Event

-- the stamp is one of this table
abbrev pub IsStampOf : TableView → StampView → Type 0
IsStampOf table stamp = stamp.table ≡ table.id

-- the seat is one of this table
abbrev pub IsSeatOf : TableView → SeatView → Type 0
IsSeatOf table seat = seat.table ≡ table.id

-- the seat is one of this table, and its pass is one of the table's
abbrev pub IsPassOf : TableView → SeatView → Type 0
IsPassOf table seat = IsSeatOf table seat × (seat.known.pass < table.layout.passes)

-- the two views are of one seat, which has one pass
abbrev pub IsOneSeat : (old new : SeatView) → Type 0
IsOneSeat old new = (new.table ≡ old.table) × (new.id ≡ old.id) × (new.known.pass ≡ old.known.pass)

-- The two views are of one seat. Between them its pass has made or followed no stamp, and met no other pass.
abbrev pub MakesNoAside : (old new : SeatView) → Type 0
MakesNoAside old new =
    (new.table ≡ old.table) × (new.id ≡ old.id) × (new.known.pass ≡ old.known.pass) × (new.asides ≡ old.asides) × AtMost (uncommitted_in new.bounds) (uncommitted_in old.bounds)

-- the seat once its pass has touched `more` words
abbrev pub touched : (more : ℕ) → (seat : SeatView) → SeatView
touched more seat = record seat { touches = seat.touches + more }

-- the seat once its pass has found, or left, this number of records of the kind uncommitted
abbrev pub bounded_seat : (kind count : ℕ) → (seat : SeatView) → SeatView
bounded_seat kind count seat = record seat { bounds = set seat.bounds (uncommitted_word kind) count }

-- The pass has touched some words, at most `most`. Nothing else of its seat has changed: a touch teaches nothing.
abbrev pub HasTouched : (most : ℕ) → (old new : SeatView) → Type 0
HasTouched most old new = (more : ℕ) × (more ≤ most) × (new ≡ touched more old)

-- the seat with `count` as its count of touches, so that two views can be compared without it
abbrev pub touched_to : (count : ℕ) → (seat : SeatView) → SeatView
touched_to count seat = record seat { touches = count }

-- The pass is shown the table's run, and the changes made in it (`IsShownRun`). That counts as one aside and no touch. So it is when the
-- pass follows a stamp or meets another pass.
pub record IsShownAll (layout : Layout) (old new : SeatView) : Type 0 where
  pub pass : new.known.pass ≡ old.known.pass
  pub run : IsShownRun layout old.known.pass old.trace new.trace new.known.front
  pub asides : new.asides ≡ suc old.asides
  pub touches : new.touches ≡ old.touches
  pub bounds : new.bounds ≡ old.bounds

-- the seat's pass knows that all records of the table are committed
abbrev pub HasAllCommitted : SeatView → Type 0
HasAllCommitted seat = (kind : ℕ) → uncommitted_in seat.bounds kind ≡ 0

-- the seat's pass knows that no more records of each kind are uncommitted than this
abbrev pub HasUncommitted : (uncommitted : List ℕ) → SeatView → Type 0
HasUncommitted uncommitted seat = (kind : ℕ) → kind < RECORD_KINDS → uncommitted_in seat.bounds kind ≡ get_or uncommitted kind 0

-- The seat is one of this table, with one of the table's passes. The pass is new: it knows what a new pass knows, and no step, and has made
-- no aside.
abbrev pub IsNewSeat : TableView → SeatView → Type 0
IsNewSeat table seat = IsPassOf table seat × (seat.known ≡ opening_of seat.known.pass) × (seat.trace ≡ []) × (seat.asides ≡ 0)

-- The seat is one of this table, and has the pass of this number. The pass is new: it knows what a new pass knows, and no step, and has
-- made no aside.
abbrev pub IsNewSeatOf : (table : TableView) → (pass : ℕ) → (seat : SeatView) → Type 0
IsNewSeatOf table pass seat = IsSeatOf table seat × (seat.known ≡ opening_of pass) × (seat.trace ≡ []) × (seat.asides ≡ 0)

-- The seat of pass 0 of a table that was made of these words by a bulk load. The load is the one event of its trace, and the pass has made
-- no aside.
abbrev pub IsLoaderSeat : (table : TableView) → (words : List ℕ) → (seat : SeatView) → Type 0
IsLoaderSeat table words seat =
    IsSeatOf table seat × (seat.known ≡ loader_of table.layout words) × (seat.trace ≡ (load_trace words).events) × (seat.asides ≡ 0)

-- The seat has just been dealt with the pass of this number: what it knows, its steps, its asides and its bounds are those of the dealt view.
-- `first` is the table's first view.
abbrev pub IsDealtSeat : (table : TableView) → (first : TracedView) → (pass : ℕ) → (seat : SeatView) → Type 0
IsDealtSeat table first pass seat =
    IsSeatOf table seat × (seat.known ≡ known_of (dealt_at first pass)) × (seat.trace ≡ (trace_of (dealt_at first pass)).events) ×
    (seat.asides ≡ (trace_of (dealt_at first pass)).asides) × (seat.bounds ≡ (trace_of (dealt_at first pass)).bounds)

-- The pass has loaded words that say how many records are uncommitted, or exchanged some. Nothing else of its seat has changed, and no bound
-- that it knew has risen.
abbrev pub HasFoundBounds : (old new : SeatView) → Type 0
HasFoundBounds old new = (bounds : List ℕ) × (new ≡ record old { bounds = bounds }) × AtMost (uncommitted_in bounds) (uncommitted_in old.bounds)
