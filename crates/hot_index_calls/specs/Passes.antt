-- What contracts see of an index and of its passes.
use Rattle.std.specs.Prelude.{◌≡◌, ◌<◌, ℕ, All, List, [], None}
use Rattle.atomic_table.specs.Seated.{TableId}
use Rattle.finite_map.specs.declared.Change.{Change}
use Rattle.finite_map.specs.declared.Note.{Note}
use Rattle.finite_map.specs.Calls.{LegalCalls}
use Rattle.finite_map.specs.Fronts.{BeginsWith}
use Rattle.record_words.specs.declared.layout.Layout.{Layout}
use Rattle.rowex_core.specs.declared.known.Failed.{Failed}
use Rattle.rowex_core.specs.declared.known.Fresh.{Fresh}
use Rattle.rowex_core.specs.declared.known.Known.{Known}
use Rattle.rowex_table.specs.Rule.{opening_of}
use Rattle.rowex_table.specs.Seats.{TableView, SeatView}

-- What contracts see of a pass: its seat in the table, and what the seat knows, part by part. `front` are the changes that the pass has
-- seen, and `fresh` says what its last load of the root showed. `notes` are its answered calls. `steps` counts its steps, `touches` the
-- words that it has touched beside its steps, and `failed` are its failed steps.
pub record PassView : Type 0 where
  pub seat : SeatView
  pub table : TableId
  pub number : ℕ
  pub front : List Change
  pub fresh : Fresh
  pub notes : List Note
  pub steps : ℕ
  pub touches : ℕ
  pub failed : List Failed

-- what contracts see of the pass of a seat
abbrev pub pass_of : SeatView → PassView
pass_of seat = record {
  seat = seat;
  table = seat.table;
  number = seat.known.pass;
  front = seat.known.front;
  fresh = seat.known.fresh;
  notes = seat.known.notes;
  steps = seat.known.steps;
  touches = seat.touches;
  failed = seat.known.failed;
}

-- the pass belongs to this index: the number of its table is the index's
abbrev pub Owns : (index : TableView) (pass : PassView) → Type 0
Owns index pass = pass.table ≡ index.id

-- each of these changes was made by a pass of an index with this layout
abbrev pub AreByPasses : (layout : Layout) (changes : List Change) → Type 0
AreByPasses layout changes = All (λ change. change.pass < layout.passes) changes

-- The pass is between two calls: it has no record of its own, no lock and no pin. Its front begins with what its last load of the root
-- showed, and that load is one of its steps, or none was made. Its calls are legal in its front.
pub record IsSettled (known : Known) : Type 0 where
  pub own : known.own ≡ []
  pub locks : known.locks ≡ []
  pub anchor : known.anchor ≡ None
  pub pin : known.pin ≡ None
  pub fresh : BeginsWith known.front known.fresh.front
  pub loaded : known.fresh.step < known.steps
  pub legal : LegalCalls known.front known.pass known.notes

-- The pass has this number, and has made no call, no step and no aside. It has seen no change, and knows no step of any pass.
abbrev pub IsNewPass : (number : ℕ) (pass : PassView) → Type 0
IsNewPass number pass =
    (pass.number ≡ number) × (pass.front ≡ []) × (pass.notes ≡ []) × (pass.seat.known ≡ opening_of number) × (pass.seat.trace ≡ []) × (pass.seat.asides ≡ 0)
