-- What steps on pins and in rounds change of what their pass knows.
use Rattle.std.specs.Prelude.{ℕ, [], ◌∷◌}
use Rattle.rowex_core.specs.declared.event.Act.TheVariants.{LoadEpoch, SetPin}
use Rattle.rowex_core.specs.declared.event.Event.{Event}
use Rattle.rowex_core.specs.declared.known.Known.{Known}
use Rattle.rowex_table.specs.Runs.{Does}
use Rattle.rowex_table.specs.Seats.{TableView, SeatView}

-- What the pass knew before, but with its pin and its round as they are now. Steps on the epoch and on pins change nothing else.
abbrev pub paced : (old new : Known) → Known
paced old new = record old { pin = new.pin; round = new.round }

-- What the pass knew before, but with its pin, its round and its failed steps as they are now. A load of a state that is not free is a
-- failed step.
abbrev pub collecting : (old new : Known) → Known
collecting old new = record (paced old new) { failed = new.failed }

-- The pass sets its pin: it loads the epoch, and stores the epoch that it found. Of what it knows only its pin and its round change.
abbrev pub Pins : {G : Type 0} → (table : TableView) → (becomes : G → Event → G → Type 0) → (old new : SeatView × G) → Type 0
Pins table becomes old new = (epoch : ℕ) × Does table becomes paced (LoadEpoch epoch ∷ SetPin epoch ∷ []) old new
