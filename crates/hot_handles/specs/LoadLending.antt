-- What becomes of a load's cell while what it holds is lent, and after.
use Rattle.std.specs.Prelude.{Some}
use Rattle.std.specs.Borrow.{Lends, MutBor, Fml}
use Rattle.hot_handles.specs.declared.held.Held.{Held}
use Rattle.hot_handles.specs.contracts.held.Held.{the_row as held_row}
use Rattle.hot_handles.specs.declared.load.open_load.OpenLoad.{OpenLoad}
use Rattle.hot_handles.specs.declared.load.cell.LoadCell.{LoadCell}
use Rattle.hot_handles.specs.contracts.load.open_load.OpenLoad.{the_row as opened_row}
use Rattle.hot_handles.specs.contracts.load.cell.LoadCell.{the_row as cell_row}

-- the cell of a load, as a holder of an open load
abbrev pub held_load : LoadCell → Held OpenLoad
held_load cell = record { at = cell.at; value = cell.opened }

-- the holder of an open load, as the cell of a load
abbrev pub cell_of_load : Held OpenLoad → LoadCell
cell_of_load held = record { at = held.at; opened = held.value }

-- The cell of a load was lent as a holder of an open load. The cell ends as this holder does.
abbrev pub LendsHeldLoad : (cell : MutBor LoadCell) (held : MutBor (Held OpenLoad)) → Fml
LendsHeldLoad cell held = Lends cell_row (held_row opened_row) cell held cell_of_load

-- the cell of a load, with this open load in it
abbrev pub with_load : (cell : LoadCell) (opened : OpenLoad) → LoadCell
with_load cell opened = record cell { opened = Some opened }

-- The open load in a cell was lent. The cell ends with the last value behind the reference `opened`.
abbrev pub LendsLoad : (cell : MutBor LoadCell) (opened : MutBor OpenLoad) → Fml
LendsLoad cell opened = Lends cell_row opened_row cell opened (with_load cell.now)
