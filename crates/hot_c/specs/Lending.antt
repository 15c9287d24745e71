-- What becomes of a handle's cell while what it holds is lent, and after.
use Rattle.std.specs.Prelude.{Some}
use Rattle.std.specs.Borrow.{Lends, MutBor, Fml}
use Rattle.hot_handles.specs.declared.held.Held.{Held}
use Rattle.hot_handles.specs.contracts.held.Held.{the_row as held_row}
use Rattle.hot_c.specs.declared.opened.Opened.{Opened}
use Rattle.hot_c.specs.declared.cell.HandleCell.{HandleCell}
use Rattle.hot_c.specs.contracts.opened.Opened.{the_row as opened_row}
use Rattle.hot_c.specs.contracts.cell.HandleCell.{the_row as cell_row}

-- the cell of a handle, as a holder of an open handle
abbrev pub held_opened : HandleCell → Held Opened
held_opened cell = record { at = cell.at; value = cell.opened }

-- the holder of an open handle, as the cell of a handle
abbrev pub cell_of_opened : Held Opened → HandleCell
cell_of_opened held = record { at = held.at; opened = held.value }

-- The cell of a handle was lent as a holder of an open handle. The cell ends as this holder does.
abbrev pub LendsHeldOpened : (cell : MutBor HandleCell) (held : MutBor (Held Opened)) → Fml
LendsHeldOpened cell held = Lends cell_row (held_row opened_row) cell held cell_of_opened

-- the cell of a handle, with this open handle in it
abbrev pub with_opened : (cell : HandleCell) (opened : Opened) → HandleCell
with_opened cell opened = record cell { opened = Some opened }

-- The open handle in a cell was lent. The cell ends with the last value behind the reference `opened`.
abbrev pub LendsOpened : (cell : MutBor HandleCell) (opened : MutBor Opened) → Fml
LendsOpened cell opened = Lends cell_row opened_row cell opened (with_opened cell.now)
