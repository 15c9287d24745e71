-- What becomes of a section's cell while what it holds is lent, and after.
use Rattle.std.specs.Prelude.{Some}
use Rattle.std.specs.Borrow.{Lends, MutBor, Fml}
use Rattle.hot_handles.specs.declared.held.Held.{Held}
use Rattle.hot_handles.specs.contracts.held.Held.{the_row as held_row}
use Rattle.hot_handles.specs.declared.section.opened.OpenSection.{OpenSection}
use Rattle.hot_handles.specs.declared.section.cell.SectionCell.{SectionCell}
use Rattle.hot_handles.specs.contracts.section.opened.OpenSection.{the_row as opened_row}
use Rattle.hot_handles.specs.contracts.section.cell.SectionCell.{the_row as cell_row}

-- the cell of a section, as a holder of an open section
abbrev pub held_section : SectionCell → Held OpenSection
held_section cell = record { at = cell.at; value = cell.opened }

-- the holder of an open section, as the cell of a section
abbrev pub cell_of_section : Held OpenSection → SectionCell
cell_of_section held = record { at = held.at; opened = held.value }

-- The cell of a section was lent as a holder of an open section. The cell ends as this holder does.
abbrev pub LendsHeldSection : (cell : MutBor SectionCell) (held : MutBor (Held OpenSection)) → Fml
LendsHeldSection cell held = Lends cell_row (held_row opened_row) cell held cell_of_section

-- the cell of a section, with this open section in it
abbrev pub with_section : (cell : SectionCell) (opened : OpenSection) → SectionCell
with_section cell opened = record cell { opened = Some opened }

-- The open section in a cell was lent. The cell ends with the last value behind the reference `opened`.
abbrev pub LendsSection : (cell : MutBor SectionCell) (opened : MutBor OpenSection) → Fml
LendsSection cell opened = Lends cell_row opened_row cell opened (with_section cell.now)
