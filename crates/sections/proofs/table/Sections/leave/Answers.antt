-- The store of an open section leaves it.
use Rattle.std.proofs.Common.{refl}
use Rattle.sections.proofs.table.Sections.leave.Goals as goal

pub returns-clause-left : goal.returns-clause-left
returns-clause-left c inside = (refl, c.store_left.ensures)
