-- The layout of this table. A meeting makes no event.
use Rattle.rowex_table.proofs.Common.{Some, ClearPin}
use Rattle.rowex_table.specs.Runs.{silent}
use Rattle.rowex_table.proofs.table.HotTable.meet_seats.Given as goal

abbrev pub ghosts-meet_seats_as : goal.ghosts-meet_seats_as
ghosts-meet_seats_as a = record { layout = Some a.self.now.layout; act = ClearPin; said = silent }
