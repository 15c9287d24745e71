-- The layout of this table. To follow a stamp makes no event.
use Rattle.rowex_table.proofs.Common.{Some, ClearPin}
use Rattle.rowex_table.specs.Runs.{silent}
use Rattle.rowex_table.proofs.table.HotTable.follow_stamp.Given as goal

abbrev pub ghosts-follow_stamp_as : goal.ghosts-follow_stamp_as
ghosts-follow_stamp_as a = record { layout = Some a.self.now.layout; act = ClearPin; said = silent }
