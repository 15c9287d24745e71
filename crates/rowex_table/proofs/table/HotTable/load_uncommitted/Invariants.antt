-- The word of this kind.
use Rattle.std.specs.Prelude.{Some}
use Rattle.rowex_table.proofs.table.HotTable.load_uncommitted.Given as goal

abbrev pub ghosts-load_uncommitted_as : goal.ghosts-load_uncommitted_as
ghosts-load_uncommitted_as a = record { layout = Some a.self.now.layout; kind = a.kind; expected = 0; count = 0 }
