-- The word of this kind, and the exchange.
use Rattle.std.specs.Prelude.{Some}
use Rattle.rowex_table.proofs.table.HotTable.commit_records.Given as goal

abbrev pub ghosts-commit_records_as : goal.ghosts-commit_records_as
ghosts-commit_records_as a = record { layout = Some a.self.now.layout; kind = a.kind; expected = a.expected; count = a.count }
