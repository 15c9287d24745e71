-- The pass holds the record, and its words spell a value.
use Rattle.rowex_table.proofs.Rights.{readies}
use Rattle.rowex_records.proofs.Records.{readies_of}
use Rattle.rowex_records.proofs.filling.make_ready.Goals as goal

pub ready-requires-clause-may : goal.ready-requires-clause-may
ready-requires-clause-may g c = let f = c.requires.filled in readies _ _ c.args.rec f.0 c.requires.range f.1.0 f.1.1 f.2

pub returns : goal.returns
returns g c = readies_of _ _ _ _ _ c.ready.ensures
