-- The pass holds the record, and may release it.
use Rattle.rowex_table.proofs.Rights.{releases}
use Rattle.rowex_records.proofs.Records.{gives_up}
use Rattle.rowex_records.proofs.claiming.give_up_record.Goals as goal

pub release-requires-clause-may : goal.release-requires-clause-may
release-requires-clause-may g c = releases _ _ c.args.rec c.requires.held.0 c.requires.range c.requires.held.2

pub returns : goal.returns
returns g c = gives_up _ _ _ _ _ c.release.ensures
