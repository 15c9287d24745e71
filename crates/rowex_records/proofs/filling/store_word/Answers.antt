-- The word is stored.
use Rattle.rowex_records.proofs.Common.{rules, fills}
use Rattle.rowex_records.proofs.filling.store_word.Goals as goal

pub fill_at-requires-clause-may : goal.fill_at-requires-clause-may
fill_at-requires-clause-may g c =
    let held = c.requires.held in
    fills c.args.table.now.layout _ c.args.at.rec _ _ held.0 c.requires.start.0 c.requires.range.0 (search rules) c.requires.range.1 held.2
