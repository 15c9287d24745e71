-- Each lane is chosen by its place.
use Rattle.record_words.proofs.search.NearRows.{selected_long, selected_unused, selected_used}
use Rattle.record_words.proofs.search.with_unused_from.Goals as goal

pub returns-clause-whole : goal.returns-clause-whole
returns-clause-whole c = selected_long c.args.rows c.args.count c.fits-rows.0

pub returns-clause-used : goal.returns-clause-used
returns-clause-used c i used = selected_used c.args.rows c.args.count c.fits-rows.0 i used

pub returns-clause-unused : goal.returns-clause-unused
returns-clause-unused c i low past = selected_unused c.args.rows c.args.count c.fits-rows.0 i low past
