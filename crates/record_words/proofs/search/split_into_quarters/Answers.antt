-- Each lane is a quarter of a word.
use Rattle.record_words.proofs.Lanes.{quarter_at}
use Rattle.record_words.proofs.search.split_into_quarters.Goals as goal

pub returns-clause-each : goal.returns-clause-each
returns-clause-each c i low = quarter_at c.args.words c.fits-words.0 c.fits-words.1 i low
