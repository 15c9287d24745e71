-- Each lane is a half of a word.
use Rattle.record_words.proofs.Lanes.{half_at}
use Rattle.record_words.proofs.search.split_into_halves.Goals as goal

pub returns-clause-each : goal.returns-clause-each
returns-clause-each c i low = half_at c.args.words c.fits-words.0 c.fits-words.1 i low
