-- Each word has two of the numbers.
use Rattle.record_words.proofs.Lanes.{pair_at}
use Rattle.record_words.proofs.fixed.words_of_rows.Goals as goal

pub returns-clause-each : goal.returns-clause-each
returns-clause-each c j low = pair_at c.args.rows c.fits-rows.0 c.fits-rows.1 j low
