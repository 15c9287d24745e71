-- The words are made of the highest bytes.
use Rattle.std.proofs.Common.{ap, ◌^◌}
use Rattle.record_words.specs.Kinds.{lane_words}
use Rattle.record_words.proofs.fixed.Highs.{bytes_fit, highs_are}
use Rattle.record_words.proofs.fixed.words_of_high_bytes.Goals as goal
use lib.Lanes.{digits_l, number_l}

pub overflow_cast-result : goal.overflow_cast-result
overflow_cast-result c = bytes_fit 32 c.args.rows c.fits-rows.1

pub returns : goal.returns
unfolding lane_words
returns c = ap (λ lanes. digits_l (2 ^ 64) 4 (number_l (2 ^ 8) lanes)) (highs_are 24 c.args.rows c.fits-rows.0)
