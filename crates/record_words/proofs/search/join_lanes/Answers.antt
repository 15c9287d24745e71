-- All lanes, in order.
use Rattle.record_words.proofs.Common.{◌++◌, ◌∙◌, arith, length-append, pick_l_whole}
use Rattle.record_words.proofs.search.join_lanes.Goals as goal

pub returns : goal.returns
returns c = pick_l_whole 0 (c.args.low ++ c.args.high) 32 (length-append c.args.low c.args.high ∙ omega (arith, c.fits-low.0, c.fits-high.0))
