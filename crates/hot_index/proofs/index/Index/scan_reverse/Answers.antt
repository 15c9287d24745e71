-- The range is asked for downwards.
use Rattle.hot_index.proofs.index.Index.scan_reverse.Goals as goal

pub returns : goal.returns
returns c = c.scan_range.ensures
