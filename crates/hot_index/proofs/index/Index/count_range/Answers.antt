-- The count with a gate that is told nothing.
use Rattle.hot_index.proofs.index.Index.count_range.Goals as goal

pub returns : goal.returns
returns c = c.count_range_with.ensures
