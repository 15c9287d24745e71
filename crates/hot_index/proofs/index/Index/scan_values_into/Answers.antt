-- The scan with a gate that is told nothing.
use Rattle.hot_index.proofs.index.Index.scan_values_into.Goals as goal

pub returns : goal.returns
returns c = c.scan_values_into_with.ensures
