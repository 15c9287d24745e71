-- The scan with a gate that is told nothing.
use Rattle.hot_index.proofs.index.Index.scan.Goals as goal

pub returns : goal.returns
returns c = c.scan_with.ensures
