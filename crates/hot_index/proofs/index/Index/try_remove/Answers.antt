-- The try with a gate that is told nothing.
use Rattle.hot_index.proofs.index.Index.try_remove.Goals as goal

pub returns : goal.returns
returns c = c.try_remove_with.ensures
