-- The change of a copy of the key.
use Rattle.hot_index.proofs.index.Index.upsert.Goals as goal

pub returns : goal.returns
returns g c = rw c.copy.ensures.same at c.retry_change_with.ensures
