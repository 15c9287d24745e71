-- What the call of the index leaves on the pass.
use Rattle.hot_index.proofs.Handles.{stays}
use Rattle.hot_index.proofs.handle.Handle.try_insert.Goals as goal

pub returns : goal.returns
returns g c = stays _ _ _ _ _ _ c.show.ensures c.self.view_is (assumption)
