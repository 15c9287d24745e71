-- The law absent_is_never_full.
use Rattle.hot_index.proofs.Statements.Held.{absent_is_never_full}
use Rattle.hot_index.proofs.laws.absent_is_never_full.Goals as goal

pub returns : goal.returns
returns c = absent_is_never_full
