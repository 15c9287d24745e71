-- The law held_is_never_full.
use Rattle.hot_index.proofs.Statements.Held.{held_is_never_full}
use Rattle.hot_index.proofs.laws.held_is_never_full.Goals as goal

pub returns : goal.returns
returns c = held_is_never_full
