-- The law one_pass_is_never_busy.
use Rattle.hot_index.proofs.Statements.Alone.{one_pass_is_never_busy}
use Rattle.hot_index.proofs.laws.one_pass_is_never_busy.Goals as goal

pub returns : goal.returns
returns c = one_pass_is_never_busy
