-- The law one_pass_refuses_only_new_keys.
use Rattle.hot_index.proofs.Statements.Held.{one_pass_refuses_only_new_keys}
use Rattle.hot_index.proofs.laws.one_pass_refuses_only_new_keys.Goals as goal

pub returns : goal.returns
returns c = one_pass_refuses_only_new_keys
