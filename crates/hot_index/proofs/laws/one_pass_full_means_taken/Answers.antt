-- The law one_pass_full_means_taken.
use Rattle.hot_index.proofs.Statements.Alone.{one_pass_full_means_taken}
use Rattle.hot_index.proofs.laws.one_pass_full_means_taken.Goals as goal

pub returns : goal.returns
returns c = one_pass_full_means_taken
