-- The law removal_full_means_none_free.
use Rattle.hot_index.proofs.Statements.Removed.{removal_full_means_none_free}
use Rattle.hot_index.proofs.laws.removal_full_means_none_free.Goals as goal

pub returns : goal.returns
returns c = removal_full_means_none_free
