-- The law all_long_full_means_none_free.
use Rattle.hot_index.proofs.laws.Longs.{all_long_full_means_none_free}
use Rattle.hot_index.proofs.laws.all_long_full_means_none_free.Goals as goal

pub returns : goal.returns
returns c = all_long_full_means_none_free
