-- The note is the caller's.
use Rattle.hot_index_calls.proofs.gets.end_get.Given as goal

abbrev pub ghost-unpin : goal.ghost-unpin
ghost-unpin g a = g.said
