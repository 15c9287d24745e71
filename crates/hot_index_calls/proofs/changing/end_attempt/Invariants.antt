-- The notes are the caller's.
use Rattle.hot_index_calls.proofs.changing.end_attempt.Given as goal

abbrev pub ghost-unpin : goal.ghost-unpin
ghost-unpin g a = g.said
