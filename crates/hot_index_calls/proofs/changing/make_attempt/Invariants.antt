-- The note of the call, where it was answered.
use Rattle.hot_index_calls.specs.Noting.{change_notes}
use Rattle.hot_index_calls.proofs.changing.make_attempt.Given as goal

abbrev pub ghost-end_attempt : goal.ghost-end_attempt
ghost-end_attempt g a = change_notes a._call.now a._outcome
